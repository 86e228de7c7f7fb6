-- The laws of bills: one induction over the rate number, one over the row.
use Rattle.base.proofs.Prelude.{◌≡◌, refl, sym, ap, ap₂, ◌∙◌, Bool, true, false, not, cond, List, [], ◌∷◌, map, ℕ, zero, suc, ◌+◌, ◌*◌, ◌/◌, ◌%◌, ◌<◌}
use Rattle.base.proofs.Prelude.{arith, leb, leb-false, get_or, zero-add, List·getD-map}
use native.Mathlib.Nat.{mul-add, mul-zero}
use lib.IntN.{ℤ}
use Rattle.base.specs.Numbers.{positive_part}
use Rattle.energy.specs.declared.Energy.{Energy}
use Rattle.energy.specs.declared.EnergyRefusal.{EnergyRefusal}
use Rattle.std.specs.Prelude.{Result, Ok, Err}
use Rattle.energy.specs.Energy.{energy_of, amount_of}
use Rattle.energy.specs.Days.{total, day_of}
use Rattle.energy.proofs.Sums.{total_append}
use Rattle.energy.proofs.Joins.{amount_of_lem, sum_exact}
use Rattle.tariff.specs.declared.Charge.{Charge}
use Rattle.tariff.specs.declared.TariffRefusal.TheVariants.{PriceTooHigh, RestTooLarge, ImportOutOfRange}
use Rattle.tariff.specs.Charges.{price_at, import_at, sum_below, costs, charge_of, with_rate}
use Rattle.tariff.specs.Bills.{are_prices, are_imports, billed}
use Rattle.tariff.specs.Laws.{ExactCharge, charged, after_rates, Row, none, next, at_prices, energy_at, joined_to, joined_at, imports_of, samples_at, Laws}
use Rattle.tariff.proofs.Costs.{rest_only, rate_next}

-- ---- a charge is exact
exactly : (n : ℕ) → ExactCharge (charge_of n).cents (charge_of n).rest n
exactly n = record { parts = whole n; below_cent = less n }
  where
    whole : (n : ℕ) → 3600000 * (n / 3600000) + n % 3600000 ≡ n
    whole n = omega arith

    less : (n : ℕ) → n % 3600000 < 3600000
    less n = omega arith

-- ---- after k rates
after : (k rest : ℕ) (ps : List ℕ) (es : List Energy) → rest < 3600000 → after_rates k rest ps es ≡ charge_of (rest + costs k ps es)
unfolding after_rates sum_below
after zero rest ps es h = rest_only rest h
after (suc k) rest ps es h = ap (λ (c : Charge). with_rate c (price_at ps k) (import_at es k)) (after k rest ps es h) ∙ rate_next rest k ps es

-- ---- an accepted bill
taken : (x y z : Bool) (d c : Charge) → cond x (Err PriceTooHigh) (cond y (Err RestTooLarge) (cond z (Err ImportOutOfRange) (Ok d))) ≡ Ok c → (y ≡ false) × (c ≡ d)
taken true y z d c e = cc
taken false true z d c e = cc
taken false false true d c e = cc
taken false false false d c e = (refl, cc)

module _ (rest : ℕ) (ps : List ℕ) (es : List Energy) (c : Charge) (e : billed rest ps es ≡ Ok c) where
  tested : (leb 3600000 rest ≡ false) × (c ≡ charge_of (rest + costs 4 ps es))
  unfolding billed
  tested = taken (not (are_prices ps)) (leb 3600000 rest) (not (are_imports es)) (charge_of (rest + costs 4 ps es)) c e

  accepted : ExactCharge c.cents c.rest (rest + costs 4 ps es)
  accepted = rw tested.1 (exactly (rest + costs 4 ps es))

  by_rates : c ≡ after_rates 4 rest ps es
  by_rates = tested.1 ∙ sym (after 4 rest ps es (leb-false 3600000 rest tested.0))

-- ---- a row, whatever the prices
all_costs : List (List ℕ × List Energy) → ℕ
all_costs [] = 0
all_costs (d ∷ ds) = costs 4 d.0 d.1 + all_costs ds

row_exact : {rest : ℕ} {bills : List (List ℕ × List Energy)} {sum last : ℕ} → rest < 3600000 → Row rest bills sum last → ExactCharge sum last (rest + all_costs bills)
unfolding all_costs
row_exact h none = record { parts = omega arith; below_cent = h }
row_exact h (next {rest} {ps} {es} {c} {bills} {sum} {last} e r) =
    let a = accepted rest ps es c e in
    let b = row_exact a.below_cent r in
    record {
      parts = added c.cents c.rest rest sum last (costs 4 ps es) (all_costs bills) a.parts b.parts;
      below_cent = b.below_cent;
    }
  where
    added : (a b rest sum last x y : ℕ) → 3600000 * a + b ≡ rest + x → 3600000 * sum + last ≡ b + y → 3600000 * (a + sum) + last ≡ rest + (x + y)
    added a b rest sum last x y p q = omega arith

-- ---- sums over the rate number
sum_ext : (k : ℕ) (f g : ℕ → ℕ) → ((j : ℕ) → j < k → f j ≡ g j) → sum_below k f ≡ sum_below k g
unfolding sum_below
sum_ext zero f g h = refl
sum_ext (suc k) f g h = ap₂ (λ (m n : ℕ). m + n) (sum_ext k f g (λ j l. h j (omega arith))) (h k (omega arith))

sum_add : (k : ℕ) (f g : ℕ → ℕ) → sum_below k f + sum_below k g ≡ sum_below k (λ j. f j + g j)
unfolding sum_below
sum_add zero f g = refl
sum_add (suc k) f g = omega (arith, sum_add k f g)

sum_zero : (k : ℕ) (f : ℕ → ℕ) → ((j : ℕ) → f j ≡ 0) → sum_below k f ≡ 0
unfolding sum_below
sum_zero zero f h = refl
sum_zero (suc k) f h = omega (arith, sum_zero k f h, h k)

-- ---- constant prices: the costs of all bills are those of all the energy, rate by rate
module _ (ps : List ℕ) where
  by_rate : (ess : List (List Energy)) → all_costs (at_prices ps ess) ≡ charged 4 ps (energy_at ess)
  unfolding all_costs energy_at
  by_rate [] = sym (sum_zero 4 (λ j. price_at ps j * 0) (λ j. mul-zero (price_at ps j)))
  by_rate (es ∷ ess) =
      ap (λ (n : ℕ). costs 4 ps es + n) (by_rate ess)
      ∙ sum_add 4 (λ j. price_at ps j * amount_of (import_at es j)) (λ j. price_at ps j * energy_at ess j)
      ∙ sum_ext 4 _ _ (λ j l. sym (mul-add (price_at ps j) (amount_of (import_at es j)) (energy_at ess j)))

  row : (ess : List (List Energy)) (sum last : ℕ) → Row 0 (at_prices ps ess) sum last → ExactCharge sum last (charged 4 ps (energy_at ess))
  row ess sum last r = rw (← by_rate ess, ← zero-add (all_costs (at_prices ps ess))) (row_exact (omega arith) r)

  -- another measure of the energy at each rate
  same : (f g : ℕ → ℕ) → ((k : ℕ) → k < 4 → f k ≡ g k) → charged 4 ps f ≡ charged 4 ps g
  same f g h = sum_ext 4 (λ j. price_at ps j * f j) (λ j. price_at ps j * g j) (λ j l. ap (λ (n : ℕ). price_at ps j * n) (h j l))

-- joined: the sum is exact
joined_amount : (ess : List (List Energy)) (k : ℕ) (e : Energy) → joined_at ess k ≡ Ok e → energy_at ess k ≡ amount_of e
unfolding joined_at energy_at
joined_amount [] k e h = let z : energy_of 0 ≡ e = cc in ap amount_of z
joined_amount (es ∷ ess) k e h = go (joined_at ess k) (λ s p. joined_amount ess k s p) h
  where
    go : (j : Result Energy EnergyRefusal) → ((s : Energy) → j ≡ Ok s → energy_at ess k ≡ amount_of s) → joined_to (import_at es k) j ≡ Ok e
        → amount_of (import_at es k) + energy_at ess k ≡ amount_of e
    go (Ok s) p q = ap (λ (n : ℕ). amount_of (import_at es k) + n) (p s refl) ∙ sym (sum_exact (import_at es k) s e q).amount
    go (Err r) p q = cc

-- samples: an import is the sum of the powers above zero
import_amount : (xss : List (List ℤ)) (k : ℕ) → amount_of (import_at (imports_of xss) k) ≡ total positive_part (get_or xss k [])
unfolding total
import_amount xss k = ap amount_of (List·getD-map (λ xs. (day_of xs).import) xss k []) ∙ amount_of_lem (total positive_part (get_or xss k []))

samples_amount : (xsss : List (List (List ℤ))) (k : ℕ) → energy_at (map imports_of xsss) k ≡ total positive_part (samples_at xsss k)
unfolding energy_at samples_at total
samples_amount [] k = refl
samples_amount (xss ∷ rest) k =
    ap₂ (λ (m n : ℕ). m + n) (import_amount xss k) (samples_amount rest k) ∙ sym (total_append positive_part (get_or xss k []) (samples_at rest k))

pub laws : Laws
laws = record {
  after_any_rates = λ k rest ps es h. rw (after k rest ps es h) (exactly (rest + costs k ps es));
  by_rates = by_rates;
  one_bill = accepted;
  row = row;
  row_joined = λ ps ess js sum last r h. rw (← same ps (energy_at ess) (λ k. amount_of (import_at js k)) (λ k l. joined_amount ess k (import_at js k) (h k l))) (row ps ess sum last r);
  row_samples = λ ps xsss sum last r. rw (← same ps (energy_at (map imports_of xsss)) (λ k. total positive_part (samples_at xsss k)) (λ k l. samples_amount xsss k)) (row ps (map imports_of xsss) sum last r);
}
