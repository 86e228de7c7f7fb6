-- What a bill and a row of bills come to.
use Rattle.std.specs.Prelude.{◌≡◌, List, [], ◌∷◌, ◌++◌, map, ℕ, zero, suc, ◌+◌, ◌*◌, ◌<◌, ℤ, get_or, Result, Ok, Err}
use Rattle.base.specs.Numbers.{positive_part}
use Rattle.energy.specs.declared.Energy.{Energy}
use Rattle.energy.specs.declared.EnergyRefusal.{EnergyRefusal}
use Rattle.energy.specs.Energy.{energy_of, amount_of}
use Rattle.energy.specs.Days.{total, day_of}
use Rattle.energy.specs.Joins.{joined}
use Rattle.tariff.specs.declared.Charge.{Charge}
use Rattle.tariff.specs.Charges.{price_at, import_at, sum_below, with_rate}
use Rattle.tariff.specs.Bills.{billed}

-- cents and rest are so many parts of a cent: exactly, and the rest is less than a cent
pub record ExactCharge (cents rest n : ℕ) : Type 0 where
  pub parts : 3600000 * cents + rest ≡ n
  pub below_cent : rest < 3600000

-- what each rate below k costs, at a price for a number of watt-seconds each
abbrev pub charged : ℕ → List ℕ → (ℕ → ℕ) → ℕ
charged k ps amount = sum_below k (λ j. price_at ps j * amount j)

-- after the rates below k, each reduced at once
unfoldable pub after_rates : ℕ → ℕ → List ℕ → List Energy → Charge
after_rates zero rest ps es = record { cents = 0; rest = rest }
after_rates (suc k) rest ps es = with_rate (after_rates k rest ps es) (price_at ps k) (import_at es k)

-- 'any row of accepted bills ..': the rest that the first starts with, prices and imports of each bill, the sum of their cents, the last rest
pub data Row : ℕ → List (List ℕ × List Energy) → ℕ → ℕ → Type 0 where
  none : {rest : ℕ} → Row rest [] 0 rest
  next : {rest : ℕ} {ps : List ℕ} {es : List Energy} {c : Charge} {bills : List (List ℕ × List Energy)} {sum last : ℕ}
      → billed rest ps es ≡ Ok c → Row c.rest bills sum last → Row rest ((ps, es) ∷ bills) (c.cents + sum) last

-- '.. at constant prices'
abbrev pub at_prices : List ℕ → List (List Energy) → List (List ℕ × List Energy)
at_prices ps ess = map (λ es. (ps, es)) ess

-- all the energy at rate k, in watt-seconds
unfoldable pub energy_at : List (List Energy) → ℕ → ℕ
energy_at [] k = 0
energy_at (es ∷ ess) k = amount_of (import_at es k) + energy_at ess k

-- the same joined as document 02, A11, joins: refused if one of the joins is
abbrev pub joined_to : Energy → Result Energy EnergyRefusal → Result Energy EnergyRefusal
joined_to e (Ok s) = joined e s
joined_to e (Err r) = Err r

unfoldable pub joined_at : List (List Energy) → ℕ → Result Energy EnergyRefusal
joined_at [] k = Ok (energy_of 0)
joined_at (es ∷ ess) k = joined_to (import_at es k) (joined_at ess k)

-- the imports of samples, a list of them a rate
abbrev pub imports_of : List (List ℤ) → List Energy
imports_of xss = map (λ xs. (day_of xs).import) xss

-- all samples of rate k together
unfoldable pub samples_at : List (List (List ℤ)) → ℕ → List ℤ
samples_at [] k = []
samples_at (xss ∷ rest) k = get_or xss k [] ++ samples_at rest k

pub record Laws : Type 0 where
  -- 'The fact is shown over the rate number': after any number of rates, each reduced at once, nothing is lost
  pub after_any_rates : (k rest : ℕ) (ps : List ℕ) (es : List Energy) → rest < 3600000
      → ExactCharge (after_rates k rest ps es).cents (after_rates k rest ps es).rest (rest + charged k ps (λ j. amount_of (import_at es j)))
  -- and so is a bill made ('The fact is shown over the rate number'): cents and rest of an accepted one are those after the four rates, each with its
  -- own price and its own import
  pub by_rates : (rest : ℕ) (ps : List ℕ) (es : List Energy) (c : Charge) → billed rest ps es ≡ Ok c → c ≡ after_rates 4 rest ps es
  -- one bill
  pub one_bill : (rest : ℕ) (ps : List ℕ) (es : List Energy) (c : Charge) → billed rest ps es ≡ Ok c
      → ExactCharge c.cents c.rest (rest + charged 4 ps (λ j. amount_of (import_at es j)))
  -- 'Over any row of accepted bills at constant prices, the first with rest 0 and each next with the rest before it, their sum and the last rest are
  -- the exact charge of all the energy'
  pub row : (ps : List ℕ) (ess : List (List Energy)) (sum last : ℕ) → Row 0 (at_prices ps ess) sum last → ExactCharge sum last (charged 4 ps (energy_at ess))
  -- of the energy that A11's join gives of all the imports, rate by rate
  pub row_joined : (ps : List ℕ) (ess : List (List Energy)) (js : List Energy) (sum last : ℕ) → Row 0 (at_prices ps ess) sum last
      → ((k : ℕ) → k < 4 → joined_at ess k ≡ Ok (import_at js k)) → ExactCharge sum last (charged 4 ps (λ k. amount_of (import_at js k)))
  -- of all the samples
  pub row_samples : (ps : List ℕ) (xsss : List (List (List ℤ))) (sum last : ℕ) → Row 0 (at_prices ps (map imports_of xsss)) sum last
      → ExactCharge sum last (charged 4 ps (λ k. total positive_part (samples_at xsss k)))
