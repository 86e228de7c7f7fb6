-- A charge after some rates, and what the tests say of each rate.
use Rattle.base.proofs.Prelude.{◌≡◌, ap, ◌∙◌, true, List, ℕ, suc, ◌+◌, ◌*◌, ◌/◌, ◌%◌, ◌<◌, ◌≤◌, add_assoc, arith, leb, ltb, leb-true, ltb-true}
use Rattle.base.proofs.Prelude.{and_left, and_right}
use Rattle.base.proofs.Below.{below_at}
use native.Mathlib.Nat.{mul-le-mul}
use Rattle.energy.specs.declared.Energy.{Energy}
use Rattle.tariff.specs.Charges.{price_at, import_at, cost, sum_below, costs, charge_of, with_rate}
use Rattle.tariff.specs.Bills.{is_price, is_import, are_prices, are_imports}

-- one rate costs at most so much
pub cost_most : (p h s : ℕ) → p ≤ 1000000 → h ≤ 2147483648 → s < 3600 → p * (3600 * h + s) ≤ 7730941136399000000
cost_most p h s a b d = mul-le-mul a (most h s b d)
  where
    most : (h s : ℕ) → h ≤ 2147483648 → s < 3600 → 3600 * h + s ≤ 7730941136399
    most h s b d = omega arith

-- a rest below 3,600,000 is a charge of no cents
pub rest_only : (rest : ℕ) → rest < 3600000 → record { cents = 0; rest = rest } ≡ charge_of (rest + 0)
rest_only rest h = λ i. record { cents = none rest h i; rest = same rest h i }
  where
    none : (n : ℕ) → n < 3600000 → 0 ≡ (n + 0) / 3600000
    none n h = omega arith

    same : (n : ℕ) → n < 3600000 → n ≡ (n + 0) % 3600000
    same n h = omega arith

-- reducing after each rate loses nothing
reduced : (m p : ℕ) (e : Energy) → with_rate (charge_of m) p e ≡ charge_of (m + cost p e)
reduced m p e = λ i. record { cents = whole_cents m (cost p e) i; rest = last_rest m (cost p e) i }
  where
    whole_cents : (m x : ℕ) → m / 3600000 + (m % 3600000 + x) / 3600000 ≡ (m + x) / 3600000
    whole_cents m x = omega arith

    last_rest : (m x : ℕ) → (m % 3600000 + x) % 3600000 ≡ (m + x) % 3600000
    last_rest m x = omega arith

-- one rate more
pub rate_next : (rest k : ℕ) (ps : List ℕ) (es : List Energy)
    → with_rate (charge_of (rest + costs k ps es)) (price_at ps k) (import_at es k) ≡ charge_of (rest + costs (suc k) ps es)
unfolding sum_below
rate_next rest k ps es =
    reduced (rest + costs k ps es) (price_at ps k) (import_at es k) ∙ ap charge_of (add_assoc rest (costs k ps es) (cost (price_at ps k) (import_at es k)))

-- what the tests of all rates say of one
pub price_at_lem : (k : ℕ) (ps : List ℕ) → k < 4 → are_prices ps ≡ true → price_at ps k ≤ 1000000
price_at_lem k ps h e = leb-true (price_at ps k) 1000000 (below_at (λ j. is_price (price_at ps j)) k 4 h e)

pub import_at_lem : (k : ℕ) (es : List Energy) → k < 4 → are_imports es ≡ true → ((import_at es k).watthours ≤ 2147483648) × ((import_at es k).wattseconds < 3600)
import_at_lem k es h e =
    let hours = leb (import_at es k).watthours 2147483648 in
    let seconds = ltb (import_at es k).wattseconds 3600 in
    let t = below_at (λ j. is_import (import_at es j)) k 4 h e in
    (leb-true (import_at es k).watthours 2147483648 (and_left hours seconds t), ltb-true (import_at es k).wattseconds 3600 (and_right hours seconds t))
