-- A bill from C: its imports as eight numbers, and what is left behind its two pointers.
use Rattle.std.specs.Prelude.{◌≡◌, List, [], ◌∷◌, ℕ, Result, Ok, Err}
use Rattle.energy.specs.declared.Energy.{Energy}
use Rattle.tariff.specs.declared.Charge.{Charge}
use Rattle.tariff.specs.declared.TariffRefusal.{TariffRefusal}
use Rattle.tariff.specs.Bills.{billed_number, billed}
use Rattle.pillar.specs.Energy.{energy_in}

-- for each of the four rates
abbrev pub imports_in : List ℕ → List Energy
imports_in l = energy_in l 0 1 ∷ energy_in l 2 3 ∷ energy_in l 4 5 ∷ energy_in l 6 7 ∷ []

-- the rest for the next bill, and the cents; a refusal leaves both
abbrev pub rest_after : Result Charge TariffRefusal → ℕ → ℕ
rest_after (Ok c) rest = c.rest
rest_after (Err e) rest = rest

abbrev pub cents_after : Result Charge TariffRefusal → ℕ → ℕ
cents_after (Ok c) cents = c.cents
cents_after (Err e) cents = cents

-- what a bill answers and leaves
pub record Billing (bill : Result Charge TariffRefusal) (rest cents number rest' cents' : ℕ) : Type 0 where
  pub answers : number ≡ billed_number bill
  pub next_rest : rest' ≡ rest_after bill rest
  pub next_cents : cents' ≡ cents_after bill cents

-- of what is left behind the two pointers
pub record BillLaws : Type 0 where
  -- a refusal leaves both
  pub refused_bill : (b : Result Charge TariffRefusal) (rest cents : ℕ) → (billed_number b ≡ 0 → ⊥) → (rest_after b rest ≡ rest) × (cents_after b cents ≡ cents)
  -- 5,000 watt-hours and 6 watt-seconds at 1,000 cents, and so on: each number in its place, rest and cents told apart
  pub one_bill :
      let b = billed 7 (1000 ∷ 200 ∷ 30 ∷ 4 ∷ []) (imports_in (5000 ∷ 6 ∷ 7000 ∷ 8 ∷ 9000 ∷ 11 ∷ 12000 ∷ 13 ∷ [])) in
      (rest_after b 7 ≡ 7989) × (cents_after b 9 ≡ 6718)
