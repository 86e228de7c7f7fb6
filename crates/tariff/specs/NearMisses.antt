-- Bills at the edge of each refusal, and bills by hand. Computed.
use Rattle.std.specs.Prelude.{◌≡◌, List, [], ◌∷◌, map, ℕ, replicate, set, Ok}
use Rattle.energy.specs.declared.Energy.{Energy}
use Rattle.tariff.specs.declared.Charge.{Charge}
use Rattle.tariff.specs.Bills.{billed_number, billed}

abbrev pub energy : ℕ → ℕ → Energy
energy h s = record { watthours = h; wattseconds = s }

abbrev pub charge : ℕ → ℕ → Charge
charge c r = record { cents = c; rest = r }

-- four alike but for one
abbrev pub prices_but : ℕ → ℕ → List ℕ
prices_but k p = set (replicate 4 1000000) k p

abbrev pub imports_but : ℕ → Energy → List Energy
imports_but k e = set (replicate 4 (energy 2147483648 3599)) k e

pub record NearMisses : Type 0 where
  -- '28, price above 1,000,000', at each rate
  pub prices : map (λ k. billed_number (billed 0 (prices_but k 1000001) (imports_but 0 (energy 0 0)))) (0 ∷ 1 ∷ 2 ∷ 3 ∷ 4 ∷ [])
      ≡ 28 ∷ 28 ∷ 28 ∷ 28 ∷ 0 ∷ []
  -- '29, incoming rest of 3,600,000 or more'
  pub rests : map (λ r. billed_number (billed r (prices_but 0 0) (imports_but 0 (energy 0 0)))) (0 ∷ 3599999 ∷ 3600000 ∷ 4294967295 ∷ [])
      ≡ 0 ∷ 0 ∷ 29 ∷ 29 ∷ []
  -- '30, whole watt-hours above 2^31 at a rate or a remainder of 3,600 or more'
  pub watthours : map (λ k. billed_number (billed 0 (prices_but 0 0) (imports_but k (energy 2147483649 0)))) (0 ∷ 1 ∷ 2 ∷ 3 ∷ 4 ∷ [])
      ≡ 30 ∷ 30 ∷ 30 ∷ 30 ∷ 0 ∷ []
  pub wattseconds : map (λ k. billed_number (billed 0 (prices_but 0 0) (imports_but k (energy 0 3600)))) (0 ∷ 1 ∷ 2 ∷ 3 ∷ 4 ∷ [])
      ≡ 30 ∷ 30 ∷ 30 ∷ 30 ∷ 0 ∷ []
  -- in that order
  pub price_first : billed_number (billed 3600000 (prices_but 3 1000001) (imports_but 0 (energy 0 3600))) ≡ 28
  pub rest_second : billed_number (billed 3600000 (prices_but 3 0) (imports_but 0 (energy 0 3600))) ≡ 29
  -- by hand: 30 cents for a kilowatt-hour, 25 for one and half a watt-hour, 20 for a watt-second, nothing for the last; the rest makes a cent more
  pub by_hand : billed 3599990 (30 ∷ 25 ∷ 20 ∷ 0 ∷ []) (energy 1000 0 ∷ energy 1000 1800 ∷ energy 0 1 ∷ energy 5 5 ∷ [])
      ≡ Ok (charge 56 45010)
  -- the largest bill: in parts of a cent 30,923,764,545,599,599,999, above 2^64
  pub largest : billed 3599999 (prices_but 4 0) (imports_but 4 (energy 0 0)) ≡ Ok (charge 8589934595999 3199999)
