-- The charge of imports at prices, over the rate number (document 02, A12).
use Rattle.std.specs.Prelude.{ℕ, zero, suc, ◌+◌, ◌*◌, ◌/◌, ◌%◌, List, get_or}
use Rattle.energy.specs.declared.Energy.{Energy}
use Rattle.energy.specs.Energy.{amount_of}
use Rattle.tariff.specs.declared.Charge.{Charge}

-- 'Four rates, each a price .., are applied to four imports in A11's form, one a rate': those of rate k, counted from 0
abbrev pub price_at : List ℕ → ℕ → ℕ
price_at ps k = get_or ps k 0

abbrev pub import_at : List Energy → ℕ → Energy
import_at es k = get_or es k (record { watthours = 0; wattseconds = 0 })

-- 'a price in cents per kilowatt-hour': a kilowatt-hour is 3,600,000 watt-seconds, so of the parts of a cent 'over 3,600,000' a watt-second costs as
-- many as the price is
abbrev pub cost : ℕ → Energy → ℕ
cost p e = p * amount_of e

-- a number of each rate below k, summed
unfoldable pub sum_below : ℕ → (ℕ → ℕ) → ℕ
sum_below zero f = 0
sum_below (suc k) f = sum_below k f + f k

-- what the rates below k cost together
abbrev pub costs : ℕ → List ℕ → List Energy → ℕ
costs k ps es = sum_below k (λ j. cost (price_at ps j) (import_at es j))

-- 'The bill is the whole cents; the rest, over 3,600,000, is carried to the next bill'
abbrev pub charge_of : ℕ → Charge
charge_of n = record { cents = n / 3600000; rest = n % 3600000 }

-- one rate more, reduced at once
abbrev pub with_rate : Charge → ℕ → Energy → Charge
with_rate c p e = record { cents = c.cents + (c.rest + cost p e) / 3600000; rest = (c.rest + cost p e) % 3600000 }
