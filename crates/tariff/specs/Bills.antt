-- One bill, and where it is refused (document 02, A12).
use Rattle.std.specs.Prelude.{ℕ, ◌+◌, Bool, ◌&&◌, not, cond, List, leb, ltb, Result, Ok, Err}
use Rattle.base.specs.Tests.{below}
use Rattle.energy.specs.declared.Energy.{Energy}
use Rattle.tariff.specs.declared.Charge.{Charge}
use Rattle.tariff.specs.declared.TariffRefusal.{TariffRefusal}
use Rattle.tariff.specs.declared.TariffRefusal.TheVariants.{PriceTooHigh, RestTooLarge, ImportOutOfRange}
use Rattle.tariff.specs.Refusals.{refusal_number}
use Rattle.tariff.specs.Charges.{price_at, import_at, costs, charge_of}

-- '28, price above 1,000,000'
abbrev pub is_price : ℕ → Bool
is_price p = leb p 1000000

-- '30, whole watt-hours above 2^31 at a rate or a remainder of 3,600 or more'
abbrev pub is_import : Energy → Bool
is_import e = leb e.watthours 2147483648 && ltb e.wattseconds 3600

-- at each of the four rates
abbrev pub are_prices : List ℕ → Bool
are_prices ps = below 4 (λ k. is_price (price_at ps k))

abbrev pub are_imports : List Energy → Bool
are_imports es = below 4 (λ k. is_import (import_at es k))

-- 0, or the number of the refusal
abbrev pub billed_number : Result Charge TariffRefusal → ℕ
billed_number (Ok c) = 0
billed_number (Err e) = refusal_number e

-- 28, 29, 30 in that order; '29, incoming rest of 3,600,000 or more'
unfoldable pub billed : ℕ → List ℕ → List Energy → Result Charge TariffRefusal
billed rest ps es =
    cond (not (are_prices ps)) (Err PriceTooHigh)
    (cond (leb 3600000 rest) (Err RestTooLarge)
    (cond (not (are_imports es)) (Err ImportOutOfRange)
    (Ok (charge_of (rest + costs 4 ps es)))))
