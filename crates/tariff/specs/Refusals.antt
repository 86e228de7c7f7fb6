-- What is refused, by the numbers of document 02, A12.
use Rattle.std.specs.Prelude.{ℕ}
use Rattle.tariff.specs.declared.TariffRefusal.{TariffRefusal}
use Rattle.tariff.specs.declared.TariffRefusal.TheVariants.{PriceTooHigh, RestTooLarge, ImportOutOfRange}

-- '28, price above 1,000,000'; '29, incoming rest of 3,600,000 or more'; '30, whole watt-hours above 2^31 at a rate or a remainder of 3,600 or more'
abbrev pub refusal_number : TariffRefusal → ℕ
refusal_number PriceTooHigh = 28
refusal_number RestTooLarge = 29
refusal_number ImportOutOfRange = 30
