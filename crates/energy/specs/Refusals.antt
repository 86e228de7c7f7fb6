-- What is refused, by the numbers of document 02, A11.
use Rattle.std.specs.Prelude.{ℕ}
use Rattle.energy.specs.declared.EnergyRefusal.{EnergyRefusal}
use Rattle.energy.specs.declared.EnergyRefusal.TheVariants.{TooManySamples, UnreducedRemainder, SumTooLarge}

-- '25, too many samples'; '26, a remainder of 3,600 or more'; '27, a join whose whole watt-hours are above 2^53'
abbrev pub refusal_number : EnergyRefusal → ℕ
refusal_number TooManySamples = 25
refusal_number UnreducedRemainder = 26
refusal_number SumTooLarge = 27
