-- The energy of a day (document 02, A11).
use Rattle.std.specs.Prelude.{ℕ, ◌+◌, cond, List, [], ◌∷◌, ltb, ℤ, length, Result, Ok, Err}
use Rattle.base.specs.Numbers.{positive_part, negative_part}
use Rattle.energy.specs.declared.Day.{Day}
use Rattle.energy.specs.declared.EnergyRefusal.{EnergyRefusal}
use Rattle.energy.specs.declared.EnergyRefusal.TheVariants.{TooManySamples}
use Rattle.energy.specs.Refusals.{refusal_number}
use Rattle.energy.specs.Energy.{energy_of}

-- the watt-seconds of samples, one a second, by what each power counts
unfoldable pub total : (ℤ → ℕ) → List ℤ → ℕ
total f [] = 0
total f (x ∷ xs) = f x + total f xs

-- 'give import and export separately': a power above zero is imported, one below zero exported; 'the lowest power must not be lost in negation'
abbrev pub day_of : List ℤ → Day
day_of xs = record { import = energy_of (total positive_part xs); export = energy_of (total negative_part xs) }

-- 0, or the number of the refusal
abbrev pub measured_number : Result Day EnergyRefusal → ℕ
measured_number (Ok d) = 0
measured_number (Err e) = refusal_number e

-- 'From up to 86,400 samples ..'; '25, too many samples'
unfoldable pub measured : List ℤ → Result Day EnergyRefusal
measured xs = cond (ltb 86400 (length xs)) (Err TooManySamples) (Ok (day_of xs))
