-- Energies joined (document 02, A11): 'the joined pair is that of all samples together'.
use Rattle.std.specs.Prelude.{ℕ, ◌+◌, ◌/◌, ◌%◌, Bool, cond, ◌||◌, leb, ltb, Result, Ok, Err}
use Rattle.energy.specs.declared.Energy.{Energy}
use Rattle.energy.specs.declared.Day.{Day}
use Rattle.energy.specs.declared.EnergyRefusal.{EnergyRefusal}
use Rattle.energy.specs.declared.EnergyRefusal.TheVariants.{UnreducedRemainder, SumTooLarge}
use Rattle.energy.specs.Refusals.{refusal_number}

-- '26, a remainder of 3,600 or more'
abbrev pub is_unreduced : Energy → Bool
is_unreduced e = leb 3600 e.wattseconds

-- '27, a join whose whole watt-hours are above 2^53'
abbrev pub is_too_large : Energy → Bool
is_too_large e = ltb 9007199254740992 e.watthours

-- what remainders carry into the watt-hours, and what they leave
abbrev pub carried : ℕ → ℕ
carried n = n / 3600

abbrev pub remaining : ℕ → ℕ
remaining n = n % 3600

-- the sum, with the watt-hour that two remainders may make
abbrev pub sum_of : Energy → Energy → Energy
sum_of a b =
    record {
      watthours = a.watthours + b.watthours + carried (a.wattseconds + b.wattseconds);
      wattseconds = remaining (a.wattseconds + b.wattseconds);
    }

-- 0, or the number of the refusal
abbrev pub joined_number : Result Energy EnergyRefusal → ℕ
joined_number (Ok e) = 0
joined_number (Err e) = refusal_number e

-- one direction
unfoldable pub joined : Energy → Energy → Result Energy EnergyRefusal
joined a b =
    cond (is_unreduced a || is_unreduced b) (Err UnreducedRemainder)
    (cond (is_too_large (sum_of a b)) (Err SumTooLarge)
    (Ok (sum_of a b)))

-- both directions of two days: 26 for any of the four remainders, then 27 for either sum
unfoldable pub joined_days : Day → Day → Result Day EnergyRefusal
joined_days a b =
    cond (((is_unreduced a.import || is_unreduced b.import) || is_unreduced a.export) || is_unreduced b.export) (Err UnreducedRemainder)
    (cond (is_too_large (sum_of a.import b.import) || is_too_large (sum_of a.export b.export)) (Err SumTooLarge)
    (Ok (record { import = sum_of a.import b.import; export = sum_of a.export b.export })))
