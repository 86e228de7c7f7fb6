-- The energy of a day from C: four numbers, and what a function leaves in them.
use Rattle.std.specs.Prelude.{◌≡◌, List, [], ◌∷◌, ℕ, pos, negsuc, get_or, set, Result, Ok, Err}
use Rattle.energy.specs.declared.Energy.{Energy}
use Rattle.energy.specs.declared.Day.{Day}
use Rattle.energy.specs.declared.EnergyRefusal.{EnergyRefusal}
use Rattle.energy.specs.Days.{measured_number, measured}
use Rattle.energy.specs.Joins.{joined_days}

-- watt-hours and watt-seconds at a place
abbrev pub energy_in : List ℕ → ℕ → ℕ → Energy
energy_in l i j = record { watthours = get_or l i 0; wattseconds = get_or l j 0 }

-- import watt-hours and watt-seconds, export watt-hours and watt-seconds
abbrev pub day_in : List ℕ → Day
day_in l = record { import = energy_in l 0 1; export = energy_in l 2 3 }

-- the four numbers afterwards; a refusal leaves them
abbrev pub stored_day : Result Day EnergyRefusal → List ℕ → List ℕ
stored_day (Ok d) l = set (set (set (set l 0 d.import.watthours) 1 d.import.wattseconds) 2 d.export.watthours) 3 d.export.wattseconds
stored_day (Err e) l = l

-- of what is left in the four numbers
pub record DayLaws : Type 0 where
  -- a refusal leaves them
  pub refused_day : (m : Result Day EnergyRefusal) (day : List ℕ) → (measured_number m ≡ 0 → ⊥) → stored_day m day ≡ day
  -- 7,203 watt-seconds imported and 14,405 exported: each number in its place, the fifth untouched
  pub one_day : stored_day (measured (pos 7203 ∷ negsuc 14404 ∷ [])) (9 ∷ 9 ∷ 9 ∷ 9 ∷ 9 ∷ []) ≡ 2 ∷ 3 ∷ 4 ∷ 5 ∷ 9 ∷ []
  -- two days joined, each number with its own
  pub two_days : stored_day (joined_days (day_in (1 ∷ 2 ∷ 3 ∷ 4 ∷ [])) (day_in (10 ∷ 20 ∷ 30 ∷ 40 ∷ []))) (1 ∷ 2 ∷ 3 ∷ 4 ∷ []) ≡ 11 ∷ 22 ∷ 33 ∷ 44 ∷ []
