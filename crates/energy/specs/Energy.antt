-- Energy: whole watt-hours and a remainder of watt-seconds (document 02, A11).
use Rattle.std.specs.Prelude.{ℕ, ◌+◌, ◌*◌, ◌/◌, ◌%◌}
use Rattle.energy.specs.declared.Energy.{Energy}

-- 'as watt-hours and a remainder of watt-seconds below 3,600'
abbrev pub energy_of : ℕ → Energy
energy_of n = record { watthours = n / 3600; wattseconds = n % 3600 }

-- all of it, in watt-seconds
abbrev pub amount_of : Energy → ℕ
amount_of e = 3600 * e.watthours + e.wattseconds
