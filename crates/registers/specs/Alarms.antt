-- The alarm register and how many of its bits stand (document 02, A6, whose words are in quotes unless document 01 is named).
use Rattle.std.specs.Prelude.{ℕ, Bool, eqb}
use Rattle.base.specs.Bits.{bit_count}
use Rattle.registers.specs.declared.Register.{Register}
use Rattle.registers.specs.declared.Alarms.{Alarms}
use Rattle.registers.specs.Register.{raised, cleared, with_filter}

-- 'Keep that number in the record ..': of the register's bits, whatever the filter
abbrev pub counting : Register → Alarms
counting r = record { register = r; count = bit_count r.bits }

-- '.. true after each call ..': an event
abbrev pub alarms_raised : Alarms → ℕ → Alarms
alarms_raised a mask = counting (raised a.register mask)

-- a clear
abbrev pub alarms_cleared : Alarms → ℕ → Alarms
alarms_cleared a mask = counting (cleared a.register mask)

-- document 01: 'A later filter neither sets nor clears'
abbrev pub alarms_filtered : Alarms → ℕ → Alarms
alarms_filtered a filter = record { register = with_filter a.register filter; count = a.count }

-- 'A record or page with another number isn't sound.'
unfoldable pub sound_alarms : Alarms → Bool
sound_alarms a = eqb a.count (bit_count a.register.bits)
