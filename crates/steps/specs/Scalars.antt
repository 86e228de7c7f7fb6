-- The scalars of document 01's meter, its record without the logs, and their values: one limiter for the one monitored value.
use Rattle.std.specs.Prelude.{Bool, false, ◌&&◌, List, [], ◌∷◌, pos, get_or}
use Rattle.registers.specs.Alarms.{sound_alarms}
use Rattle.control.specs.Control.{sound_control}
use Rattle.limiter.specs.declared.Limiter.{Limiter}
use Rattle.limiter.specs.Limiter.{sound_limiter}
use Rattle.emergency.specs.declared.Emergency.{Emergency}
use Rattle.emergency.specs.Emergency.{sound_emergency}
use Rattle.machine.specs.Values.{Values}
use Rattle.status.specs.declared.Status.{Status}
use Rattle.steps.specs.declared.Scalars.{Scalars}

-- the values of scalars
abbrev pub values_of : Scalars → Values
values_of s =
    record {
      control = s.control;
      limiters = s.limiter ∷ [];
      clock = s.clock;
      alarms = s.alarms;
      errors = s.errors;
      emergency = s.emergency;
    }

-- the part that every meter has: without limiter and emergency profile
abbrev pub status_of : Scalars → Status
status_of s = record { control = s.control; clock = s.clock; alarms = s.alarms; errors = s.errors }

-- that part with a limiter, and a profile and groups
abbrev pub scalars_with : Limiter → Emergency → Status → Scalars
scalars_with l e s = record { control = s.control; limiter = l; clock = s.clock; alarms = s.alarms; errors = s.errors; emergency = e }

-- the first limiter of a list
abbrev pub first_limiter : List Limiter → Limiter
first_limiter ls = get_or ls 0 (record { threshold = pos 0; over = 0; under = 0; exceeded = false; run = 0 })

-- the scalars of values with one limiter
abbrev pub scalars_from : Values → Scalars
scalars_from v =
    record {
      control = v.control;
      limiter = first_limiter v.limiters;
      clock = v.clock;
      alarms = v.alarms;
      errors = v.errors;
      emergency = v.emergency;
    }

-- 'A record is sound if these ranges hold, mode 0 has switch 1, Run is below Over (not Exceeded) or below Under (Exceeded) ..': control, limiter, the
-- alarm count (document 02, A6), and profile and groups; the others are of 32 bits by their types
unfoldable pub sound_scalars : Scalars → Bool
sound_scalars s = sound_control s.control && (sound_limiter s.limiter && (sound_alarms s.alarms && sound_emergency s.emergency))
