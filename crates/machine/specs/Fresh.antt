-- 'Fresh takes mode, threshold, Over, Under, clock: switch 1, not Exceeded, all else zero or empty.'
use Rattle.std.specs.Prelude.{false, [], ◌∷◌, map, ℤ}
use Rattle.limiter.specs.declared.Limiter.{Limiter}
use Rattle.emergency.specs.Emergency.{no_emergency}
use Rattle.history.specs.Effects.{AnyFresh}
use Rattle.machine.specs.Values.{State}

-- '.. not Exceeded, all else zero ..', with its threshold
abbrev pub fresh_limiter : AnyFresh → ℤ → Limiter
fresh_limiter f t = record { threshold = t; over = f.over; under = f.under; exceeded = false; run = 0 }

-- 'switch 1, not Exceeded, all else zero or empty'
abbrev pub fresh_values : AnyFresh → State
fresh_values f =
    record {
      values =
          record {
            control = record { mode = f.mode; state = 1; openings = 0 };
            limiters = map (fresh_limiter f) f.thresholds;
            clock = f.clock;
            alarms = record { register = record { bits = 0; filter = 0 }; count = 0 };
            errors = record { bits = 0; filter = 0 };
            emergency = no_emergency;
          };
      logs = [] ∷ [] ∷ [] ∷ [];
    }
