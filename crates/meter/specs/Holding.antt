-- The record that holds an account.
use Rattle.std.specs.Prelude.{[], ◌∷◌}
use Rattle.history.specs.OnePhase.{Account}
use Rattle.machine.specs.Values.{State}
use Rattle.machine.specs.Holding.{emergency_of}

-- the values that an account names
abbrev pub holding : Account → State
holding a =
    record {
      values =
          record {
            control = record { mode = a.mode; state = a.switch; openings = a.openings };
            limiters =
                record { threshold = a.threshold; over = a.over; under = a.under; exceeded = a.exceeded; run = a.run } ∷ [];
            clock = a.clock;
            alarms = record { register = record { bits = a.alarms; filter = a.alarm_filter }; count = a.alarm_count };
            errors = record { bits = a.errors; filter = a.error_filter };
            emergency = emergency_of a.groups a.profile;
          };
      logs = a.logs;
    }
