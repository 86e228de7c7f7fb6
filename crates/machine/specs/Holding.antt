-- The values that hold an account.
use Rattle.limiter.specs.declared.Limiter.{Limiter}
use Rattle.std.specs.Prelude.{ℕ, List, map}
use Rattle.emergency.specs.declared.Emergency.{Emergency}
use Rattle.emergency.specs.Emergency.{no_emergency, with_fields, with_groups, with_profile}
use Rattle.history.specs.Profile.{ProfileState, no_profile, waiting, active}
use Rattle.history.specs.Account.{MonitoredValue, AnyAccount}
use Rattle.machine.specs.Values.{State}

-- the limiter of a monitored value, with the shared Over and Under
abbrev pub limiter_holding : AnyAccount → MonitoredValue → Limiter
limiter_holding a m = record { threshold = m.threshold; over = a.over; under = a.under; exceeded = m.exceeded; run = m.run }

-- the fields that hold groups and a profile (document 02, A3): 'state 1 (0 none, 1 waiting, 2 active)', '.. samples left equals the duration while waiting ..'
abbrev pub emergency_of : List ℕ → ProfileState → Emergency
emergency_of gs no_profile = with_groups no_emergency gs
emergency_of gs (waiting w) = with_profile (with_groups no_emergency gs) w.id w.threshold w.activation w.duration
emergency_of gs (active w n) = with_fields (with_groups no_emergency gs) w.id w.threshold w.activation w.duration n 2

-- the values that an account names
abbrev pub values_holding : AnyAccount → State
values_holding a =
    record {
      values =
          record {
            control = record { mode = a.mode; state = a.switch; openings = a.openings };
            limiters = map (limiter_holding a) a.monitored;
            clock = a.clock;
            alarms = record { register = record { bits = a.alarms; filter = a.alarm_filter }; count = a.alarm_count };
            errors = record { bits = a.errors; filter = a.error_filter };
            emergency = emergency_of a.groups a.profile;
          };
      logs = a.logs;
    }
