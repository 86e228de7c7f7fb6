-- The record that holds an account of the three-phase meter.
use Rattle.std.specs.Prelude.{[], ◌∷◌}
use Rattle.limiter.specs.declared.Limiter.{Limiter}
use Rattle.emergency.specs.Emergency.{no_emergency}
use Rattle.history.specs.Account.{MonitoredValue}
use Rattle.machine.specs.Values.{State}
use Rattle.phases.specs.ThreePhase.{ThreePhaseAccount}

-- the limiter of a monitored value, with the shared Over and Under
abbrev pub limiter_in : ThreePhaseAccount → MonitoredValue → Limiter
limiter_in a m = record { threshold = m.threshold; over = a.over; under = a.under; exceeded = m.exceeded; run = m.run }

-- the values that an account names
abbrev pub three_phase_holding : ThreePhaseAccount → State
three_phase_holding a =
    record {
      values =
          record {
            control = record { mode = a.mode; state = a.switch; openings = a.openings };
            limiters = limiter_in a a.l1 ∷ limiter_in a a.l2 ∷ limiter_in a a.l3 ∷ limiter_in a a.sum ∷ [];
            clock = a.clock;
            alarms = record { register = record { bits = a.alarms; filter = a.alarm_filter }; count = a.alarm_count };
            errors = record { bits = a.errors; filter = a.error_filter };
            emergency = no_emergency;
          };
      logs = a.logs;
    }
