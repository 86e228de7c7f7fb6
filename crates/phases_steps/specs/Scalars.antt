-- The scalars of the three-phase meter (document 02, A13), its record without the logs, and their values: a limiter for each of the four monitored values.
use Rattle.std.specs.Prelude.{ℕ, Bool, false, ◌&&◌, List, [], ◌∷◌, pos, get_or}
use Rattle.base.specs.Tests.{every}
use Rattle.registers.specs.Alarms.{sound_alarms}
use Rattle.control.specs.Control.{sound_control}
use Rattle.limiter.specs.declared.Limiter.{Limiter}
use Rattle.limiter.specs.Limiter.{sound_limiter}
use Rattle.emergency.specs.Emergency.{no_emergency}
use Rattle.machine.specs.Values.{Values}
use Rattle.status.specs.Status.{status_values, status_from}
use Rattle.status.specs.Laws.{values_with}
use Rattle.phases_steps.specs.declared.MonitoredValue.{MonitoredValue}
use Rattle.phases_steps.specs.declared.Limiters.{Limiters}
use Rattle.phases_steps.specs.declared.ThreePhaseScalars.{ThreePhaseScalars}

-- a monitored value with 'Over and Under shared'
abbrev pub limiter_with : ℕ → ℕ → MonitoredValue → Limiter
limiter_with o u m = record { threshold = m.threshold; over = o; under = u; exceeded = m.exceeded; run = m.run }

-- 'The limiter watches each phase and their exact sum, four lines in that order with a threshold and Run each ..'
abbrev pub limiters_in : Limiters → List Limiter
limiters_in l =
    limiter_with l.over l.under l.l1 ∷ limiter_with l.over l.under l.l2 ∷ limiter_with l.over l.under l.l3
    ∷ limiter_with l.over l.under l.sum ∷ []

-- a limiter's own part
abbrev pub value_of : Limiter → MonitoredValue
value_of l = record { threshold = l.threshold; exceeded = l.exceeded; run = l.run }

-- limiter k of a list
abbrev pub limiter_at : List Limiter → ℕ → Limiter
limiter_at ls k = get_or ls k (record { threshold = pos 0; over = 0; under = 0; exceeded = false; run = 0 })

-- four limiters with the same Over and Under
abbrev pub limiters_from : List Limiter → Limiters
limiters_from ls =
    record {
      over = (limiter_at ls 0).over;
      under = (limiter_at ls 0).under;
      l1 = value_of (limiter_at ls 0);
      l2 = value_of (limiter_at ls 1);
      l3 = value_of (limiter_at ls 2);
      sum = value_of (limiter_at ls 3);
    }

-- the values of scalars: '.. A3's profile and area aren't offered here ..'
abbrev pub three_phase_values : ThreePhaseScalars → Values
three_phase_values s = values_with (limiters_in s.limiters) no_emergency (status_values s.status)

-- the scalars of values with four limiters
abbrev pub three_phase_scalars : Values → ThreePhaseScalars
three_phase_scalars v = record { status = status_from v; limiters = limiters_from v.limiters }

-- 'A record is sound if these ranges hold, mode 0 has switch 1, Run is below Over (not Exceeded) or below Under (Exceeded) ..': control, the limiter of
-- each monitored value, and the alarm count (A6); the others are of 32 bits by their types
unfoldable pub sound_three_phase_scalars : ThreePhaseScalars → Bool
sound_three_phase_scalars s =
    sound_control s.status.control && (every sound_limiter (limiters_in s.limiters) && sound_alarms s.status.alarms)
