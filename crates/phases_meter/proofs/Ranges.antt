-- Settings and calls of the three-phase meter in their ranges, as those of a meter with any number of monitored values.
use Rattle.base.proofs.Prelude.{List, [], ◌∷◌, map, every}
use mathlib.Core.List.{reverse, reverse_aux}
use Rattle.history.specs.Effects.{AnyCall}
use Rattle.machine.specs.Ranges.{AnySettings, AnyInRange, AllAnyInRange}
use Rattle.phases.specs.declared.ThreePhaseCall.{ThreePhaseCall}
use Rattle.phases.specs.declared.ThreePhaseCall.TheVariants.{Sample, RemoteDisconnect, RemoteReconnect, ManualDisconnect, ManualReconnect, SetMode}
use Rattle.phases.specs.declared.ThreePhaseCall.TheVariants.{SetLimiter, SetClock, Event, SetAlarmFilter, SetErrorFilter, ClearAlarms, ClearErrors, ClearLog}
use Rattle.phases.specs.declared.ThreePhaseCall.TheVariants.{Script}
use Rattle.phases.specs.Calls.{ThreePhaseInRange, AllThreePhaseInRange}
use Rattle.phases.specs.ThreePhase.{ThreePhaseFresh, as_any_fresh, as_any_call}
use Rattle.phases_meter.specs.Settings.{ThreePhaseSettings}

pub settings : (f : ThreePhaseFresh) → ThreePhaseSettings f → AnySettings (as_any_fresh f)
unfolding every
settings f s =
    record { mode = s.mode; thresholds = rw (s.l1, s.l2, s.l3, s.sum); over = s.over; under = s.under; clock = s.clock }

pub call_range : (c : ThreePhaseCall) → ThreePhaseInRange c → AnyInRange (as_any_call c)
unfolding every
call_range (Sample a b c) i = tt
call_range RemoteDisconnect i = tt
call_range RemoteReconnect i = tt
call_range ManualDisconnect i = tt
call_range ManualReconnect i = tt
call_range (SetMode n) i = tt
call_range (SetLimiter a b c d o u) i = rw (i.0.1, i.1.0.1, i.1.1.0.1, i.1.1.1.0.1)
call_range (SetClock n) i = i
call_range (Event c) i = tt
call_range (SetAlarmFilter n) i = i
call_range (SetErrorFilter n) i = i
call_range (ClearAlarms n) i = i
call_range (ClearErrors n) i = i
call_range (ClearLog n) i = tt
call_range (Script n) i = tt

-- each call of a list, newest first
turned : (cs : List ThreePhaseCall) (before : List AnyCall) → AllThreePhaseInRange cs → AllAnyInRange before
    → AllAnyInRange (reverse_aux (map as_any_call cs) before)
turned [] before i k = k
turned (c ∷ cs) before i k = turned cs (as_any_call c ∷ before) i.1 (call_range c i.0, k)

pub calls_range : (cs : List ThreePhaseCall) → AllThreePhaseInRange cs → AllAnyInRange (reverse (map as_any_call cs))
calls_range cs i = turned cs [] i tt
