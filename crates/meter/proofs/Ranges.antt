-- Settings and calls in their ranges, as those of a meter with any number of monitored values.
use Prim.Native.Nat.{ℕ, ◌/◌, ◌%◌}
use native.Mathlib.Omega.{arith}
use mathlib.Core.Path.{◌≡◌}
use mathlib.Core.Bool.{true}
use mathlib.Core.List.{List, [], ◌∷◌, map, reverse, reverse_aux}
use borrow.Author.Tests.{lt-ltb}
use Rattle.base.specs.Tests.{every}
use Rattle.calls.specs.declared.Call.{Call}
use Rattle.calls.specs.declared.Call.TheVariants.{Sample, RemoteDisconnect, RemoteReconnect, ManualDisconnect, ManualReconnect, SetMode, SetLimiter}
use Rattle.calls.specs.declared.Call.TheVariants.{SetClock, Event, SetAlarmFilter, SetErrorFilter, ClearAlarms, ClearErrors, ClearLog, Script, SetGroups}
use Rattle.calls.specs.declared.Call.TheVariants.{SetProfile}
use Rattle.calls.specs.Calls.{Word, InRange, AllInRange}
use Rattle.history.specs.Effects.{AnyCall}
use Rattle.history.specs.OnePhase.{Fresh, as_fresh, as_call}
use Rattle.machine.specs.Ranges.{is_id, AnySettings, AnyInRange, AllAnyInRange}
use Rattle.meter.specs.Settings.{Settings}

pub settings : (f : Fresh) → Settings f → AnySettings (as_fresh f)
unfolding every
settings f s = record { mode = s.mode; thresholds = rw s.threshold; over = s.over; under = s.under; clock = s.clock }

-- the halves of a number of 32 bits
high : (n : ℕ) → Word n → is_id (n / 65536) ≡ true
high n w = lt-ltb (n / 65536) 65536 (omega (arith, w))

low : (n : ℕ) → is_id (n % 65536) ≡ true
low n = lt-ltb (n % 65536) 65536 (omega arith)

pub call_range : (c : Call) → InRange c → AnyInRange (as_call c)
unfolding every
call_range (Sample p) i = tt
call_range RemoteDisconnect i = tt
call_range RemoteReconnect i = tt
call_range ManualDisconnect i = tt
call_range ManualReconnect i = tt
call_range (SetMode n) i = tt
call_range (SetLimiter t o u) i = rw i.0.1
call_range (SetClock n) i = i
call_range (Event c) i = tt
call_range (SetAlarmFilter n) i = i
call_range (SetErrorFilter n) i = i
call_range (ClearAlarms n) i = i
call_range (ClearErrors n) i = i
call_range (ClearLog n) i = tt
call_range (Script n) i = tt
call_range (SetGroups n a b c d) i =
    rw (high a i.1.0, low a, high b i.1.1.0, low b, high c i.1.1.1.0, low c, high d i.1.1.1.1, low d)
call_range (SetProfile i t a d) r = (r.1.0.1, r.1.1.0)

-- each call of a list, newest first
turned : (cs : List Call) (before : List AnyCall) → AllInRange cs → AllAnyInRange before → AllAnyInRange (reverse_aux (map as_call cs) before)
turned [] before i k = k
turned (c ∷ cs) before i k = turned cs (as_call c ∷ before) i.1 (call_range c i.0, k)

pub calls_range : (cs : List Call) → AllInRange cs → AllAnyInRange (reverse (map as_call cs))
calls_range cs i = turned cs [] i tt
