-- The machine by what an accepted call asks for, and the parts of the values that an account names.
use Prim.Native.Nat.{ℕ, suc}
use mathlib.Core.Path.{◌≡◌}
use mathlib.Core.Bool.{true, cond}
use mathlib.Core.List.{List, [], ◌∷◌, map}
use lib.Dec.{leb}
use lib.IntN.{pos}
use lib.Signed.{le_z}
use Rattle.base.specs.Tests.{within, among, every}
use Rattle.registers.specs.declared.Register.{Register}
use Rattle.registers.specs.declared.Alarms.{Alarms}
use Rattle.events.specs.Line.{is_log}
use Rattle.events.specs.Table.{lawful}
use Rattle.control.specs.declared.Control.{Control}
use Rattle.control.specs.declared.Request.{Request}
use Rattle.control.specs.declared.Request.TheVariants as request
use Rattle.control.specs.declared.Decision.{Decision}
use Rattle.control.specs.declared.Decision.TheVariants.{Move, Stay, NotListed}
use Rattle.control.specs.Control.{mode_decision, in_mode}
use Rattle.limiter.specs.declared.Limiter.{Limiter}
use Rattle.limiter.specs.Limiter.{armed}
use Rattle.emergency.specs.declared.Emergency.{Emergency}
use Rattle.emergency.specs.Emergency.{with_groups}
use Rattle.calls.specs.Calls.{Word}
use Rattle.calls.specs.declared.Letter.TheVariants.{None}
use Rattle.history.specs.Effects.{AnyFresh, WhichRegister, alarms, errors, Effect, sampled, requested, mode_set, limits_set, clock_set, occurred, filter_set}
use Rattle.history.specs.Effects.{bits_cleared, log_cleared, groups_set, profile_set, listed_modes, Reading, refused, accepted}
use Rattle.history.specs.Last.{History, mode_of, limits_of, threshold_of, filter_of, clock_of}
use Rattle.history.specs.Profile.{groups_of, profile_state}
use Rattle.history.specs.Limiter.{monitored_values}
use Rattle.history.specs.Switch.{switch_of, exceeded_of, run_of}
use Rattle.history.specs.Registers.{bits_of, alarm_count_of}
use Rattle.history.specs.Account.{opens}
use Rattle.machine.specs.Values.{Values, with_control, with_limiters, with_emergency}
use Rattle.machine.specs.Machine.{Change, Result, refusing, making, owing, line_now, moving, decided, armed_by, armed_values, request_of, sample_result}
use Rattle.machine.specs.Machine.{settings_each, clock_result, reported, filter_result, clear_result, profiled}
use Rattle.machine.specs.Ranges.{is_id}
use Rattle.machine.specs.Holding.{emergency_of}

-- what holds of limiters and of the same limiters armed holds of those that a request leaves
pub armed_or_not : (P : List Limiter → Type 0) (q : Request) (d : Decision) (ls : List Limiter) → P ls → P (map armed ls) → P (armed_by q d ls)
armed_or_not P request.RemoteDisconnect d ls p a = p
armed_or_not P request.RemoteReconnect d ls p a = p
armed_or_not P request.ManualDisconnect d ls p a = p
armed_or_not P request.ManualReconnect (Move t c o x) ls p a = a
armed_or_not P request.ManualReconnect Stay ls p a = p
armed_or_not P request.ManualReconnect NotListed ls p a = p
armed_or_not P request.LocalDisconnect d ls p a = p
armed_or_not P request.LocalReconnect d ls p a = p

-- what an accepted call makes of the values
abbrev pub effect_result : Values → Effect → Change
effect_result s (sampled ps) = sample_result s ps
effect_result s (requested q) = moving (armed_values s (request_of q)) [] (decided s (request_of q))
effect_result s (mode_set n) = moving (with_control s (in_mode s.control n)) [] (mode_decision n s.control.state)
effect_result s (limits_set ts o u) = owing (with_limiters s (settings_each s.limiters ts o u)) 3 (line_now s 67 ∷ [])
effect_result s (clock_set n) = clock_result s n
effect_result s (occurred r) = reported s r
effect_result s (filter_set x n) = filter_result s x n
effect_result s (bits_cleared x n) = clear_result s x n
effect_result s (log_cleared n) = record { values = s; letter = None; cleared = n; log = n; lines = line_now s 255 ∷ [] }
effect_result s (groups_set g) = owing (with_emergency s (with_groups s.emergency g)) 0 []
effect_result s (profile_set w) = profiled s w

-- a call as it is read: refused, or carried out
abbrev pub read_result : Values → Reading → Result
read_result s (refused n) = refusing n
read_result s (accepted e) = making (effect_result s e)

-- what holds of an accepted call, given the mode that it met
abbrev pub Proper : ℕ → Effect → Type 0
Proper m (sampled p) = Unit
Proper m (requested q) = among (listed_modes q) m ≡ true
Proper m (mode_set n) = leb n 6 ≡ true
Proper m (limits_set ts o u) = (every (le_z (pos 0)) ts ≡ true) × ((within 1 86400 o ≡ true) × (within 1 86400 u ≡ true))
Proper m (clock_set n) = Word n
Proper m (occurred r) = lawful r ≡ true
Proper m (filter_set s n) = Word n
Proper m (bits_cleared s n) = Word n
Proper m (log_cleared n) = is_log n ≡ true
Proper m (groups_set g) = every is_id g ≡ true
Proper m (profile_set w) = (within 1 604800 w.duration ≡ true) × ((is_id w.id ≡ true) × Word w.activation)

-- each accepted call of a history is proper
pub data AllProper (f : AnyFresh) : History → Type 0 where
  none : AllProper f []
  more : {e : Effect} {h : History} → Proper (mode_of f h) e → AllProper f h → AllProper f (e ∷ h)

-- the parts of the values that the account of a history names; n is the number of openings
abbrev pub held_control : AnyFresh → History → ℕ → Control
held_control f h n = record { mode = mode_of f h; state = switch_of f h; openings = n }

abbrev pub held_limiter : AnyFresh → History → ℕ → Limiter
held_limiter f h k =
    record {
      threshold = threshold_of f k h;
      over = (limits_of f h).over;
      under = (limits_of f h).under;
      exceeded = exceeded_of f k h;
      run = run_of f k h;
    }

abbrev pub held_limiters : AnyFresh → History → List Limiter
held_limiters f h = map (held_limiter f h) (monitored_values f)

abbrev pub register_of : WhichRegister → History → Register
register_of s h = record { bits = bits_of s h; filter = filter_of s h }

abbrev pub held_alarms : History → Alarms
held_alarms h = record { register = register_of alarms h; count = alarm_count_of h }

-- the groups and the profile
abbrev pub held_emergency : AnyFresh → History → Emergency
held_emergency f h = emergency_of (groups_of h) (profile_state f h)

abbrev pub held_values : AnyFresh → History → ℕ → Values
held_values f h n =
    record {
      control = held_control f h n;
      limiters = held_limiters f h;
      clock = clock_of f h;
      alarms = held_alarms h;
      errors = register_of errors h;
      emergency = held_emergency f h;
    }

-- the number of openings after one more call
abbrev pub next_openings : AnyFresh → Effect → History → ℕ → ℕ
next_openings f e h n = cond (opens (switch_of f h) (switch_of f (e ∷ h))) (suc n) n
