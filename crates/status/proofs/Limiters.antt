-- Calls that touch no limiter, and requests, whose manual reconnect may arm them.
use mathlib.Core.Path.{◌≡◌, refl}
use mathlib.Core.Bool.{Bool, true, false, cond}
use mathlib.Core.List.{List, []}
use mathlib.Core.Option.{Option, none, some}
use lib.Dec.{eqb, leb}
use Rattle.events.specs.Line.{Line, is_log}
use Rattle.events.specs.Table.{EventRow, lookup}
use Rattle.control.specs.declared.Request.{Request}
use Rattle.control.specs.declared.Request.TheVariants.{RemoteDisconnect, RemoteReconnect, ManualDisconnect}
use Rattle.control.specs.declared.Decision.{Decision}
use Rattle.control.specs.declared.Decision.TheVariants.{Move, Stay, NotListed}
use Rattle.control.specs.Control.{in_mode, mode_decision}
use Rattle.limiter.specs.declared.Limiter.{Limiter}
use Rattle.emergency.specs.declared.Emergency.{Emergency}
use Rattle.history.specs.Effects.{AnyCall, remote_disconnect, remote_reconnect, manual_disconnect, manual_reconnect, alarms, errors, sample, request}
use Rattle.history.specs.Effects.{set_mode, set_limiter, set_clock, event, set_filter, clear_bits, clear_log, script, set_groups, set_profile}
use Rattle.machine.specs.Values.{Values, with_control, with_limiters}
use Rattle.machine.specs.Machine.{Result, refusing, moving, decided, answering, armed_by, occurring, result}
use Rattle.machine.specs.Machine.{request_result, mode_result, event_result, clear_log_result, script_result}
use Rattle.status.specs.Laws.{NoLimiter, values_with, change_with, result_with, Laws}

module _ (v : Values) (ls : List Limiter) (e : Emergency) where
  pub moving_left : (xs : List Line) (d : Decision) → moving (values_with ls e v) xs d ≡ change_with ls e (moving v xs d)
  moving_left xs (Move t c o x) = refl
  moving_left xs Stay = refl
  moving_left xs NotListed = refl

  request_armed : (q : Request) → request_result (values_with ls e v) q ≡ result_with (armed_by q (decided v q) ls) e (request_result v q)
  unfolding request_result
  request_armed q = go (armed_by q (decided v q) ls) (armed_by q (decided v q) v.limiters) (decided v q)
    where
      go : (ls₁ ls₂ : List Limiter) (d : Decision) → answering (values_with ls₁ e v) d ≡ result_with ls₁ e (answering (with_limiters v ls₂) d)
      go ls₁ ls₂ (Move t c o x) = refl
      go ls₁ ls₂ Stay = refl
      go ls₁ ls₂ NotListed = refl

  occurring_left : (o : Option EventRow) → occurring (values_with ls e v) o ≡ result_with ls e (occurring v o)
  occurring_left none = refl
  occurring_left (some r) = refl

-- a choice of two results
choice_left : (ls : List Limiter) (e : Emergency) (b : Bool) (x y : Result) → cond b (result_with ls e x) (result_with ls e y) ≡ result_with ls e (cond b x y)
choice_left ls e true x y = refl
choice_left ls e false x y = refl

limiters_left : (rows : List EventRow) (v : Values) (ls : List Limiter) (e : Emergency) (c : AnyCall) → NoLimiter c
    → result rows (values_with ls e v) c ≡ result_with ls e (result rows v c)
unfolding mode_result event_result clear_log_result script_result
limiters_left rows v ls e (sample ps) h = absurd h
limiters_left rows v ls e (request remote_disconnect) h = request_armed v ls e RemoteDisconnect
limiters_left rows v ls e (request remote_reconnect) h = request_armed v ls e RemoteReconnect
limiters_left rows v ls e (request manual_disconnect) h = request_armed v ls e ManualDisconnect
limiters_left rows v ls e (request manual_reconnect) h = absurd h
limiters_left rows v ls e (set_mode n) h =
    rw (moving_left (with_control v (in_mode v.control n)) ls e [] (mode_decision n v.control.state)) (choice_left ls e (leb n 6) _ (refusing 1))
limiters_left rows v ls e (set_limiter ts o u) h = absurd h
limiters_left rows v ls e (set_clock n) h = refl
limiters_left rows v ls e (event c) h = occurring_left v ls e (lookup rows c)
limiters_left rows v ls e (set_filter alarms n) h = refl
limiters_left rows v ls e (set_filter errors n) h = refl
limiters_left rows v ls e (clear_bits alarms n) h = refl
limiters_left rows v ls e (clear_bits errors n) h = refl
limiters_left rows v ls e (clear_log n) h = choice_left ls e (is_log n) _ (refusing 7)
limiters_left rows v ls e (script n) h =
    rw (request_armed v ls e RemoteDisconnect, request_armed v ls e RemoteReconnect, choice_left ls e (eqb n 2) (request_result v RemoteReconnect) (refusing 3))
    (choice_left ls e (eqb n 1) (request_result v RemoteDisconnect) _)
limiters_left rows v ls e (set_groups n ids) h = absurd h
limiters_left rows v ls e (set_profile w) h = absurd h

pub laws : Laws
laws = record { limiters_left = limiters_left; limiters_armed = request_armed }
