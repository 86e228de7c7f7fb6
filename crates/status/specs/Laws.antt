-- Why the contracts here, on the values of a meter that monitors nothing, are those of any meter: a call that touches no limiter, and a manual reconnect.
use Rattle.std.specs.Prelude.{◌≡◌, List}
use Rattle.events.specs.Table.{EventRow}
use Rattle.control.specs.declared.Request.{Request}
use Rattle.limiter.specs.declared.Limiter.{Limiter}
use Rattle.emergency.specs.declared.Emergency.{Emergency}
use Rattle.history.specs.Effects.{remote_disconnect, remote_reconnect, manual_disconnect, manual_reconnect, AnyCall, sample, request, set_mode, set_limiter}
use Rattle.history.specs.Effects.{set_clock, event, set_filter, clear_bits, clear_log, script, set_groups, set_profile}
use Rattle.machine.specs.Values.{Values, with_limiters, with_emergency}
use Rattle.machine.specs.Machine.{Change, Result, refusing, making, decided, armed_by, request_result, result}

-- all calls but samples, limiter settings, manual reconnects, and settings of groups and profile
abbrev pub NoLimiter : AnyCall → Type 0
NoLimiter (sample ps) = ⊥
NoLimiter (request remote_disconnect) = Unit
NoLimiter (request remote_reconnect) = Unit
NoLimiter (request manual_disconnect) = Unit
NoLimiter (request manual_reconnect) = ⊥
NoLimiter (set_mode n) = Unit
NoLimiter (set_limiter ts o u) = ⊥
NoLimiter (set_clock n) = Unit
NoLimiter (event c) = Unit
NoLimiter (set_filter s n) = Unit
NoLimiter (clear_bits s n) = Unit
NoLimiter (clear_log n) = Unit
NoLimiter (script n) = Unit
NoLimiter (set_groups n ids) = ⊥
NoLimiter (set_profile w) = ⊥

-- values with these limiters, and this profile and groups
abbrev pub values_with : List Limiter → Emergency → Values → Values
values_with ls e v = with_emergency (with_limiters v ls) e

-- a change, with these in its values
abbrev pub change_with : List Limiter → Emergency → Change → Change
change_with ls e k = record { values = values_with ls e k.values; letter = k.letter; cleared = k.cleared; log = k.log; lines = k.lines }

-- a result
abbrev pub result_with : List Limiter → Emergency → Result → Result
result_with ls e (refusing n) = refusing n
result_with ls e (making k) = making (change_with ls e k)

-- of the machine
pub record Laws : Type 0 where
  -- whatever limiters, profile and groups are, the call leaves them, and all else is as without them
  pub limiters_left : (rows : List EventRow) (v : Values) (ls : List Limiter) (e : Emergency) (c : AnyCall) → NoLimiter c
      → result rows (values_with ls e v) c ≡ result_with ls e (result rows v c)
  -- document 02, A5: a request leaves them too, unless it is a manual reconnect that moves the switch: that arms the limiters again; all else is as without
  -- them
  pub limiters_armed : (v : Values) (ls : List Limiter) (e : Emergency) (q : Request)
      → request_result (values_with ls e v) q ≡ result_with (armed_by q (decided v q) ls) e (request_result v q)
