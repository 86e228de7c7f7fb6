-- The machine of documents 01 and 02: what each call makes of a meter's values, in their order of effects.
use Rattle.std.specs.Prelude.{ℕ, ◌+◌, Bool, not, ◌&&◌, cond, List, [], ◌∷◌, ◌++◌, map, eqb, leb, ℤ, pos, take}
use Rattle.std.proofs.Math.Option.{Option, none, some}
use Rattle.std.specs.Int.Signed.{le_z}
use Rattle.base.specs.Numbers.{held}
use Rattle.base.specs.Tests.{within, among, any, gathered, each_from, eq_z}
use Rattle.registers.specs.Register.{raised, cleared, with_filter}
use Rattle.registers.specs.Alarms.{alarms_raised, alarms_cleared, alarms_filtered}
use Rattle.events.specs.Line.{Line, line, is_log}
use Rattle.events.specs.Table.{EventRow, lookup, mask}
use Rattle.control.specs.declared.Request.{Request}
use Rattle.control.specs.declared.Request.TheVariants as request
use Rattle.control.specs.declared.Decision.{Decision}
use Rattle.control.specs.declared.Decision.TheVariants.{Move, Stay, NotListed}
use Rattle.control.specs.Table.{switch_table}
use Rattle.control.specs.Control.{decision, mode_decision, moved_to, in_mode}
use Rattle.limiter.specs.declared.Limiter.{Limiter}
use Rattle.limiter.specs.declared.Watched.{Watched}
use Rattle.limiter.specs.Limiter.{watching, sampled_power, with_settings, restarted, armed}
use Rattle.emergency.specs.declared.Emergency.{Emergency}
use Rattle.emergency.specs.Emergency.{groups_in, with_groups, with_profile, started, ended, in_force}
use Rattle.logs.specs.Lists.{appended, emptied}
use Rattle.calls.specs.declared.Letter.{Letter}
use Rattle.calls.specs.declared.Letter.TheVariants.{None}
use Rattle.calls.specs.declared.Answer.{Answer}
use Rattle.calls.specs.declared.Answer.TheVariants.{Accepted, Refused}
use Rattle.history.specs.Effects.{RequestCall, remote_disconnect, remote_reconnect, manual_disconnect, manual_reconnect, WhichRegister, alarms, errors}
use Rattle.history.specs.Effects.{AnyCall, sample, request as request_call, set_mode, set_limiter, set_clock, event, set_filter, clear_bits, clear_log, script}
use Rattle.history.specs.Effects.{Profile, set_groups, set_profile}
use Rattle.history.specs.Last.{number_at}
use Rattle.machine.specs.Settings.{limits_answer}
use Rattle.machine.specs.Values.{Values, State, with_control, with_limiters, with_clock, with_alarms, with_errors}
use Rattle.machine.specs.Values.{with_emergency}

-- what an accepted call makes of the values: the next ones, the letter of the move that it made, a log that it clears (0: none), and the lines that it
-- owes to a log
pub record Change : Type 0 where
  pub values : Values
  pub letter : Letter
  pub cleared : ℕ
  pub log : ℕ
  pub lines : List Line

-- a call is refused with a number, or makes a change
pub data Result : Type 0 where
  refusing : ℕ → Result
  making : Change → Result

-- the next values, with lines owed to log n; no move was made
abbrev pub owing : Values → ℕ → List Line → Change
owing v n xs = record { values = v; letter = None; cleared = 0; log = n; lines = xs }

-- the same of a move: document 02, A2: '.. every call hands the letter on beside its answer'
abbrev pub lettered : Letter → Change → Change
lettered x k = record { values = k.values; letter = x; cleared = k.cleared; log = k.log; lines = k.lines }

-- 'Every line not otherwise described bears the clock after the call'
abbrev pub line_now : Values → ℕ → Line
line_now v c = line v.clock c

-- ---- the switch: a decision carried out, its line behind those already owed to log 3
abbrev pub moving : Values → List Line → Decision → Change
moving v xs (Move t c o x) = lettered x (owing (with_control v (moved_to v.control t o)) 3 (xs ++ (line_now v c ∷ [])))
moving v xs Stay = owing v 3 xs
moving v xs NotListed = owing v 3 xs

-- what the switch table says to a request now
abbrev pub decided : Values → Request → Decision
decided v q = decision switch_table q v.control.mode v.control.state

-- calls 2 to 5: 'mode rule | 2 | .. mode not in the switch table for that request'
abbrev pub answering : Values → Decision → Result
answering v (Move t c o x) = making (moving v [] (Move t c o x))
answering v Stay = making (moving v [] Stay)
answering v NotListed = refusing 2

-- document 02, A5: '.. a manual reconnect that moves the switch also ends Exceeded and sets Run 0, without a line'; of more monitored values than one
-- (document 02): 'A5's reconnect acts on all four lines ..'
abbrev pub armed_by : Request → Decision → List Limiter → List Limiter
armed_by request.RemoteDisconnect d ls = ls
armed_by request.RemoteReconnect d ls = ls
armed_by request.ManualDisconnect d ls = ls
armed_by request.ManualReconnect (Move t c o x) ls = map armed ls
armed_by request.ManualReconnect Stay ls = ls
armed_by request.ManualReconnect NotListed ls = ls
armed_by request.LocalDisconnect d ls = ls
armed_by request.LocalReconnect d ls = ls

-- the values with the limiters that a request leaves
abbrev pub armed_values : Values → Request → Values
armed_values v q = with_limiters v (armed_by q (decided v q) v.limiters)

-- a request
unfoldable pub request_result : Values → Request → Result
request_result v q = answering (armed_values v q) (decided v q)

-- ---- document 02, A3: the threshold in force, by profiles before and after
-- '.. becomes another number ..', for a limiter
abbrev pub same_threshold : Emergency → Emergency → Limiter → Bool
same_threshold a b l = eq_z (in_force a l.threshold) (in_force b l.threshold)

-- 'Whenever the threshold in force becomes another number, Run is 0 ..'
abbrev pub restarted_by : Bool → Limiter → Limiter
restarted_by same l = cond same l (restarted l)

-- '.. and 67 is logged': one line, whichever limiters' it is
abbrev pub change_lines : Values → List Bool → List Line
change_lines v same = cond (any not same) (line_now v 67 ∷ []) []

-- ---- call 1: what a limiter makes of a power: document 02, A3: '.. at the start before the sample is judged, at the end after the last governed one ..';
-- the profile before the sample, at it and after it
abbrev pub sampled_value : Emergency → Emergency → Emergency → Limiter → ℤ → Watched
sampled_value before during after l p =
    let w = sampled_power (restarted_by (same_threshold before during l) l) (in_force during l.threshold) p in
    watching (restarted_by (same_threshold during after l) w.limiter) w.fired

-- each monitored value
abbrev pub sampled_each : Emergency → Emergency → Emergency → List Limiter → List ℤ → List Watched
sampled_each before during after ls ps = each_from 0 (λ k l. sampled_value before during after l (number_at ps k)) ls

-- 'on reaching Over, Exceeded is set, .. log 65 ..'; 'on reaching Under, Exceeded ends, .. log 66 ..'
abbrev pub fired_lines : Values → Watched → List Line
fired_lines v w = cond w.fired (line_now v (cond w.limiter.exceeded 65 66) ∷ []) []

-- '.. then g is tried'; of more monitored values than one (document 02, whose 'line' is a monitored value): '.. once if a line fired over'
abbrev pub disconnect_tried : List Watched → Bool
disconnect_tried ws = any (λ w. w.fired && w.limiter.exceeded) ws

-- '.. then h is tried'; of more (document 02): '.. once if a line fired under and none remains exceeded'
abbrev pub reconnect_tried : List Watched → Bool
reconnect_tried ws = any (λ w. w.fired && not w.limiter.exceeded) ws && not (any (λ w. w.limiter.exceeded) ws)

-- behind lines already owed, the lines of the firings, then what they try; 'In a mode without g or h nothing is tried or refused'
abbrev pub after_sample : Values → List Line → List Watched → Change
after_sample v xs ws =
    let ys = xs ++ gathered (fired_lines v) ws in
    cond (disconnect_tried ws) (moving v ys (decided v request.LocalDisconnect))
    (cond (reconnect_tried ws) (moving v ys (decided v request.LocalReconnect))
    (owing v 3 ys))

-- a change with further lines behind its own
abbrev pub followed : Change → List Line → Change
followed k ys = record { values = k.values; letter = k.letter; cleared = k.cleared; log = k.log; lines = k.lines ++ ys }

-- a sample: 'The clock gains 1, held ..', the profile may start, then the limiter, then what it fires, then the profile may end
unfoldable pub sample_result : Values → List ℤ → Change
sample_result v ps =
    let now = held (v.clock + 1) in
    let during = started now v.emergency in
    let after = ended during in
    let ws = sampled_each v.emergency during after v.limiters ps in
    let next = with_emergency (with_limiters (with_clock v now) (map (λ w. w.limiter) ws)) after in
    followed (after_sample next (change_lines next (map (same_threshold v.emergency during) v.limiters)) ws)
    (change_lines next (map (same_threshold during after) v.limiters))

-- ---- call 6: '1 | mode above 6'; 'Accepting mode 0 sets switch 1 and, if it was not 1, logs 63'
unfoldable pub mode_result : Values → ℕ → Result
mode_result v n =
    cond (leb n 6)
    (making (moving (with_control v (in_mode v.control n)) [] (mode_decision n v.control.state)))
    (refusing 1)

-- ---- call 7: a threshold for each monitored value, Over and Under for all
abbrev pub settings_each : List Limiter → List ℤ → ℕ → ℕ → List Limiter
settings_each ls ts o u = each_from 0 (λ k l. with_settings l (number_at ts k) o u) ls

-- refused with the answer's number, or a change
abbrev pub answered_with : Answer → Change → Result
answered_with Accepted k = making k
answered_with (Refused n) k = refusing n

-- '4 | threshold negative', '5 | Over or Under out of range'; 'Run 0, Exceeded stays, log 67'
unfoldable pub limiter_result : Values → List ℤ → ℕ → ℕ → Result
limiter_result v ts o u =
    answered_with (limits_answer ts o u) (owing (with_limiters v (settings_each v.limiters ts o u)) 3 (line_now v 67 ∷ []))

-- ---- call 8: 'standard line 4 with the old clock, line 5 with the new; error bit 0 is cleared'
abbrev pub clock_result : Values → ℕ → Change
clock_result v n =
    owing (with_errors (with_clock v n) (cleared v.errors 1)) 1 (line v.clock 4 ∷ line n 5 ∷ [])

-- ---- call 9: '6 | code not listed'; 'one line in its log, then its bits'
abbrev pub reported : Values → EventRow → Change
reported v r =
    owing
    (with_errors (with_alarms v (alarms_raised v.alarms (mask r.alarm))) (raised v.errors (mask r.error)))
    r.log
    (line_now v r.code ∷ [])

-- what the table lists for its code
abbrev pub occurring : Values → Option EventRow → Result
occurring v none = refusing 6
occurring v (some r) = making (reported v r)

-- an event by its code
unfoldable pub event_result : List EventRow → Values → ℕ → Result
event_result rows v c = occurring v (lookup rows c)

-- ---- calls 10 and 11
abbrev pub filter_result : Values → WhichRegister → ℕ → Change
filter_result v alarms n = owing (with_alarms v (alarms_filtered v.alarms n)) 0 []
filter_result v errors n = owing (with_errors v (with_filter v.errors n)) 0 []

-- ---- calls 12 and 13: 'ones clear; standard line 11 or 10, mask 0 included'
abbrev pub clear_result : Values → WhichRegister → ℕ → Change
clear_result v alarms n = owing (with_alarms v (alarms_cleared v.alarms n)) 1 (line_now v 11 ∷ [])
clear_result v errors n = owing (with_errors v (cleared v.errors n)) 1 (line_now v 10 ∷ [])

-- ---- call 14: '7 | log not 1–3'; 'it then holds one line 255'
unfoldable pub clear_log_result : Values → ℕ → Result
clear_log_result v n =
    cond (is_log n)
    (making (record { values = v; letter = None; cleared = n; log = n; lines = line_now v 255 ∷ [] }))
    (refusing 7)

-- ---- call 15: '1 is call 2, 2 is call 3'; '3 | not 1 or 2'
unfoldable pub script_result : Values → ℕ → Result
script_result v n =
    cond (eqb n 1) (request_result v request.RemoteDisconnect)
    (cond (eqb n 2) (request_result v request.RemoteReconnect)
    (refusing 3))

-- ---- kind 16 (document 02, A3): '14, more than eight ids'; 'Kind 16 sets up to eight group ids'
unfoldable pub groups_result : Values → ℕ → List ℕ → Result
groups_result v n ids = cond (leb n 8) (making (owing (with_emergency v (with_groups v.emergency (take n ids))) 0 [])) (refusing 14)

-- ---- kind 17 (document 02, A3): 'It replaces any earlier profile and waits'; 'Whenever the threshold in force becomes another number ..', here '.. at a kind
-- 17 that replaces an active profile'
abbrev pub profiled : Values → Profile → Change
profiled v w =
    let next = with_profile v.emergency w.id w.threshold w.activation w.duration in
    owing
    (with_emergency (with_limiters v (map (λ l. restarted_by (same_threshold v.emergency next l) l) v.limiters)) next)
    3
    (change_lines v (map (same_threshold v.emergency next) v.limiters))

-- '15, id not in the group (kind 17); 16, duration outside 1 to 604,800, or threshold negative, after 15'
unfoldable pub profile_result : Values → Profile → Result
profile_result v w =
    cond (among (groups_in v.emergency) w.id)
    (cond (within 1 604800 w.duration && le_z (pos 0) w.threshold) (making (profiled v w)) (refusing 16))
    (refusing 15)

-- calls 2 to 5, as the switch table names them
abbrev pub request_of : RequestCall → Request
request_of remote_disconnect = request.RemoteDisconnect
request_of remote_reconnect = request.RemoteReconnect
request_of manual_disconnect = request.ManualDisconnect
request_of manual_reconnect = request.ManualReconnect

-- the fifteen calls and document 02's two
abbrev pub result : List EventRow → Values → AnyCall → Result
result rows v (sample ps) = making (sample_result v ps)
result rows v (request_call q) = request_result v (request_of q)
result rows v (set_mode n) = mode_result v n
result rows v (set_limiter ts o u) = limiter_result v ts o u
result rows v (set_clock n) = making (clock_result v n)
result rows v (event c) = event_result rows v c
result rows v (set_filter s n) = making (filter_result v s n)
result rows v (clear_bits s n) = making (clear_result v s n)
result rows v (clear_log n) = clear_log_result v n
result rows v (script n) = script_result v n
result rows v (set_groups n ids) = groups_result v n ids
result rows v (set_profile w) = profile_result v w

-- the values and the logs after a change
abbrev pub state_after : State → Change → State
state_after s k = record { values = k.values; logs = appended k.log k.lines (emptied k.cleared s.logs) }
