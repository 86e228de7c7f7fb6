-- 'Logs: the newest 32 lines owed by the call rules since that log was last cleared, its 255 included; moves, firings and clocks are this
-- account's up to that call.'
use Rattle.std.specs.Prelude.{ℕ, Bool, true, false, not, ◌&&◌, cond, List, [], ◌∷◌, ◌++◌, eqb, ℤ}
use Rattle.base.specs.Tests.{any, eq_z, gathered}
use Rattle.events.specs.Line.{Line, line, newest}
use Rattle.history.specs.Effects.{AnyFresh, RequestCall, remote_disconnect, remote_reconnect, manual_disconnect, manual_reconnect, WhichRegister}
use Rattle.history.specs.Effects.{alarms, errors, Effect, sampled, requested, mode_set, limits_set, clock_set, occurred, filter_set, bits_cleared}
use Rattle.history.specs.Effects.{log_cleared, groups_set, profile_set}
use Rattle.history.specs.Last.{History, clock_of}
use Rattle.history.specs.Profile.{threshold_in_force, threshold_at}
use Rattle.history.specs.Limiter.{fires_over, fires_under, monitored_values}
use Rattle.history.specs.Switch.{observations, switch_of}

-- the lines, if the test passes
abbrev pub when : Bool → List Line → List Line
when true xs = xs
when false xs = []

-- the call moves the switch
abbrev pub moves : AnyFresh → Effect → History → Bool
moves f e h = not (eqb (switch_of f h) (switch_of f (e ∷ h)))

-- the line of a request that moves the switch, by where it goes: 'Line in log 3'
abbrev pub request_code : RequestCall → ℕ → ℕ
request_code remote_disconnect to = 62
request_code remote_reconnect to = cond (eqb to 1) 63 59
request_code manual_disconnect to = 60
request_code manual_reconnect to = 61

-- the line of a move that the limiter tries, by where the switch goes: g's or h's
abbrev pub local_code : ℕ → ℕ
local_code to = cond (eqb to 1) 69 64

-- the line of a firing of monitored value k: '.. log 65 ..', '.. log 66 ..'
abbrev pub firing_lines : AnyFresh → Effect → History → ℕ → List Line
firing_lines f e h k =
    let now = clock_of f (e ∷ h) in
    when (fires_over (observations f k h) (observations f k (e ∷ h))) (line now 65 ∷ [])
    ++ when (fires_under (observations f k h) (observations f k (e ∷ h))) (line now 66 ∷ [])

-- document 02, A3: 'Whenever the threshold in force becomes another number, .. 67 is logged ..': of some monitored value, from these thresholds to those
abbrev pub change_lines : AnyFresh → ℕ → (ℕ → ℤ) → (ℕ → ℤ) → List Line
change_lines f now before after = when (any (λ k. not (eq_z (before k) (after k))) (monitored_values f)) (line now 67 ∷ [])

-- '.. standard line 11 or 10 ..'
abbrev pub clear_code : WhichRegister → ℕ
clear_code alarms = 11
clear_code errors = 10

-- the lines that a call owes to log n, oldest first; 'Every line not otherwise described bears the clock after the call',
-- and call 8's is described: '.. standard line 4 with the old clock ..'. A sample's are in the order of document 02, A3: a 67 '.. at the start before the
-- sample is judged ..', the firings, the move, a 67 '.. at the end after the last governed one ..'
abbrev pub owed_by : AnyFresh → ℕ → Effect → History → List Line
owed_by f n (sampled ps) h =
    let now = clock_of f (sampled ps ∷ h) in
    when (eqb n 3)
    (change_lines f now (λ k. threshold_in_force f k h) (λ k. threshold_at f k ps h)
    ++ (gathered (firing_lines f (sampled ps) h) (monitored_values f)
    ++ (when (moves f (sampled ps) h) (line now (local_code (switch_of f (sampled ps ∷ h))) ∷ [])
    ++ change_lines f now (λ k. threshold_at f k ps h) (λ k. threshold_in_force f k (sampled ps ∷ h)))))
owed_by f n (requested q) h =
    when (eqb n 3 && moves f (requested q) h) (line (clock_of f (requested q ∷ h)) (request_code q (switch_of f (requested q ∷ h))) ∷ [])
owed_by f n (mode_set m) h = when (eqb n 3 && moves f (mode_set m) h) (line (clock_of f (mode_set m ∷ h)) 63 ∷ [])
owed_by f n (limits_set t o u) h = when (eqb n 3) (line (clock_of f (limits_set t o u ∷ h)) 67 ∷ [])
owed_by f n (clock_set t) h = when (eqb n 1) (line (clock_of f h) 4 ∷ line (clock_of f (clock_set t ∷ h)) 5 ∷ [])
owed_by f n (occurred r) h = when (eqb n r.log) (line (clock_of f (occurred r ∷ h)) r.code ∷ [])
owed_by f n (filter_set s m) h = []
owed_by f n (bits_cleared s m) h = when (eqb n 1) (line (clock_of f (bits_cleared s m ∷ h)) (clear_code s) ∷ [])
owed_by f n (log_cleared m) h = when (eqb n m) (line (clock_of f (log_cleared m ∷ h)) 255 ∷ [])
owed_by f n (groups_set g) h = []
owed_by f n (profile_set w) h =
    when (eqb n 3) (change_lines f (clock_of f (profile_set w ∷ h)) (λ k. threshold_in_force f k h) (λ k. threshold_in_force f k (profile_set w ∷ h)))

-- the call clears log n
abbrev pub clears_log : ℕ → Effect → Bool
clears_log n (sampled p) = false
clears_log n (requested q) = false
clears_log n (mode_set m) = false
clears_log n (limits_set t o u) = false
clears_log n (clock_set t) = false
clears_log n (occurred r) = false
clears_log n (filter_set s m) = false
clears_log n (bits_cleared s m) = false
clears_log n (log_cleared m) = eqb n m
clears_log n (groups_set g) = false
clears_log n (profile_set w) = false

-- the lines owed since log n was last cleared, oldest first
unfoldable pub owed : AnyFresh → ℕ → History → List Line
owed f n [] = []
owed f n (e ∷ h) = when (not (clears_log n e)) (owed f n h) ++ owed_by f n e h

-- '.. the newest 32 lines ..'
abbrev pub log_of : AnyFresh → ℕ → History → List Line
log_of f n h = newest (owed f n h)
