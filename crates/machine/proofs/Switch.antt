-- The switch: after each accepted call the machine's mode, switch and openings, and the line of a move, are those of the account.
use Prim.Native.Nat.{ℕ, suc, ◌+◌}
use native.Mathlib.Omega.{arith}
use mathlib.Core.Path.{◌≡◌, refl, ap, ap₂, ◌∙◌}
use mathlib.Core.Bool.{Bool, true, false, not, ◌&&◌, ◌||◌, cond, beq, and-not_self}
use mathlib.Core.List.{List, [], ◌∷◌, ◌++◌, map, append-nil, append_assoc}
use mathlib.Core.Option.{none as nothing, some}
use lib.Dec.{eqb, leb}
use lib.IntN.{ℤ}
use borrow.Author.Tests.{leb-true, eqb-true, eq-eqb}
use Rattle.base.specs.Numbers.{held}
use Rattle.base.specs.Tests.{within, among, every, below, gathered}
use Rattle.base.proofs.Bools.{beq_eq}
use Rattle.base.proofs.Every.{among_passes}
use Rattle.base.proofs.Below.{below_at}
use Rattle.events.specs.Line.{Line, line}
use Rattle.calls.specs.declared.Letter.{Letter}
use Rattle.calls.specs.declared.Letter.TheVariants.{A, D, E, F, None}
use Rattle.control.specs.declared.Control.{Control}
use Rattle.control.specs.declared.Request.{Request}
use Rattle.control.specs.declared.Request.TheVariants as request
use Rattle.control.specs.declared.Decision.{Decision}
use Rattle.control.specs.declared.Decision.TheVariants.{Move, Stay, NotListed}
use Rattle.control.specs.Table.{switch_table}
use Rattle.control.specs.Control.{or_stay, decision, mode_decision, moved_to}
use Rattle.control.proofs.Answers.{answered, rows}
use Rattle.limiter.specs.declared.Limiter.{Limiter}
use Rattle.limiter.specs.declared.Watched.{Watched}
use Rattle.emergency.specs.declared.Emergency.{Emergency}
use Rattle.emergency.specs.Emergency.{ended}
use Rattle.history.specs.Effects.{AnyFresh, RequestCall, remote_disconnect, remote_reconnect, manual_disconnect, manual_reconnect, alarms, errors, Effect}
use Rattle.history.specs.Effects.{sampled, requested, mode_set, limits_set, clock_set, occurred, filter_set, bits_cleared, log_cleared, groups_set, profile_set}
use Rattle.history.specs.Effects.{listed_modes}
use Rattle.history.specs.Last.{History, otherwise, given, last, mode_of, clock_of}
use Rattle.history.specs.Profile.{threshold_in_force, threshold_at}
use Rattle.history.specs.Limiter.{fires_over, fires_under, monitored_values}
use Rattle.history.specs.Switch.{spell, observations, last_decided, switch_of, exceeded_of}
use Rattle.history.specs.Logs.{when, moves, request_code, local_code, change_lines as owed_change}
use Rattle.history.specs.Account.{opens}
use Rattle.history.specs.Letters.{request_letter, local_letter, move_letter, letter_of}
use Rattle.history.proofs.Letters.{OneOrTwo, one, two, tried_g, tried_h, last_decided_lem}
use Rattle.machine.specs.Values.{Values, with_control, with_limiters, with_clock, with_emergency}
use Rattle.machine.specs.Machine.{Change, owing, lettered, line_now, moving, decided, armed_by, request_of, fired_lines, disconnect_tried, reconnect_tried}
use Rattle.machine.specs.Machine.{same_threshold, change_lines, after_sample, followed, sample_result}
use Rattle.machine.specs.Ranges.{AnySettings}
use Rattle.machine.proofs.Lists.{map_map, any_map, any_ext, gathered_map, gathered_ext}
use Rattle.machine.proofs.Ranges.{mode_range}
use Rattle.machine.proofs.Effects.{effect_result, Proper, AllProper, held_control, held_limiters, held_emergency, held_values, next_openings}
use Rattle.machine.proofs.Profile.{now_of, during_of, profile_sampled, in_force_before, in_force_at, in_force_after, changed_lines}
use Rattle.machine.proofs.Stretches.{changes, watched_of, sampled_watched, limiters_limited, limiters_replaced, limiters_armed, limiters_unarmed}

-- every request lists modes 1 to 6 only, a manual disconnect 1, 2 and 5
listed_mode : (q : RequestCall) (m : ℕ) → among (listed_modes q) m ≡ true → within 1 6 m ≡ true
unfolding every
listed_mode remote_disconnect m e = among_passes (within 1 6) (listed_modes remote_disconnect) m refl e
listed_mode remote_reconnect m e = among_passes (within 1 6) (listed_modes remote_reconnect) m refl e
listed_mode manual_disconnect m e = among_passes (within 1 6) (listed_modes manual_disconnect) m refl e
listed_mode manual_reconnect m e = among_passes (within 1 6) (listed_modes manual_reconnect) m refl e

disconnect_mode : (m : ℕ) → among (listed_modes manual_disconnect) m ≡ true → eqb m 5 || within 1 2 m ≡ true
unfolding every
disconnect_mode m e = among_passes (λ k. eqb k 5 || within 1 2 k) (listed_modes manual_disconnect) m refl e

-- two tests that agree at 0 to 6 agree at a mode: 1 to 6 is outside mode 0, and 5 to 6 is 5 or 6
same_test : (t u : ℕ → Bool) (m : ℕ) → below 7 (λ k. beq (t k) (u k)) ≡ true → leb m 6 ≡ true → t m ≡ u m
same_test t u m e h =
    beq_eq (t m) (u m) (below_at (λ k. beq (t k) (u k)) m 7 (omega (arith, leb-true m 6 h)) e)

outside_zero : (m : ℕ) → leb m 6 ≡ true → within 1 6 m ≡ not (eqb m 0)
unfolding below
outside_zero m h = same_test (within 1 6) (λ k. not (eqb k 0)) m refl h

five_six : (m : ℕ) → leb m 6 ≡ true → within 5 6 m ≡ among (5 ∷ 6 ∷ []) m
unfolding below among
five_six m h = same_test (within 5 6) (among (5 ∷ 6 ∷ [])) m refl h

five_listed : (m : ℕ) → among (5 ∷ 6 ∷ []) m ≡ true → within 1 6 m ≡ true
unfolding every
five_listed m e = among_passes (within 1 6) (5 ∷ 6 ∷ []) m refl e

-- ---- the decisions
-- a change of the switch as a decision: none, or a move with its line and letter, out of 1 or not
abbrev pub change : ℕ → ℕ → ℕ → Letter → Decision
change from to code x = cond (eqb from to) Stay (Move to code (eqb from 1) x)

-- a decision carries out the account's change of the switch at a call, with this line and the account's letter
abbrev pub Switches : AnyFresh → Effect → History → ℕ → Decision → Type 0
Switches f e h code d = or_stay d ≡ change (switch_of f h) (switch_of f (e ∷ h)) code (move_letter e (switch_of f h) (switch_of f (e ∷ h)))

-- the rows of each request, in each position: inside a spell (s) it is 0, else what the last deciding call gave (c)
module _ (m : ℕ) (listed : within 1 6 m ≡ true) where
  remote_disconnect_lem : (s : Bool) {c : ℕ} → OneOrTwo c
      → or_stay (answered request.RemoteDisconnect m (cond s 0 c)) ≡ change (cond s 0 c) 0 62 (request_letter remote_disconnect (cond s 0 c) 0)
  unfolding answered
  remote_disconnect_lem true p = rw listed
  remote_disconnect_lem false one = rw listed
  remote_disconnect_lem false two = rw listed

  remote_reconnect_lem : (s x : Bool) → among (2 ∷ 4 ∷ []) m ≡ x → {c : ℕ} → OneOrTwo c
      → let to = otherwise (cond s (some (cond x 1 2)) (given x 1)) c in
      or_stay (answered request.RemoteReconnect m (cond s 0 c)) ≡ change (cond s 0 c) to (cond (eqb to 1) 63 59) (cond (eqb to 1) A D)
  unfolding answered among
  remote_reconnect_lem true true e p = rw (listed, e)
  remote_reconnect_lem true false e p = rw (listed, e)
  remote_reconnect_lem false true e one = rw (listed, e)
  remote_reconnect_lem false true e two = rw (listed, e)
  remote_reconnect_lem false false e one = rw (listed, e)
  remote_reconnect_lem false false e two = rw (listed, e)

  manual_disconnect_lem : eqb m 5 || within 1 2 m ≡ true → (s : Bool) {c : ℕ} → OneOrTwo c
      → or_stay (answered request.ManualDisconnect m (cond s 0 c)) ≡ change (cond s 0 c) (cond s 0 (otherwise (given (not s) 2) c)) 60 F
  unfolding answered
  manual_disconnect_lem e true p = rw (listed, e)
  manual_disconnect_lem e false one = rw (listed, e)
  manual_disconnect_lem e false two = rw (listed, e)

  manual_reconnect_lem : (s : Bool) {c : ℕ} → OneOrTwo c
      → or_stay (answered request.ManualReconnect m (cond s 0 c)) ≡ change (cond s 0 c) (cond s 0 (otherwise (given (not s) 1) c)) 61 E
  unfolding answered
  manual_reconnect_lem true p = rw listed
  manual_reconnect_lem false one = rw listed
  manual_reconnect_lem false two = rw listed

-- a request
pub request_switches : (f : AnyFresh) (h : History) (q : RequestCall) → Proper (mode_of f h) (requested q)
    → Switches f (requested q) h (request_code q (switch_of f (requested q ∷ h))) (decision switch_table (request_of q) (mode_of f h) (switch_of f h))
unfolding switch_of spell last last_decided
request_switches f h remote_disconnect p =
    rw rows (remote_disconnect_lem (mode_of f h) (listed_mode remote_disconnect (mode_of f h) p) (spell h) (last_decided_lem f h))
request_switches f h remote_reconnect p =
    rw rows (remote_reconnect_lem (mode_of f h) (listed_mode remote_reconnect (mode_of f h) p) (spell h) (among (2 ∷ 4 ∷ []) (mode_of f h)) refl (last_decided_lem f h))
request_switches f h manual_disconnect p =
    rw rows (manual_disconnect_lem (mode_of f h) (listed_mode manual_disconnect (mode_of f h) p) (disconnect_mode (mode_of f h) p) (spell h) (last_decided_lem f h))
request_switches f h manual_reconnect p =
    rw rows (manual_reconnect_lem (mode_of f h) (listed_mode manual_reconnect (mode_of f h) p) (spell h) (last_decided_lem f h))

-- a mode
mode_rows : (n : ℕ) (s z : Bool) → eqb n 0 ≡ z → {c : ℕ} → OneOrTwo c
    → or_stay (mode_decision n (cond s 0 c)) ≡ change (cond s 0 c) (cond (otherwise (given z false) s) 0 (otherwise (given z 1) c)) 63 None
unfolding mode_decision
mode_rows n true true e p = rw e
mode_rows n true false e p = rw e
mode_rows n false true e one = rw e
mode_rows n false true e two = rw e
mode_rows n false false e one = rw e
mode_rows n false false e two = rw e

pub mode_switches : (f : AnyFresh) (h : History) (n : ℕ) → Switches f (mode_set n) h 63 (mode_decision n (switch_of f h))
unfolding switch_of spell last last_decided
mode_switches f h n = mode_rows n (spell h) (eqb n 0) refl (last_decided_lem f h)

-- a sample: g tried (a), h tried (b), outside mode 0 (x), in mode 5 or 6 (y)
abbrev sampled_to : Bool → ℕ → Bool → Bool → Bool → Bool → ℕ
sampled_to s c a b x y = cond s 0 (otherwise (cond s nothing (cond a (given x 2) (given (b && y) 1))) c)

sample_stays : (s x y : Bool) (c : ℕ) → sampled_to s c false false x y ≡ cond s 0 c
sample_stays true x y c = refl
sample_stays false x y c = refl

local_disconnect : (m : ℕ) (s b x y : Bool) → within 1 6 m ≡ x → {c : ℕ} → OneOrTwo c
    → or_stay (answered request.LocalDisconnect m (cond s 0 c))
    ≡ (let to = sampled_to s c true b x y in change (cond s 0 c) to (local_code to) (local_letter to))
unfolding answered
local_disconnect m true b true y e p = rw e
local_disconnect m true b false y e p = rw e
local_disconnect m false b true y e one = rw e
local_disconnect m false b true y e two = rw e
local_disconnect m false b false y e one = rw e
local_disconnect m false b false y e two = rw e

-- outside modes 5 and 6 a local reconnect is not listed
unlisted : (x : Bool) → cond x NotListed NotListed ≡ NotListed
unlisted true = refl
unlisted false = refl

local_reconnect : (m : ℕ) (s x y : Bool) → within 5 6 m ≡ y → (y ≡ true → within 1 6 m ≡ true) → {c : ℕ} → OneOrTwo c
    → or_stay (answered request.LocalReconnect m (cond s 0 c))
    ≡ (let to = sampled_to s c false true x y in change (cond s 0 c) to (local_code to) (local_letter to))
unfolding answered
local_reconnect m true x true e k p = rw (e, k refl)
local_reconnect m false x true e k one = rw (e, k refl)
local_reconnect m false x true e k two = rw (e, k refl)
local_reconnect m true x false e k p = rw (e, unlisted)
local_reconnect m false x false e k one = rw (e, unlisted)
local_reconnect m false x false e k two = rw (e, unlisted)

-- a sample that tries g, one that tries h, and one that tries nothing
module _ (f : AnyFresh) (h : History) (ps : List ℤ) where
  -- where the switch is after the sample
  sampled_to_lem : switch_of f (sampled ps ∷ h)
      ≡ sampled_to (spell h) (last_decided f h) (tried_g f h ps) (tried_h f h ps) (not (eqb (mode_of f h) 0)) (among (5 ∷ 6 ∷ []) (mode_of f h))
  unfolding switch_of spell last observations last_decided
  sampled_to_lem = refl

  pub over_switches : AnySettings f → AllProper f h → tried_g f h ps ≡ true
      → Switches f (sampled ps) h (local_code (switch_of f (sampled ps ∷ h))) (decision switch_table request.LocalDisconnect (mode_of f h) (switch_of f h))
  unfolding switch_of
  over_switches s a e =
      let m = mode_of f h in
      rw (rows, sampled_to_lem, e)
      (local_disconnect m (spell h) (tried_h f h ps) (not (eqb m 0)) (among (5 ∷ 6 ∷ []) m) (outside_zero m (mode_range f s h a)) (last_decided_lem f h))

  pub under_switches : AnySettings f → AllProper f h → tried_g f h ps ≡ false → tried_h f h ps ≡ true
      → Switches f (sampled ps) h (local_code (switch_of f (sampled ps ∷ h))) (decision switch_table request.LocalReconnect (mode_of f h) (switch_of f h))
  unfolding switch_of
  under_switches s a e e' =
      let m = mode_of f h in
      rw (rows, sampled_to_lem, e, e')
      (local_reconnect m (spell h) (not (eqb m 0)) (among (5 ∷ 6 ∷ []) m) (five_six m (mode_range f s h a)) (five_listed m) (last_decided_lem f h))

  pub sample_switches : tried_g f h ps ≡ false → tried_h f h ps ≡ false → switch_of f (sampled ps ∷ h) ≡ switch_of f h
  unfolding switch_of
  sample_switches e e' =
      rw (sampled_to_lem, e, e')
      (sample_stays (spell h) (not (eqb (mode_of f h) 0)) (among (5 ∷ 6 ∷ []) (mode_of f h)) (last_decided f h))

-- ---- decisions carried out
-- the control with its switch in a position, its openings counted as the account counts them
abbrev pub switched_to : Control → ℕ → Control
switched_to c to = moved_to c to (opens c.state to)

stays_in : (c : Control) → switched_to c c.state ≡ c
stays_in c = rw (and-not_self (eqb c.state 1))

-- a change to another position opens exactly if it leaves 1
leaves_one : (from to : ℕ) → eqb from to ≡ false → opens from to ≡ eqb from 1
leaves_one from to e = go (eqb from 1) (eqb to 1) refl refl
  where
    go : (x y : Bool) → eqb from 1 ≡ x → eqb to 1 ≡ y → x && not y ≡ x
    go true true p q = cc (eqb-true to 1 q)
    go true false p q = refl
    go false y p q = refl

-- a decision that carries out a change: the control, the line behind those already owed, and the letter
pub moving_switched : (s : Values) (xs : List Line) (d : Decision) (to code : ℕ) (l : Letter) → or_stay d ≡ change s.control.state to code l
    → moving s xs d
    ≡ lettered (cond (not (eqb s.control.state to)) l None)
    (owing (with_control s (switched_to s.control to)) 3 (xs ++ when (not (eqb s.control.state to)) (line_now s code ∷ [])))
moving_switched s xs d to code l e = either_way d ∙ ap (moving s xs) e ∙ go (eqb s.control.state to) refl
  where
    either_way : (d : Decision) → moving s xs d ≡ moving s xs (or_stay d)
    either_way (Move t c o x) = refl
    either_way Stay = refl
    either_way NotListed = refl

    go : (x : Bool) → eqb s.control.state to ≡ x
        → moving s xs (cond x Stay (Move to code (eqb s.control.state 1) l))
        ≡ lettered (cond (not x) l None) (owing (with_control s (switched_to s.control to)) 3 (xs ++ when (not x) (line_now s code ∷ [])))
    go true q = rw (← eqb-true s.control.state to q, stays_in s.control, append-nil)
    go false q = rw (leaves_one s.control.state to q)

-- ---- the results of the calls that may move the switch, whole
-- 'held as above': a held count gains one as the count itself does
held_next : (x : Bool) (n : ℕ) → cond x (held (held n + 1)) (held n) ≡ held (cond x (suc n) n)
held_next true n = omega arith
held_next false n = refl

-- the account's control, with its openings held, is switched to the account's next
abbrev control_in : ℕ → ℕ → ℕ → Control
control_in m s n = record { mode = m; state = s; openings = n }

switched_control : (m from to n : ℕ) → switched_to (control_in m from (held n)) to ≡ control_in m to (held (cond (opens from to) (suc n) n))
switched_control m from to n = ap (control_in m to) (held_next (opens from to) n)

-- the limiters that a request leaves
either_decision : (q : Request) (d : Decision) (ls : List Limiter) → armed_by q d ls ≡ armed_by q (or_stay d) ls
either_decision request.RemoteDisconnect d ls = refl
either_decision request.RemoteReconnect d ls = refl
either_decision request.ManualDisconnect d ls = refl
either_decision request.ManualReconnect (Move t c o x) ls = refl
either_decision request.ManualReconnect Stay ls = refl
either_decision request.ManualReconnect NotListed ls = refl
either_decision request.LocalDisconnect d ls = refl
either_decision request.LocalReconnect d ls = refl

request_limiters : (f : AnyFresh) (h : History) (q : RequestCall) → Proper (mode_of f h) (requested q)
    → armed_by (request_of q) (decision switch_table (request_of q) (mode_of f h) (switch_of f h)) (held_limiters f h) ≡ held_limiters f (requested q ∷ h)
unfolding last observations
request_limiters f h remote_disconnect p = refl
request_limiters f h remote_reconnect p = refl
request_limiters f h manual_disconnect p = refl
request_limiters f h manual_reconnect p =
    either_decision request.ManualReconnect (decision switch_table request.ManualReconnect (mode_of f h) (switch_of f h)) (held_limiters f h)
    ∙ ap (λ (d : Decision). armed_by request.ManualReconnect d (held_limiters f h)) (request_switches f h manual_reconnect p)
    ∙ go (eqb (switch_of f h) (switch_of f (requested manual_reconnect ∷ h))) refl
  where
    go : (x : Bool) → eqb (switch_of f h) (switch_of f (requested manual_reconnect ∷ h)) ≡ x
        → armed_by request.ManualReconnect (cond x Stay (Move (switch_of f (requested manual_reconnect ∷ h)) 61 (eqb (switch_of f h) 1) E)) (held_limiters f h)
        ≡ held_limiters f (requested manual_reconnect ∷ h)
    go true e = limiters_unarmed f h (ap not e)
    go false e = limiters_armed f h (ap not e)

pub requested_result : (f : AnyFresh) (h : History) (q : RequestCall) (n : ℕ) → Proper (mode_of f h) (requested q)
    → effect_result (held_values f h (held n)) (requested q)
    ≡ lettered (letter_of f (requested q) h) (owing
    (with_control
    (with_limiters (held_values f h (held n)) (held_limiters f (requested q ∷ h)))
    (held_control f (requested q ∷ h) (held (next_openings f (requested q) h n))))
    3
    (when (moves f (requested q) h) (line (clock_of f h) (request_code q (switch_of f (requested q ∷ h))) ∷ [])))
unfolding last observations
requested_result f h q n p =
    let s = with_limiters (held_values f h (held n)) (held_limiters f (requested q ∷ h)) in
    let to = switch_of f (requested q ∷ h) in
    ap (λ (ls : List Limiter). moving (with_limiters s ls) [] (decided s (request_of q))) (request_limiters f h q p)
    ∙ moving_switched s [] (decided s (request_of q)) to (request_code q to) (request_letter q (switch_of f h) to) (request_switches f h q p)
    ∙ ap (λ c. lettered (letter_of f (requested q) h) (owing (with_control s c) 3 (when (moves f (requested q) h) (line_now s (request_code q to) ∷ []))))
    (switched_control (mode_of f h) (switch_of f h) to n)

pub mode_result_lem : (f : AnyFresh) (h : History) (m n : ℕ)
    → effect_result (held_values f h (held n)) (mode_set m)
    ≡ lettered (letter_of f (mode_set m) h) (owing
    (with_control (held_values f h (held n)) (held_control f (mode_set m ∷ h) (held (next_openings f (mode_set m) h n))))
    3
    (when (moves f (mode_set m) h) (line (clock_of f h) 63 ∷ [])))
unfolding last
mode_result_lem f h m n =
    let s = with_control (held_values f h (held n)) (control_in m (switch_of f h) (held n)) in
    let to = switch_of f (mode_set m ∷ h) in
    moving_switched s [] (mode_decision m (switch_of f h)) to 63 None (mode_switches f h m)
    ∙ ap (λ c. lettered (letter_of f (mode_set m) h) (owing (with_control s c) 3 (when (moves f (mode_set m) h) (line_now s 63 ∷ []))))
    (switched_control m (switch_of f h) to n)

-- ---- a sample: what is fired, and what is tried
fired_over : (e e' : Bool) → changes e e' && e' ≡ not e && e'
fired_over true true = refl
fired_over true false = refl
fired_over false true = refl
fired_over false false = refl

fired_under : (e e' : Bool) → changes e e' && not e' ≡ e && not e'
fired_under true true = refl
fired_under true false = refl
fired_under false true = refl
fired_under false false = refl

-- the line of one firing, as the machine and as the account have it
firing_line : (now : ℕ) (e e' : Bool)
    → cond (changes e e') (line now (cond e' 65 66) ∷ []) [] ≡ when (not e && e') (line now 65 ∷ []) ++ when (e && not e') (line now 66 ∷ [])
firing_line now true true = refl
firing_line now true false = refl
firing_line now false true = refl
firing_line now false false = refl

-- the lines of a sample's firings, in the order of the monitored values; `now` is the clock after it
abbrev pub owed_firings : AnyFresh → History → List ℤ → ℕ → List Line
owed_firings f h ps now =
    gathered
    (λ k. when (fires_over (observations f k h) (observations f k (sampled ps ∷ h))) (line now 65 ∷ [])
    ++ when (fires_under (observations f k h) (observations f k (sampled ps ∷ h))) (line now 66 ∷ []))
    (monitored_values f)

module _ (f : AnyFresh) (h : History) (ps : List ℤ) where
  tries_g_lem : disconnect_tried (map (watched_of f h ps) (monitored_values f)) ≡ tried_g f h ps
  tries_g_lem =
      any_map (λ w. w.fired && w.limiter.exceeded) (watched_of f h ps) (monitored_values f)
      ∙ any_ext _ _ (monitored_values f) (λ k. fired_over (exceeded_of f k h) (exceeded_of f k (sampled ps ∷ h)))

  tries_h_lem : reconnect_tried (map (watched_of f h ps) (monitored_values f)) ≡ tried_h f h ps
  tries_h_lem =
      ap₂ (λ (a b : Bool). a && not b)
      (any_map (λ w. w.fired && not w.limiter.exceeded) (watched_of f h ps) (monitored_values f)
      ∙ any_ext _ _ (monitored_values f) (λ k. fired_under (exceeded_of f k h) (exceeded_of f k (sampled ps ∷ h))))
      (any_map (λ w. w.limiter.exceeded) (watched_of f h ps) (monitored_values f))

  fires_lines : (s : Values) → gathered (fired_lines s) (map (watched_of f h ps) (monitored_values f)) ≡ owed_firings f h ps s.clock
  fires_lines s =
      gathered_map (fired_lines s) (watched_of f h ps) (monitored_values f)
      ∙ gathered_ext _ _ (monitored_values f) (λ k. firing_line s.clock (exceeded_of f k h) (exceeded_of f k (sampled ps ∷ h)))

after_sample_lem : (s : Values) (zs : List Line) (ws : List Watched) (g h : Bool) (xs : List Line) (to : ℕ) → disconnect_tried ws ≡ g → reconnect_tried ws ≡ h
    → gathered (fired_lines s) ws ≡ xs
    → (g ≡ true → or_stay (decided s request.LocalDisconnect) ≡ change s.control.state to (local_code to) (local_letter to))
    → (g ≡ false → h ≡ true → or_stay (decided s request.LocalReconnect) ≡ change s.control.state to (local_code to) (local_letter to))
    → (g ≡ false → h ≡ false → to ≡ s.control.state)
    → after_sample s zs ws
    ≡ lettered (cond (not (eqb s.control.state to)) (local_letter to) None)
    (owing (with_control s (switched_to s.control to)) 3
    ((zs ++ xs) ++ when (not (eqb s.control.state to)) (line_now s (local_code to) ∷ [])))
after_sample_lem s zs ws true h xs to p q r over under stays =
    rw (p, r) (moving_switched s (zs ++ xs) (decided s request.LocalDisconnect) to (local_code to) (local_letter to) (over refl))
after_sample_lem s zs ws false true xs to p q r over under stays =
    rw (p, q, r) (moving_switched s (zs ++ xs) (decided s request.LocalReconnect) to (local_code to) (local_letter to) (under refl refl))
after_sample_lem s zs ws false false xs to p q r over under stays =
    rw (p, q, r)
    (moving_switched s (zs ++ xs) Stay to (local_code to) (local_letter to) (unchanged s.control.state to (local_code to) (local_letter to) (stays refl refl)))
  where
    unchanged : (from to code : ℕ) (x : Letter) → to ≡ from → Stay ≡ change from to code x
    unchanged from to code x e = rw (e, eq-eqb from from refl)

-- the values after a sample, with the clock's next value as the machine has it
abbrev pub sampled_values : AnyFresh → History → List ℤ → ℕ → Values
sampled_values f h ps n =
    with_control
    (with_emergency (with_limiters (with_clock (held_values f h (held n)) (now_of f h)) (held_limiters f (sampled ps ∷ h))) (held_emergency f (sampled ps ∷ h)))
    (held_control f (sampled ps ∷ h) (held (next_openings f (sampled ps) h n)))

-- the lines of a sample; `now` is the clock after it
abbrev pub sample_lines : AnyFresh → History → List ℤ → ℕ → List Line
sample_lines f h ps now =
    owed_change f now (λ k. threshold_in_force f k h) (λ k. threshold_at f k ps h)
    ++ (owed_firings f h ps now
    ++ (when (moves f (sampled ps) h) (line now (local_code (switch_of f (sampled ps ∷ h))) ∷ [])
    ++ owed_change f now (λ k. threshold_at f k ps h) (λ k. threshold_in_force f k (sampled ps ∷ h))))

bracketed : (a b c d : List Line) → ((a ++ b) ++ c) ++ d ≡ a ++ (b ++ (c ++ d))
bracketed a b c d = append_assoc (a ++ b) c d ∙ append_assoc a b (c ++ d)

-- a sample, by what the limiter makes of it, its limiters and its profile after it
abbrev sample_by : Values → ℕ → Emergency → List Watched → List Limiter → Emergency → Change
sample_by v now during ws ls after =
    let next = with_emergency (with_limiters (with_clock v now) ls) after in
    followed (after_sample next (change_lines next (map (same_threshold v.emergency during) v.limiters)) ws)
    (change_lines next (map (same_threshold during (ended during)) v.limiters))

pub sampled_result : (f : AnyFresh) (h : History) (ps : List ℤ) (n : ℕ) → AnySettings f → AllProper f h
    → effect_result (held_values f h (held n)) (sampled ps)
    ≡ lettered (letter_of f (sampled ps) h) (owing (sampled_values f h ps n) 3 (sample_lines f h ps (now_of f h)))
unfolding last sample_result
sampled_result f h ps n s a =
    let now = now_of f h in
    let v = held_values f h (held n) in
    let during = during_of f h in
    let ws = map (watched_of f h ps) (monitored_values f) in
    let next = with_emergency (with_limiters (with_clock v now) (held_limiters f (sampled ps ∷ h))) (held_emergency f (sampled ps ∷ h)) in
    let to = switch_of f (sampled ps ∷ h) in
    let zs = owed_change f now (λ k. threshold_in_force f k h) (λ k. threshold_at f k ps h) in
    let ys = owed_change f now (λ k. threshold_at f k ps h) (λ k. threshold_in_force f k (sampled ps ∷ h)) in
    ap (λ (ws : List Watched). sample_by v now during ws (map (λ w. w.limiter) ws) (ended during)) (sampled_watched f h ps s a)
    ∙ ap₂ (λ (ls : List Limiter) (x : Emergency). sample_by v now during ws ls x)
    (map_map (λ w. w.limiter) (watched_of f h ps) (monitored_values f)) (profile_sampled f h ps a)
    ∙ ap₂ (λ (zs ys : List Line). followed (after_sample next zs ws) ys)
    (changed_lines f h (held_emergency f h) during (λ k. threshold_in_force f k h) (λ k. threshold_at f k ps h)
    (in_force_before f h) (in_force_at f h ps a) next)
    (changed_lines f h during (ended during) (λ k. threshold_at f k ps h) (λ k. threshold_in_force f k (sampled ps ∷ h))
    (in_force_at f h ps a) (in_force_after f h ps a) next)
    ∙ ap (λ (r : Change). followed r ys)
    (after_sample_lem next zs ws (tried_g f h ps) (tried_h f h ps) (owed_firings f h ps now) to
    (tries_g_lem f h ps) (tries_h_lem f h ps) (fires_lines f h ps next)
    (over_switches f h ps s a) (under_switches f h ps s a) (sample_switches f h ps))
    ∙ ap₂ (λ (c : Control) (xs : List Line). lettered (letter_of f (sampled ps) h) (owing (with_control next c) 3 xs))
    (switched_control (mode_of f h) (switch_of f h) to n)
    (bracketed zs (owed_firings f h ps now) (when (moves f (sampled ps) h) (line now (local_code to) ∷ [])) ys)

-- ---- control and limiter after any accepted call
-- where the switch stays, so do the openings
unmoved : (f : AnyFresh) (h : History) (n : ℕ) → held_control f h (held n) ≡ held_control f h (held (cond (opens (switch_of f h) (switch_of f h)) (suc n) n))
unmoved f h n = rw (and-not_self (eqb (switch_of f h) 1))

pub control_kept : (f : AnyFresh) (h : History) (e : Effect) (n : ℕ) → AnySettings f → AllProper f h → Proper (mode_of f h) e
    → (effect_result (held_values f h (held n)) e).values.control ≡ held_control f (e ∷ h) (held (next_openings f e h n))
unfolding last spell switch_of last_decided
control_kept f h (sampled ps) n s a k = ap (λ (r : Change). r.values.control) (sampled_result f h ps n s a)
control_kept f h (requested q) n s a k = ap (λ (r : Change). r.values.control) (requested_result f h q n k)
control_kept f h (mode_set m) n s a k = ap (λ (r : Change). r.values.control) (mode_result_lem f h m n)
control_kept f h (limits_set ts o u) n s a k = unmoved f h n
control_kept f h (clock_set m) n s a k = unmoved f h n
control_kept f h (occurred r) n s a k = unmoved f h n
control_kept f h (filter_set alarms m) n s a k = unmoved f h n
control_kept f h (filter_set errors m) n s a k = unmoved f h n
control_kept f h (bits_cleared alarms m) n s a k = unmoved f h n
control_kept f h (bits_cleared errors m) n s a k = unmoved f h n
control_kept f h (log_cleared m) n s a k = unmoved f h n
control_kept f h (groups_set g) n s a k = unmoved f h n
control_kept f h (profile_set w) n s a k = unmoved f h n

pub limiters_after_lem : (f : AnyFresh) (h : History) (e : Effect) (n : ℕ) → AnySettings f → AllProper f h → Proper (mode_of f h) e
    → (effect_result (held_values f h (held n)) e).values.limiters ≡ held_limiters f (e ∷ h)
unfolding last observations
limiters_after_lem f h (sampled ps) n s a k = ap (λ (r : Change). r.values.limiters) (sampled_result f h ps n s a)
limiters_after_lem f h (requested q) n s a k = ap (λ (r : Change). r.values.limiters) (requested_result f h q n k)
limiters_after_lem f h (mode_set m) n s a k = ap (λ (r : Change). r.values.limiters) (mode_result_lem f h m n)
limiters_after_lem f h (limits_set ts o u) n s a k = limiters_limited f h ts o u
limiters_after_lem f h (clock_set m) n s a k = refl
limiters_after_lem f h (occurred r) n s a k = refl
limiters_after_lem f h (filter_set alarms m) n s a k = refl
limiters_after_lem f h (filter_set errors m) n s a k = refl
limiters_after_lem f h (bits_cleared alarms m) n s a k = refl
limiters_after_lem f h (bits_cleared errors m) n s a k = refl
limiters_after_lem f h (log_cleared m) n s a k = refl
limiters_after_lem f h (groups_set g) n s a k = refl
limiters_after_lem f h (profile_set w) n s a k = limiters_replaced f h w

-- where the switch stays there is no letter
no_letter : (s : ℕ) → None ≡ cond (not (eqb s s)) None None
no_letter s = rw (eq-eqb s s refl)

-- the letter of any accepted call
pub letter_after_lem : (f : AnyFresh) (h : History) (e : Effect) (n : ℕ) → AnySettings f → AllProper f h → Proper (mode_of f h) e
    → (effect_result (held_values f h (held n)) e).letter ≡ letter_of f e h
unfolding last spell switch_of last_decided
letter_after_lem f h (sampled ps) n s a k = ap (λ (r : Change). r.letter) (sampled_result f h ps n s a)
letter_after_lem f h (requested q) n s a k = ap (λ (r : Change). r.letter) (requested_result f h q n k)
letter_after_lem f h (mode_set m) n s a k = ap (λ (r : Change). r.letter) (mode_result_lem f h m n)
letter_after_lem f h (limits_set ts o u) n s a k = no_letter (switch_of f h)
letter_after_lem f h (clock_set m) n s a k = no_letter (switch_of f h)
letter_after_lem f h (occurred r) n s a k = no_letter (switch_of f h)
letter_after_lem f h (filter_set alarms m) n s a k = no_letter (switch_of f h)
letter_after_lem f h (filter_set errors m) n s a k = no_letter (switch_of f h)
letter_after_lem f h (bits_cleared alarms m) n s a k = no_letter (switch_of f h)
letter_after_lem f h (bits_cleared errors m) n s a k = no_letter (switch_of f h)
letter_after_lem f h (log_cleared m) n s a k = no_letter (switch_of f h)
letter_after_lem f h (groups_set g) n s a k = no_letter (switch_of f h)
letter_after_lem f h (profile_set w) n s a k = no_letter (switch_of f h)
