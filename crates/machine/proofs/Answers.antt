-- A call's answer: the machine refuses with the number that the history's refusal rule gives, and carries out what it accepts. A refused call
-- leaves the record; what an accepted one asks for is proper.
use mathlib.Core.Path.{◌≡◌, refl, ap, ◌∙◌}
use mathlib.Core.Bool.{Bool, true, false, ◌&&◌, ◌||◌, cond, or-false}
use mathlib.Core.List.{List, [], ◌∷◌}
use mathlib.Core.Option.{Option, none, some}
use Prim.Native.Nat.{ℕ, zero, suc}
use lib.Dec.{eqb, leb}
use lib.IntN.{ℤ, pos}
use lib.ListN.{take}
use lib.Signed.{le_z}
use Rattle.base.specs.Tests.{within, among, every}
use Rattle.base.proofs.Bools.{and_left, and_right}
use Rattle.base.proofs.Every.{among_passes}
use Rattle.events.specs.Line.{is_log}
use Rattle.events.specs.Table.{EventRow, lookup, lawful}
use Rattle.events.proofs.Rule.{row_passes}
use Rattle.calls.specs.declared.Letter.{Letter}
use Rattle.control.specs.declared.Request.{Request as ControlRequest}
use Rattle.control.specs.declared.Decision.{Decision}
use Rattle.control.specs.declared.Decision.TheVariants.{Move, Stay, NotListed}
use Rattle.control.specs.Table.{SwitchRow, switch_table}
use Rattle.control.specs.Control.{lists, or_stay, decision}
use Rattle.calls.specs.declared.Answer.{Answer}
use Rattle.emergency.specs.Emergency.{groups_in}
use Rattle.history.specs.Effects.{RequestCall, remote_disconnect, remote_reconnect, manual_disconnect, manual_reconnect, AnyCall, sample}
use Rattle.history.specs.Effects.{request as request_call, set_mode, set_limiter, set_clock, event, set_filter, clear_bits, clear_log, script, set_groups}
use Rattle.history.specs.Effects.{set_profile, Effect, requested}
use Rattle.history.specs.Effects.{listed_modes, Reading, refused, accepted, read_request, read_limits, read_event, reading}
use Rattle.machine.specs.Values.{Values}
use Rattle.machine.specs.Machine.{making, answered_with, moving, decided, answering, armed_values, request_result, mode_result}
use Rattle.machine.specs.Machine.{limiter_result, occurring, event_result, clear_log_result, script_result, groups_result, profile_result, request_of, result}
use Rattle.machine.specs.Machine.{Change}
use Rattle.machine.specs.Settings.{limits_answer}
use Rattle.machine.specs.Ranges.{is_id, AnyInRange}
use Rattle.machine.proofs.Effects.{read_result, Proper}

-- a result that a test decides
pub either : {A : Type 0} (P : A → Type 0) (b : Bool) {x y : A} → (b ≡ true → P x) → (b ≡ false → P y) → P (cond b x y)
either P true p q = p refl
either P false p q = q refl

-- ---- the mode rule: a request is refused exactly where no row of the switch table lists it in the mode
abbrev listed : Decision → Bool
listed (Move t c o x) = true
listed Stay = true
listed NotListed = false

abbrev listed_by : List SwitchRow → ControlRequest → ℕ → Bool
listed_by [] q m = false
listed_by (r ∷ rs) q m = lists q m r || listed_by rs q m

-- a row that lists request and mode gives a move or a stay
row_listed : (l b : Bool) (t c : ℕ) (o : Bool) (x : Letter) (d : Decision) → listed (cond l (cond b (Move t c o x) (or_stay d)) d) ≡ (l || listed d)
row_listed false b t c o x d = refl
row_listed true true t c o x d = refl
row_listed true false t c o x (Move t' c' o' x') = refl
row_listed true false t c o x Stay = refl
row_listed true false t c o x NotListed = refl

rows_listed : (rows : List SwitchRow) (q : ControlRequest) (m s : ℕ) → listed (decision rows q m s) ≡ listed_by rows q m
unfolding decision
rows_listed [] q m s = refl
rows_listed (r ∷ rs) q m s =
    row_listed (lists q m r) (eqb s r.from) r.to r.code (eqb s 1) r.letter (decision rs q m s)
    ∙ ap (λ b. lists q m r || b) (rows_listed rs q m s)

-- rows b and c list the same modes, and so do the two rows a
same_modes : (a b : Bool) → (a || (a || b)) ≡ (a || b)
same_modes true b = refl
same_modes false b = refl

-- rows a and d list the modes 1 to 6 between them; the Bools: the mode is 1, .., 6
shared : (a b c d e f : Bool) → ((b || (d || false)) || ((a || (c || (e || (f || false)))) || false)) ≡ (a || (b || (c || (d || (e || (f || false))))))
shared true true c d e f = refl
shared true false c true e f = refl
shared true false c false e f = refl
shared false true c d e f = refl
shared false false true true e f = refl
shared false false true false e f = refl
shared false false false true e f = refl
shared false false false false true f = refl
shared false false false false false true = refl
shared false false false false false false = refl

table_lists : (q : RequestCall) (m : ℕ) → listed_by switch_table (request_of q) m ≡ among (listed_modes q) m
unfolding switch_table among
table_lists remote_disconnect m = let x = among (listed_modes remote_disconnect) m in same_modes x false ∙ or-false x
table_lists remote_reconnect m =
    same_modes (among (2 ∷ 4 ∷ []) m) (among (1 ∷ 3 ∷ 5 ∷ 6 ∷ []) m || false) ∙ shared (eqb m 1) (eqb m 2) (eqb m 3) (eqb m 4) (eqb m 5) (eqb m 6)
table_lists manual_disconnect m = or-false (among (listed_modes manual_disconnect) m)
table_lists manual_reconnect m = or-false (among (listed_modes manual_reconnect) m)

module _ (s : Values) where
  request_read : (q : RequestCall) → request_result s (request_of q) ≡ read_result s (read_request s.control.mode q)
  unfolding request_result
  request_read q =
      go (decided s (request_of q)) (among (listed_modes q) s.control.mode) refl
      (rows_listed switch_table (request_of q) s.control.mode _ ∙ table_lists q s.control.mode)
    where
      go : (d : Decision) (b : Bool) → d ≡ decided s (request_of q) → listed d ≡ b
          → answering (armed_values s (request_of q)) d ≡ read_result s (cond b (accepted (requested q)) (refused 2))
      go (Move t c o l) true e h = ap (λ (x : Decision). making (moving (armed_values s (request_of q)) [] x)) e
      go Stay true e h = ap (λ (x : Decision). making (moving (armed_values s (request_of q)) [] x)) e
      go NotListed false e h = refl
      go (Move t c o l) false e h = cc
      go Stay false e h = cc
      go NotListed true e h = cc

  -- a reading that a test decides
  read_cond : (b : Bool) (x y : Reading) → read_result s (cond b x y) ≡ cond b (read_result s x) (read_result s y)
  read_cond true x y = refl
  read_cond false x y = refl

  event_read : (o : Option EventRow) → occurring s o ≡ read_result s (read_event o)
  event_read none = refl
  event_read (some r) = refl

-- an answer that a test decides
answered_cond : (b : Bool) (x y : Answer) (k : Change) → answered_with (cond b x y) k ≡ cond b (answered_with x k) (answered_with y k)
answered_cond true x y k = refl
answered_cond false x y k = refl

-- a call does what its reading says: for any values, sound or not
pub by_reading : (rows : List EventRow) (s : Values) (c : AnyCall) → result rows s c
    ≡ read_result s (reading rows s.control.mode (groups_in s.emergency) c)
unfolding reading groups_result profile_result mode_result limits_answer limiter_result event_result clear_log_result script_result
by_reading rows s (sample ps) = refl
by_reading rows s (request_call q) = request_read s q
by_reading rows s (set_mode n) = simp (read_cond s)
by_reading rows s (set_limiter ts o u) = simp (answered_cond, read_cond s)
by_reading rows s (set_clock n) = refl
by_reading rows s (event c) = event_read s (lookup rows c)
by_reading rows s (set_filter x n) = refl
by_reading rows s (clear_bits x n) = refl
by_reading rows s (clear_log n) = simp (read_cond s)
by_reading rows s (script n) = simp (request_read s remote_disconnect, request_read s remote_reconnect, read_cond s)
by_reading rows s (set_groups n ids) = simp (read_cond s)
by_reading rows s (set_profile w) = simp (read_cond s)

-- ---- what an accepted call asks for is proper
abbrev ProperReading : ℕ → Reading → Type 0
ProperReading m (refused n) = Unit
ProperReading m (accepted e) = Proper m e

-- as many of a list as one likes
every_take : (n : ℕ) (xs : List ℕ) → every is_id xs ≡ true → every is_id (take n xs) ≡ true
unfolding every
every_take zero xs h = refl
every_take (suc n) [] h = refl
every_take (suc n) (x ∷ xs) h = rw (and_left (is_id x) (every is_id xs) h) (every_take n xs (and_right (is_id x) (every is_id xs) h))

module _ (rows : List EventRow) (all : every lawful rows ≡ true) (m : ℕ) (gs : List ℕ) (small : every is_id gs ≡ true) where
  request_proper : (q : RequestCall) → ProperReading m (read_request m q)
  request_proper q = either (ProperReading m) (among (listed_modes q) m) (λ e. e) (λ e. tt)

  limits_proper : (t : List ℤ) (o u : ℕ) → ProperReading m (read_limits t o u)
  limits_proper t o u =
      either (ProperReading m) (every (le_z (pos 0)) t)
      (λ e. either (ProperReading m) (within 1 86400 o && within 1 86400 u)
      (λ f. (e, (and_left (within 1 86400 o) (within 1 86400 u) f, and_right (within 1 86400 o) (within 1 86400 u) f)))
      (λ f. tt))
      (λ e. tt)

  event_proper : (c : ℕ) (o : Option EventRow) → lookup rows c ≡ o → ProperReading m (read_event o)
  event_proper c none e = tt
  event_proper c (some r) e = row_passes lawful rows c r e all

  reading_proper : (c : AnyCall) → AnyInRange c → ProperReading m (reading rows m gs c)
  unfolding reading
  reading_proper (sample ps) h = tt
  reading_proper (request_call q) h = request_proper q
  reading_proper (set_mode n) h = either (ProperReading m) (leb n 6) (λ e. e) (λ e. tt)
  reading_proper (set_limiter ts o u) h = limits_proper ts o u
  reading_proper (set_clock n) h = h
  reading_proper (event c) h = event_proper c (lookup rows c) refl
  reading_proper (set_filter x n) h = h
  reading_proper (clear_bits x n) h = h
  reading_proper (clear_log n) h = either (ProperReading m) (is_log n) (λ e. e) (λ e. tt)
  reading_proper (script n) h =
      either (ProperReading m) (eqb n 1) (λ e. request_proper remote_disconnect)
      (λ e. either (ProperReading m) (eqb n 2) (λ f. request_proper remote_reconnect) (λ f. tt))
  reading_proper (set_groups n ids) h = either (ProperReading m) (leb n 8) (λ e. every_take n ids h) (λ e. tt)
  reading_proper (set_profile w) h =
      either (ProperReading m) (among gs w.id)
      (λ e. either (ProperReading m) (within 1 604800 w.duration && le_z (pos 0) w.threshold)
      (λ d. (and_left (within 1 604800 w.duration) (le_z (pos 0) w.threshold) d, (among_passes is_id gs w.id small e, h.1)))
      (λ d. tt))
      (λ e. tt)

  pub proper : (c : AnyCall) (e : Effect) → AnyInRange c → reading rows m gs c ≡ accepted e → Proper m e
  proper c e h q = rw q at (reading_proper c h)
