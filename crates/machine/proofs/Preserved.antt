-- Every call keeps sound values sound, and those of a fresh meter are sound.
use mathlib.Core.Path.{◌≡◌, refl}
use mathlib.Core.Bool.{Bool, true, false, ◌&&◌, not, cond, or-true}
use mathlib.Core.List.{List, [], ◌∷◌, ◌++◌, map}
use mathlib.Core.Option.{Option, none, some}
use Prim.Native.Nat.{ℕ, suc, ◌+◌}
use native.Mathlib.Omega.{arith}
use lib.Dec.{eqb, leb}
use lib.IntN.{ℤ, pos}
use lib.ListN.{take, length-take}
use lib.Signed.{le_z}
use borrow.Author.Tests.{leb-true}
use Rattle.base.specs.Bits.{bit, how_many}
use Rattle.base.specs.Numbers.{held}
use Rattle.base.specs.Tests.{within, among, every, any, below, gathered, each_from}
use Rattle.base.proofs.Bools.{and_left, and_right}
use Rattle.base.proofs.Every.{every_append, among_passes}
use Rattle.events.specs.Line.{Line, line, is_log}
use Rattle.events.specs.Table.{EventRow, lookup, mask, lawful}
use Rattle.events.specs.Codes.{besides, may_hold}
use Rattle.events.proofs.Rule.{row_held, row_log}
use Rattle.calls.specs.declared.Letter.TheVariants.{None}
use Rattle.registers.specs.declared.Alarms.{Alarms}
use Rattle.registers.specs.Register.{raised, cleared}
use Rattle.registers.specs.Alarms.{alarms_raised, alarms_cleared, alarms_filtered, sound_alarms}
use Rattle.registers.proofs.Counts.{counted_sound, filtered_sound}
use Rattle.control.specs.declared.Control.{Control}
use Rattle.control.specs.declared.Request.{Request}
use Rattle.control.specs.declared.Request.TheVariants as request
use Rattle.control.specs.declared.Decision.{Decision}
use Rattle.control.specs.declared.Decision.TheVariants.{Move, Stay, NotListed}
use Rattle.control.specs.Control.{mode_decision, in_mode, sound_control}
use Rattle.control.proofs.Moves.{move_codes, table_move, moved_sound, mode_moved_sound, mode_stays_sound}
use Rattle.limiter.specs.declared.Limiter.{Limiter}
use Rattle.limiter.specs.declared.Watched.{Watched}
use Rattle.limiter.specs.Limiter.{is_over, is_threshold, is_duration, with_settings, armed, sound_limiter}
use Rattle.emergency.specs.declared.Emergency.{Emergency}
use Rattle.emergency.specs.Emergency.{groups_in, with_groups, with_profile, started, ended, in_force, sound_emergency}
use Rattle.limiter.proofs.Watching.{laws as limiter_laws, settings_sound, restarted_sound, armed_sound}
use Rattle.emergency.proofs.Kept.{started_sound, ended_sound, waiting_sound, groups_sound}
use Rattle.logs.specs.Lists.{emptied, own_lines, sound_lists}
use Rattle.logs.proofs.Kept.{appended_sound, emptied_sound}
use Rattle.calls.specs.declared.Answer.{Answer}
use Rattle.history.specs.Effects.{AnyFresh, alarms, errors, AnyCall, sample, request as request_call, set_mode, set_limiter, set_clock, event, set_filter}
use Rattle.history.specs.Effects.{clear_bits, clear_log, script, Profile, set_groups, set_profile}
use Rattle.history.specs.Last.{number_at}
use Rattle.machine.specs.Values.{Values, State, with_control, with_limiters, with_clock, with_alarms, with_emergency}
use Rattle.machine.specs.Settings.{limits_answer}
use Rattle.machine.specs.Sound.{sound_values, sound_state}
use Rattle.machine.specs.Machine.{Change, Result, refusing, making, owing, answered_with, line_now, moving, decided, request_of}
use Rattle.machine.specs.Machine.{answering, armed_values, request_result, sampled_each, fired_lines, disconnect_tried, reconnect_tried, after_sample}
use Rattle.machine.specs.Machine.{sample_result, mode_result, settings_each, limiter_result, occurring, event_result, clear_log_result, script_result}
use Rattle.machine.specs.Machine.{groups_result}
use Rattle.machine.specs.Machine.{same_threshold, restarted_by, change_lines, sampled_value, followed, profile_result, result}
use Rattle.machine.specs.Fresh.{fresh_limiter, fresh_values}
use Rattle.machine.specs.Ranges.{AnySettings, AnyInRange}
use Rattle.machine.proofs.Lists.{every_number}
use Rattle.machine.proofs.Effects.{armed_or_not}
use Rattle.machine.specs.Laws.{after_result}
use Rattle.machine.proofs.Answers.{either}

module _ (rows : List EventRow) where
  -- whatever the event table, a log may hold the codes that document 01 lists besides
  besides_held : (n c : ℕ) → is_log n ≡ true → among (besides n) c ≡ true → may_hold rows n c ≡ true
  unfolding may_hold
  besides_held n c l e = rw (l, e, or-true)

  -- one line of a code that its log may hold
  one_own : (n t c : ℕ) → may_hold rows n c ≡ true → own_lines rows n (line t c ∷ []) ≡ true
  unfolding every
  one_own n t c e = rw e

  move_own : (t c : ℕ) → among move_codes c ≡ true → own_lines rows 3 (line t c ∷ []) ≡ true
  unfolding every besides among
  move_own t c e = one_own 3 t c (besides_held 3 c refl (among_passes (among (besides 3)) move_codes c refl e))

  -- one line of such a code
  further_own : (n t c : ℕ) → is_log n ≡ true → among (besides n) c ≡ true → own_lines rows n (line t c ∷ []) ≡ true
  further_own n t c l e = one_own n t c (besides_held n c l e)

-- each log may hold the line of its clear
clear_listed : (n : ℕ) → among (besides n) 255 ≡ true
unfolding besides among
clear_listed n = go (eqb n 1) (eqb n 3)
  where
    go : (a b : Bool)
        → among (cond a (4 ∷ 5 ∷ 10 ∷ 11 ∷ 255 ∷ []) (cond b (59 ∷ 60 ∷ 61 ∷ 62 ∷ 63 ∷ 64 ∷ 65 ∷ 66 ∷ 67 ∷ 69 ∷ 255 ∷ []) (255 ∷ []))) 255
        ≡ true
    go true b = refl
    go false true = refl
    go false false = refl

-- ---- the limiters
-- what keeps each entry sound keeps the list sound
every_map : {A B : Type 0} (p : A → Bool) (g : A → B) (q : B → Bool) (xs : List A) → ((x : A) → p x ≡ true → q (g x) ≡ true)
    → every p xs ≡ true
    → every q (map g xs) ≡ true
unfolding every
every_map p g q [] k h = refl
every_map p g q (x ∷ xs) k h = rw (k x (and_left (p x) (every p xs) h)) (every_map p g q xs k (and_right (p x) (every p xs) h))

restarted_by_sound : (x : Bool) (l : Limiter) → sound_limiter l ≡ true → sound_limiter (restarted_by x l) ≡ true
restarted_by_sound true l h = h
restarted_by_sound false l h = restarted_sound l h

value_sound : (a b c : Emergency) (l : Limiter) (p : ℤ) → sound_limiter l ≡ true → sound_limiter (sampled_value a b c l p).limiter ≡ true
value_sound a b c l p h =
    restarted_by_sound (same_threshold b c l) _
    ((limiter_laws (restarted_by (same_threshold a b l) l) (is_over (in_force b l.threshold) p)).sound (restarted_by_sound (same_threshold a b l) l h))

sampled_sound : (a b c : Emergency) (n : ℕ) (ls : List Limiter) (ps : List ℤ) → every sound_limiter ls ≡ true
    → every sound_limiter (map (λ w. w.limiter) (each_from n (λ k l. sampled_value a b c l (number_at ps k)) ls)) ≡ true
unfolding every each_from
sampled_sound a b c n [] ps h = refl
sampled_sound a b c n (l ∷ ls) ps h =
    rw (value_sound a b c l (number_at ps n) (and_left (sound_limiter l) (every sound_limiter ls) h))
    (sampled_sound a b c (suc n) ls ps (and_right (sound_limiter l) (every sound_limiter ls) h))

set_sound : (n : ℕ) (ls : List Limiter) (ts : List ℤ) (o u : ℕ) → ((k : ℕ) → is_threshold (number_at ts k) ≡ true) → is_duration o ≡ true
    → is_duration u ≡ true → every sound_limiter (each_from n (λ k l. with_settings l (number_at ts k) o u) ls) ≡ true
unfolding every each_from
set_sound n [] ts o u t a b = refl
set_sound n (l ∷ ls) ts o u t a b = rw (settings_sound l (number_at ts n) o u (t n) a b) (set_sound (suc n) ls ts o u t a b)

fresh_limiters : (f : AnyFresh) (ts : List ℤ) → every is_threshold ts ≡ true → is_duration f.over ≡ true → is_duration f.under ≡ true
    → every sound_limiter (map (fresh_limiter f) ts) ≡ true
fresh_limiters f ts h a b = every_map is_threshold (fresh_limiter f) sound_limiter ts (λ t e. settings_sound (fresh_limiter f t) t f.over f.under e a b) h

-- ---- the values: mode and switch, limiters, the alarm count, and profile and groups
values_of : (c : Control) (l : List Limiter) (a : Alarms) (e : Emergency) → sound_control c ≡ true → every sound_limiter l ≡ true
    → sound_alarms a ≡ true → sound_emergency e ≡ true → (sound_control c && (every sound_limiter l && (sound_alarms a && sound_emergency e))) ≡ true
values_of c l a e h k n m = rw (h, k, n, m)

module _ (s : Values) (h : sound_values s ≡ true) where
  abbrev sound_tail : Bool
  sound_tail = sound_alarms s.alarms && sound_emergency s.emergency

  pub control_sound : sound_control s.control ≡ true
  unfolding sound_values
  control_sound = and_left (sound_control s.control) (every sound_limiter s.limiters && sound_tail) h

  rest_sound : every sound_limiter s.limiters && sound_tail ≡ true
  unfolding sound_values
  rest_sound = and_right (sound_control s.control) (every sound_limiter s.limiters && sound_tail) h

  pub limiters_sound : every sound_limiter s.limiters ≡ true
  limiters_sound = and_left (every sound_limiter s.limiters) sound_tail rest_sound

  tail_sound : sound_tail ≡ true
  tail_sound = and_right (every sound_limiter s.limiters) sound_tail rest_sound

  pub alarms_sound : sound_alarms s.alarms ≡ true
  alarms_sound = and_left (sound_alarms s.alarms) (sound_emergency s.emergency) tail_sound

  pub emergency_sound : sound_emergency s.emergency ≡ true
  emergency_sound = and_right (sound_alarms s.alarms) (sound_emergency s.emergency) tail_sound

  -- with another alarm register, which is sound
  with_alarms_lem : (a : Alarms) → sound_alarms a ≡ true → sound_values (with_alarms s a) ≡ true
  unfolding sound_values
  with_alarms_lem a k = values_of s.control s.limiters a s.emergency control_sound limiters_sound k emergency_sound

-- with the limiters that a request leaves
armed_values_lem : (s : Values) (q : Request) → sound_values s ≡ true → sound_values (armed_values s q) ≡ true
unfolding sound_values
armed_values_lem s q h =
    let sound = limiters_sound s h in
    values_of s.control (armed_values s q).limiters s.alarms s.emergency (control_sound s h)
    (armed_or_not (λ ls. every sound_limiter ls ≡ true) q (decided s q) s.limiters sound
    (every_map sound_limiter armed sound_limiter s.limiters armed_sound sound))
    (alarms_sound s h) (emergency_sound s h)

-- the values that a call leaves are sound, and its lines may stand in their log
pub record SoundChange (rows : List EventRow) (k : Change) : Type 0 where
  pub values : sound_values k.values ≡ true
  pub lines : own_lines rows k.log k.lines ≡ true

abbrev SoundResult : List EventRow → Result → Type 0
SoundResult rows (refusing n) = Unit
SoundResult rows (making k) = SoundChange rows k

module _ (rows : List EventRow) where
  -- a move of the switch table, behind lines that log 3 may hold
  moving_sound : (s : Values) (xs : List Line) (q : Request) → sound_values s ≡ true → own_lines rows 3 xs ≡ true
      → SoundChange rows (moving s xs (decided s q))
  unfolding sound_values
  moving_sound s xs q h o = go (decided s q) refl
    where
      go : (d : Decision) → decided s q ≡ d → SoundChange rows (moving s xs d)
      go (Move t c b l) e =
          record {
            values =
                values_of _ s.limiters s.alarms s.emergency (moved_sound _ q _ c b l e)
                (limiters_sound s h) (alarms_sound s h) (emergency_sound s h);
            lines =
                every_append (λ x. may_hold rows 3 x.code) xs (line_now s c ∷ []) o
                (move_own rows s.clock c (table_move q _ _ t c b l e).code);
          }
      go Stay e = record { values = h; lines = o }
      go NotListed e = record { values = h; lines = o }

  request_sound : (s : Values) (q : Request) → sound_values s ≡ true → SoundResult rows (request_result s q)
  unfolding request_result every
  request_sound s q h = go (decided s q) (moving_sound (armed_values s q) [] q (armed_values_lem s q h) refl)
    where
      go : (d : Decision) → SoundChange rows (moving (armed_values s q) [] d) → SoundResult rows (answering (armed_values s q) d)
      go (Move t c b l) k = k
      go Stay k = k
      go NotListed k = tt

  -- lines 65 and 66
  firing_own : (s : Values) (ws : List Watched) → own_lines rows 3 (gathered (fired_lines s) ws) ≡ true
  unfolding besides among every gathered
  firing_own s [] = refl
  firing_own s (w ∷ ws) =
      every_append (λ x. may_hold rows 3 x.code) (fired_lines s w) (gathered (fired_lines s) ws)
      (one w.fired w.limiter.exceeded) (firing_own s ws)
    where
      one : (x y : Bool) → own_lines rows 3 (cond x (line_now s (cond y 65 66) ∷ []) []) ≡ true
      one true true = further_own rows 3 s.clock 65 refl refl
      one true false = further_own rows 3 s.clock 66 refl refl
      one false y = refl

  -- line 67
  change_own : (s : Values) (xs : List Bool) → own_lines rows 3 (change_lines s xs) ≡ true
  unfolding besides among every
  change_own s xs = go (any not xs)
    where
      go : (x : Bool) → own_lines rows 3 (cond x (line_now s 67 ∷ []) []) ≡ true
      go true = further_own rows 3 s.clock 67 refl refl
      go false = refl

  both_own : (xs ys : List Line) → own_lines rows 3 xs ≡ true → own_lines rows 3 ys ≡ true → own_lines rows 3 (xs ++ ys) ≡ true
  both_own xs ys a b = every_append (λ x. may_hold rows 3 x.code) xs ys a b

  -- further lines behind those of a move, which are log 3's
  followed_sound : (s : Values) (xs ys : List Line) (d : Decision) → own_lines rows 3 ys ≡ true → SoundChange rows (moving s xs d)
      → SoundChange rows (followed (moving s xs d) ys)
  followed_sound s xs ys (Move t c o l) q k = record { values = k.values; lines = both_own _ ys k.lines q }
  followed_sound s xs ys Stay q k = record { values = k.values; lines = both_own _ ys k.lines q }
  followed_sound s xs ys NotListed q k = record { values = k.values; lines = both_own _ ys k.lines q }

  -- behind them the local moves
  firing_sound : (s : Values) (zs ys : List Line) (ws : List Watched) → sound_values s ≡ true → own_lines rows 3 zs ≡ true → own_lines rows 3 ys ≡ true
      → SoundChange rows (followed (after_sample s zs ws) ys)
  firing_sound s zs ys ws h o q =
      let xs = zs ++ gathered (fired_lines s) ws in
      let own = both_own zs (gathered (fired_lines s) ws) o (firing_own s ws) in
      either (λ r. SoundChange rows (followed r ys)) (disconnect_tried ws)
      (λ f. followed_sound s xs ys (decided s request.LocalDisconnect) q (moving_sound s xs request.LocalDisconnect h own))
      (λ f. either (λ r. SoundChange rows (followed r ys)) (reconnect_tried ws)
      (λ x. followed_sound s xs ys (decided s request.LocalReconnect) q (moving_sound s xs request.LocalReconnect h own))
      (λ x. record { values = h; lines = both_own xs ys own q }))

  sample_sound : (s : Values) (ps : List ℤ) → sound_values s ≡ true → SoundChange rows (sample_result s ps)
  unfolding sample_result sound_values
  sample_sound s ps h =
      let now = held (s.clock + 1) in
      let during = started now s.emergency in
      let after = ended during in
      let ws = sampled_each s.emergency during after s.limiters ps in
      let next = with_emergency (with_limiters (with_clock s now) (map (λ w. w.limiter) ws)) after in
      firing_sound next _ _ ws
      (values_of s.control (map (λ w. w.limiter) ws) s.alarms after (control_sound s h)
      (sampled_sound s.emergency during after 0 s.limiters ps (limiters_sound s h))
      (alarms_sound s h) (ended_sound during (started_sound now s.emergency (emergency_sound s h))))
      (change_own next (map (same_threshold s.emergency during) s.limiters))
      (change_own next (map (same_threshold during after) s.limiters))

  groups_result_sound : (s : Values) (n : ℕ) (ids : List ℕ) → sound_values s ≡ true → SoundResult rows (groups_result s n ids)
  unfolding groups_result sound_values every
  groups_result_sound s n ids h =
      either (SoundResult rows) (leb n 8)
      (λ e. record {
        values =
            values_of s.control s.limiters s.alarms (with_groups s.emergency (take n ids)) (control_sound s h)
            (limiters_sound s h) (alarms_sound s h)
            (groups_sound s.emergency (take n ids) (omega (arith, length-take n ids, leb-true n 8 e)) (emergency_sound s h));
        lines = refl;
      })
      (λ e. tt)

  profile_result_sound : (s : Values) (w : Profile) → le_z w.threshold (pos 2147483647) ≡ true → sound_values s ≡ true
      → SoundResult rows (profile_result s w)
  unfolding profile_result sound_values
  profile_result_sound s w i h =
      let next = with_profile s.emergency w.id w.threshold w.activation w.duration in
      either (SoundResult rows) (among (groups_in s.emergency) w.id)
      (λ e. either (SoundResult rows) (within 1 604800 w.duration && le_z (pos 0) w.threshold)
      (λ d. record {
        values =
            values_of s.control (map (λ l. restarted_by (same_threshold s.emergency next l) l) s.limiters) s.alarms next (control_sound s h)
            (every_map sound_limiter (λ l. restarted_by (same_threshold s.emergency next l) l) sound_limiter s.limiters
            (λ l. restarted_by_sound (same_threshold s.emergency next l) l) (limiters_sound s h))
            (alarms_sound s h)
            (waiting_sound s.emergency w.id w.threshold w.activation w.duration
            (rw (and_left (within 1 604800 w.duration) (le_z (pos 0) w.threshold) d, and_right (within 1 604800 w.duration) (le_z (pos 0) w.threshold) d, i))
            (emergency_sound s h));
        lines = change_own s (map (same_threshold s.emergency next) s.limiters);
      })
      (λ d. tt))
      (λ e. tt)

  -- a mode change connects the switch with line 63, or leaves it
  mode_sound : (s : Values) (n : ℕ) → sound_values s ≡ true → SoundResult rows (mode_result s n)
  unfolding mode_result mode_decision sound_values besides among every
  mode_sound s n h =
      either (SoundResult rows) (leb n 6)
      (λ k. go k (eqb n 0 && not (eqb s.control.state 1)) refl)
      (λ k. tt)
    where
      go : leb n 6 ≡ true → (b : Bool) → mode_decision n s.control.state ≡ cond b (Move 1 63 false None) Stay
          → SoundChange rows (moving (with_control s (in_mode s.control n)) [] (cond b (Move 1 63 false None) Stay))
      go k true e =
          record {
            values =
                values_of _ s.limiters s.alarms s.emergency (mode_moved_sound _ s.control.state 63 false None k e)
                (limiters_sound s h) (alarms_sound s h) (emergency_sound s h);
            lines = further_own rows 3 s.clock 63 refl refl;
          }
      go k false e =
          record {
            values =
                values_of _ s.limiters s.alarms s.emergency (mode_stays_sound s.control n (control_sound s h) k e)
                (limiters_sound s h) (alarms_sound s h) (emergency_sound s h);
            lines = refl;
          }

  limits_sound : (s : Values) (ts : List ℤ) (o u : ℕ) → every (λ t. le_z t (pos 2147483647)) ts ≡ true → sound_values s ≡ true
      → SoundResult rows (limiter_result s ts o u)
  unfolding limits_answer limiter_result sound_values besides among every
  limits_sound s ts o u i h =
      either made (every (le_z (pos 0)) ts)
      (λ a. either made (is_duration o && is_duration u)
      (λ b. record {
        values =
            values_of s.control (settings_each s.limiters ts o u) s.alarms s.emergency (control_sound s h)
            (set_sound 0 s.limiters ts o u
            (λ k. rw (every_number (le_z (pos 0)) ts k refl a, every_number (λ t. le_z t (pos 2147483647)) ts k refl i))
            (and_left (is_duration o) (is_duration u) b) (and_right (is_duration o) (is_duration u) b))
            (alarms_sound s h) (emergency_sound s h);
        lines = further_own rows 3 s.clock 67 refl refl;
      })
      (λ b. tt))
      (λ a. tt)
    where
      made : Answer → Type 0
      made a = SoundResult rows (answered_with a (owing (with_limiters s (settings_each s.limiters ts o u)) 3 (line_now s 67 ∷ [])))

  event_sound : every lawful rows ≡ true → (s : Values) (c : ℕ) → sound_values s ≡ true → SoundResult rows (event_result rows s c)
  unfolding event_result sound_values
  event_sound all s c h = go (lookup rows c) refl
    where
      go : (o : Option EventRow) → lookup rows c ≡ o → SoundResult rows (occurring s o)
      go none e = tt
      go (some r) e =
          record {
            values = with_alarms_lem s h (alarms_raised s.alarms (mask r.alarm)) (counted_sound (raised s.alarms.register (mask r.alarm)));
            lines = one_own rows r.log s.clock r.code (row_held rows c r e (row_log rows all c r e));
          }

  clear_log_sound : (s : Values) (n : ℕ) → sound_values s ≡ true → SoundResult rows (clear_log_result s n)
  unfolding clear_log_result
  clear_log_sound s n h =
      either (SoundResult rows) (is_log n)
      (λ l. record { values = h; lines = further_own rows n s.clock 255 l (clear_listed n) })
      (λ l. tt)

  script_sound : (s : Values) (n : ℕ) → sound_values s ≡ true → SoundResult rows (script_result s n)
  unfolding script_result
  script_sound s n h =
      either (SoundResult rows) (eqb n 1) (λ a. request_sound s request.RemoteDisconnect h)
      (λ a. either (SoundResult rows) (eqb n 2) (λ b. request_sound s request.RemoteReconnect h) (λ b. tt))

  pub result_sound : every lawful rows ≡ true → (s : Values) (c : AnyCall) → AnyInRange c → sound_values s ≡ true
      → SoundResult rows (result rows s c)
  unfolding sound_values besides among every
  result_sound all s (sample ps) i h = sample_sound s ps h
  result_sound all s (request_call q) i h = request_sound s (request_of q) h
  result_sound all s (set_mode n) i h = mode_sound s n h
  result_sound all s (set_limiter ts o u) i h = limits_sound s ts o u i h
  result_sound all s (set_clock n) i h =
      record {
        values = h;
        lines =
            every_append (λ x. may_hold rows 1 x.code) (line s.clock 4 ∷ []) (line n 5 ∷ [])
            (further_own rows 1 s.clock 4 refl refl) (further_own rows 1 n 5 refl refl);
      }
  result_sound all s (event c) i h = event_sound all s c h
  result_sound all s (set_filter alarms n) i h =
      record { values = with_alarms_lem s h (alarms_filtered s.alarms n) (filtered_sound s.alarms n (alarms_sound s h)); lines = refl }
  result_sound all s (set_filter errors n) i h = record { values = h; lines = refl }
  result_sound all s (clear_bits alarms n) i h =
      record {
        values = with_alarms_lem s h (alarms_cleared s.alarms n) (counted_sound (cleared s.alarms.register n));
        lines = further_own rows 1 s.clock 11 refl refl;
      }
  result_sound all s (clear_bits errors n) i h = record { values = h; lines = further_own rows 1 s.clock 10 refl refl }
  result_sound all s (clear_log n) i h = clear_log_sound s n h
  result_sound all s (script n) i h = script_sound s n h
  result_sound all s (set_groups n ids) i h = groups_result_sound s n ids h
  result_sound all s (set_profile w) i h = profile_result_sound s w i.0 h

  -- ---- with the logs
  after_sound : (v : State) (r : Result) → sound_state rows v ≡ true → SoundResult rows r → sound_state rows (after_result v r) ≡ true
  unfolding sound_state
  after_sound v (refusing n) e k = e
  after_sound v (making r) e k =
      let logs = and_right (sound_values v.values) (sound_lists rows v.logs) e in
      rw k.values
      (appended_sound rows (emptied r.cleared v.logs) (emptied_sound rows v.logs logs r.cleared) r.log r.lines k.lines)

module _ (rows : List EventRow) (all : every lawful rows ≡ true) where
  values_sound : (v : State) → sound_state rows v ≡ true → sound_values v.values ≡ true
  unfolding sound_state
  values_sound v e = and_left (sound_values v.values) (sound_lists rows v.logs) e

  pub kept_sound : (v : State) (c : AnyCall) → AnyInRange c → sound_state rows v ≡ true
      → sound_state rows (after_result v (result rows v.values c)) ≡ true
  kept_sound v c i e = after_sound rows v (result rows v.values c) e (result_sound rows all v.values c i (values_sound v e))

-- ---- the fresh meter
pub fresh_sound : (rows : List EventRow) (f : AnyFresh) → AnySettings f → sound_state rows (fresh_values f) ≡ true
unfolding sound_state sound_values sound_control sound_alarms bit how_many sound_emergency sound_lists below every
fresh_sound rows f h =
    rw (h.mode, or-true, fresh_limiters f f.thresholds h.thresholds h.over h.under)
