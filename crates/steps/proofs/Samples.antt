-- A sample, by what the code learns on its way: whether it fired, and whether another threshold is in force before it and after it.
use Prim.Native.Nat.{ℕ, ◌+◌, ◌≤◌, ◌<◌}
use native.Mathlib.Omega.{arith}
use mathlib.Core.Path.{◌≡◌, refl, ap, ap₂, sym, ◌∙◌}
use mathlib.Core.Bool.{Bool, true, false, not, ◌||◌, cond, false≢true}
use mathlib.Core.List.{List, [], ◌∷◌, ◌++◌, append-nil, append_assoc}
use lib.Dec.{eqb, leb}
use lib.IntN.{ℤ}
use lib.ListN.{length}
use borrow.Author.Tests.{lt-leb, leb-false, eqb-true, not-true}
use Rattle.base.specs.Numbers.{held}
use Rattle.base.specs.Tests.{any, gathered, each_from, eq_z}
use Rattle.base.proofs.Bools.{and_left, and_right}
use Rattle.base.proofs.Signed.{same_number}
use Rattle.events.specs.Line.{Line, line}
use Rattle.control.specs.declared.Decision.{Decision}
use Rattle.control.specs.declared.Decision.TheVariants.{Move, Stay, NotListed}
use Rattle.control.specs.declared.Request.TheVariants.{LocalDisconnect, LocalReconnect}
use Rattle.limiter.specs.declared.Limiter.{Limiter}
use Rattle.limiter.specs.declared.Watched.{Watched}
use Rattle.limiter.specs.Limiter.{watching, sampled_power}
use Rattle.emergency.specs.declared.Emergency.{Emergency}
use Rattle.emergency.specs.Emergency.{started, ended, in_force}
use Rattle.machine.specs.Values.{Values}
use Rattle.machine.specs.Machine.{Change, owing, line_now, moving, decided, same_threshold, restarted_by, change_lines, fired_lines, disconnect_tried}
use Rattle.machine.specs.Machine.{reconnect_tried, after_sample, followed, sample_result}
use Rattle.steps.specs.declared.Scalars.{Scalars}
use Rattle.steps.specs.declared.Step.{Step}
use Rattle.steps.specs.Scalars.{values_of}
use Rattle.std.specs.Prelude.{Some, None}
use Rattle.steps.specs.Step.{after_normal, is_quiet, quiet_sample, step_for, led_by, ended_by}

-- ---- what the one limiter tells
module _ (s : Scalars) (w : Watched) where
  abbrev v : Values
  v = values_of s

  pub after_none : w.fired ≡ false → step_for (owing v 3 []) ≡ step_for (after_sample v [] (w ∷ []))
  unfolding any gathered
  after_none f = rw f

  pub after_over : w.fired ≡ true → w.limiter.exceeded ≡ true
      → step_for (moving v (line_now v 65 ∷ []) (decided v LocalDisconnect)) ≡ step_for (after_sample v [] (w ∷ []))
  unfolding any gathered
  after_over f e = rw (f, e)

  pub after_under : w.fired ≡ true → w.limiter.exceeded ≡ false
      → step_for (moving v (line_now v 66 ∷ []) (decided v LocalReconnect)) ≡ step_for (after_sample v [] (w ∷ []))
  unfolding any gathered
  after_under f e = rw (f, e)

-- ---- a line before those of a change, and one behind them
-- where the code goes on, there is room
pub room : (x : Bool) (n : ℕ) → x || leb 4 n ≡ false → n < 4
room true n e = absurd (false≢true (sym e))
room false n e = leb-false 4 n e

abbrev preceded : List Line → Change → Change
preceded zs k = record { values = k.values; letter = k.letter; cleared = k.cleared; log = k.log; lines = zs ++ k.lines }

-- three lines at most leave room for one more
led_step : (k : Change) (c : ℕ) → length k.lines ≤ 3 → led_by (step_for k) c ≡ step_for (preceded (line_now k.values c ∷ []) k)
led_step k c h = go k.lines h
  where
    with : List Line → Change
    with xs = record { values = k.values; letter = k.letter; cleared = k.cleared; log = k.log; lines = xs }

    go : (xs : List Line) → length xs ≤ 3 → led_by (step_for (with xs)) c ≡ step_for (preceded (line_now k.values c ∷ []) (with xs))
    go [] h = refl
    go (a ∷ []) h = refl
    go (a ∷ b ∷ []) h = refl
    go (a ∷ b ∷ d ∷ []) h = refl
    go (a ∷ b ∷ d ∷ e ∷ xs) h = absurd (omega (arith, h))

ended_step : (k : Change) (c : ℕ) → length k.lines ≤ 3 → ended_by (step_for k) c ≡ step_for (followed k (line_now k.values c ∷ []))
ended_step k c h = go k.lines h
  where
    with : List Line → Change
    with xs = record { values = k.values; letter = k.letter; cleared = k.cleared; log = k.log; lines = xs }

    go : (xs : List Line) → length xs ≤ 3 → ended_by (step_for (with xs)) c ≡ step_for (followed (with xs) (line_now k.values c ∷ []))
    go [] h = refl
    go (a ∷ []) h = refl
    go (a ∷ b ∷ []) h = refl
    go (a ∷ b ∷ d ∷ []) h = refl
    go (a ∷ b ∷ d ∷ e ∷ xs) h = absurd (omega (arith, h))

preceded_by : (v : Values) (zs : List Line) (ws : List Watched) → after_sample v zs ws ≡ preceded zs (after_sample v [] ws)
preceded_by v zs ws = go (disconnect_tried ws) (reconnect_tried ws)
  where
    xs : List Line
    xs = gathered (fired_lines v) ws

    moved : (d : Decision) → moving v (zs ++ xs) d ≡ preceded zs (moving v xs d)
    moved (Move t c o x) =
        ap (λ (ls : List Line). record { values = (moving v xs (Move t c o x)).values; letter = x; cleared = 0; log = 3; lines = ls })
        (append_assoc zs xs (line_now v c ∷ []))
    moved Stay = refl
    moved NotListed = refl

    go : (a b : Bool)
        → cond a (moving v (zs ++ xs) (decided v LocalDisconnect)) (cond b (moving v (zs ++ xs) (decided v LocalReconnect)) (owing v 3 (zs ++ xs)))
        ≡ preceded zs (cond a (moving v xs (decided v LocalDisconnect)) (cond b (moving v xs (decided v LocalReconnect)) (owing v 3 xs)))
    go true b = moved (decided v LocalDisconnect)
    go false true = moved (decided v LocalReconnect)
    go false false = refl

-- the clock stays
same_clock : (v : Values) (ws : List Watched) → (after_sample v [] ws).values.clock ≡ v.clock
same_clock v ws = go (disconnect_tried ws) (reconnect_tried ws)
  where
    xs : List Line
    xs = gathered (fired_lines v) ws

    moved : (d : Decision) → (moving v xs d).values.clock ≡ v.clock
    moved (Move t c o x) = refl
    moved Stay = refl
    moved NotListed = refl

    go : (a b : Bool)
        → (cond a (moving v xs (decided v LocalDisconnect)) (cond b (moving v xs (decided v LocalReconnect)) (owing v 3 xs))).values.clock ≡ v.clock
    go true b = moved (decided v LocalDisconnect)
    go false true = moved (decided v LocalReconnect)
    go false false = refl

-- nothing behind the lines of a change
followed_none : (k : Change) → step_for (followed k []) ≡ step_for k
followed_none k =
    ap (λ (ls : List Line). step_for (record { values = k.values; letter = k.letter; cleared = k.cleared; log = k.log; lines = ls })) (append-nil k.lines)

-- one limiter owes a line and a move's at most
few_lines : (v : Values) (w : Watched) → length (after_sample v [] (w ∷ [])).lines ≤ 2
unfolding gathered
few_lines v w = go (disconnect_tried (w ∷ [])) (reconnect_tried (w ∷ [])) w.fired
  where
    fired : Bool → List Line
    fired f = cond f (line_now v (cond w.limiter.exceeded 65 66) ∷ []) [] ++ []

    moved : (f : Bool) (d : Decision) → length (moving v (fired f) d).lines ≤ 2
    moved true (Move t c o x) = omega arith
    moved true Stay = omega arith
    moved true NotListed = omega arith
    moved false (Move t c o x) = omega arith
    moved false Stay = omega arith
    moved false NotListed = omega arith

    go : (a b f : Bool)
        → length (cond a (moving v (fired f) (decided v LocalDisconnect)) (cond b (moving v (fired f) (decided v LocalReconnect)) (owing v 3 (fired f)))).lines
        ≤ 2
    go true b f = moved f (decided v LocalDisconnect)
    go false true f = moved f (decided v LocalReconnect)
    go false false true = omega arith
    go false false false = omega arith

-- ---- the sample, by the profile at it and after it
module _ (s : Scalars) (p : ℤ) where
  -- whether the threshold in force is the same before the sample and at it, and at it and after it
  abbrev starts_same : Emergency → Bool
  starts_same d = same_threshold s.emergency d s.limiter

  abbrev ends_same : Emergency → Emergency → Bool
  ends_same d a = same_threshold d a s.limiter

  abbrev watched_at : Emergency → Watched
  watched_at d = sampled_power (restarted_by (starts_same d) s.limiter) (in_force d s.limiter.threshold) p

  abbrev pub scalars_after : Emergency → Emergency → Scalars
  scalars_after d a =
      record {
        control = s.control;
        limiter = restarted_by (ends_same d a) (watched_at d).limiter;
        clock = held (s.clock + 1);
        alarms = s.alarms;
        errors = s.errors;
        emergency = a;
      }

  abbrev change_after : Emergency → Emergency → Change
  change_after d a = after_sample (values_of (scalars_after d a)) [] (watching (scalars_after d a).limiter (watched_at d).fired ∷ [])

  -- as the code makes it
  abbrev pub made_step : Emergency → Emergency → Step
  made_step d a =
      let x = step_for (change_after d a) in
      let y = cond (starts_same d || leb 4 x.count) x (led_by x 67) in
      cond (ends_same d a || leb 4 y.count) y (ended_by y 67)

  made : (d a : Emergency) → let v = values_of (scalars_after d a) in
      step_for (followed
      (after_sample v (change_lines v (starts_same d ∷ [])) (watching (scalars_after d a).limiter (watched_at d).fired ∷ []))
      (change_lines v (ends_same d a ∷ [])))
      ≡ made_step d a
  unfolding any
  made d a = go (starts_same d) (ends_same d a)
    where
      v : Values
      v = values_of (scalars_after d a)

      ws : List Watched
      ws = watching (scalars_after d a).limiter (watched_at d).fired ∷ []

      k : Change
      k = change_after d a

      few : length k.lines ≤ 2
      few = few_lines v (watching (scalars_after d a).limiter (watched_at d).fired)

      -- the line 67, and the change with it before its own
      now : List Line
      now = line_now v 67 ∷ []

      now_is : now ≡ line_now k.values 67 ∷ []
      now_is = ap (λ (t : ℕ). line t 67 ∷ []) (sym (same_clock v ws))

      led : Change
      led = preceded (line_now k.values 67 ∷ []) k

      led_is : after_sample v now ws ≡ led
      led_is = preceded_by v now ws ∙ ap (λ (zs : List Line). preceded zs k) now_is

      go : (x y : Bool)
          → step_for (followed (after_sample v (change_lines v (x ∷ [])) ws) (change_lines v (y ∷ [])))
          ≡ (let z = cond (x || leb 4 (length k.lines)) (step_for k) (led_by (step_for k) 67) in cond (y || leb 4 z.count) z (ended_by z 67))
      go true true = followed_none k
      go true false =
          rw (lt-leb 4 (length k.lines) (omega (arith, few)))
          (ap (λ (zs : List Line). step_for (followed k zs)) now_is ∙ sym (ended_step k 67 (omega (arith, few))))
      go false true =
          rw (lt-leb 4 (length k.lines) (omega (arith, few)))
          (followed_none (after_sample v now ws) ∙ ap step_for led_is ∙ sym (led_step k 67 (omega (arith, few))))
      go false false =
          rw (lt-leb 4 (length k.lines) (omega (arith, few)), lt-leb 4 (length k.lines + 1) (omega (arith, few)))
          (ap (λ (zs : List Line). step_for (followed (after_sample v now ws) zs)) now_is
          ∙ ap (λ (c : Change). step_for (followed c (line_now k.values 67 ∷ []))) led_is
          ∙ sym (ended_step led 67 (omega (arith, few)))
          ∙ ap (λ (z : Step). ended_by z 67) (sym (led_step k 67 (omega (arith, few)))))

  -- the machine's sample
  pub sample_made : let d = started (held (s.clock + 1)) s.emergency in
      step_for (sample_result (values_of s) (p ∷ [])) ≡ made_step d (ended d)
  unfolding sample_result each_from
  sample_made = let d = started (held (s.clock + 1)) s.emergency in made d (ended d)

  -- what it tells that there are scalars after a quiet sample
  pub quiet_told : {next : Scalars} → quiet_sample s p ≡ Some next → (is_quiet s p ≡ true) × (after_normal s p ≡ next)
  quiet_told {next} told = go (is_quiet s p) refl told
    where
      go : (b : Bool) → is_quiet s p ≡ b → cond b (Some (after_normal s p)) None ≡ Some next → (is_quiet s p ≡ true) × (after_normal s p ≡ next)
      go true q e = (q, cc)
      go false q e = cc

  -- without a profile no other threshold is in force before or after; a sample that does not fire either owes no line
  pub quiet_made : {next : Scalars} → quiet_sample s p ≡ Some next
      → step_for (owing (values_of next) 3 []) ≡ step_for (sample_result (values_of s) (p ∷ []))
  quiet_made {next} told =
      rw (← (quiet_told told).1)
      (sym (sample_made ∙ ap₂ made_step started_none ended_none ∙ unchanged ∙ sym (after_none (after_normal s p) w silent)))
    where
      q : is_quiet s p ≡ true
      q = (quiet_told told).0

      e : Emergency
      e = s.emergency

      w : Watched
      w = sampled_power s.limiter s.limiter.threshold p

      none : e.state ≡ 0
      none = eqb-true e.state 0 (and_left (eqb e.state 0) (not w.fired) q)

      silent : w.fired ≡ false
      silent = not-true w.fired (and_right (eqb e.state 0) (not w.fired) q)

      started_none : started (held (s.clock + 1)) e ≡ e
      started_none = rw none

      ended_none : ended (started (held (s.clock + 1)) e) ≡ e
      ended_none = ap ended started_none ∙ rw none

      unchanged : made_step e e ≡ step_for (after_sample (values_of (after_normal s p)) [] (w ∷ []))
      unchanged = rw (same_number (in_force e s.limiter.threshold), none)

  -- ---- the same as the code comes to it, step by step
  abbrev scalars_with : ℕ → Limiter → Emergency → Scalars
  scalars_with now l a =
      record { control = s.control; limiter = l; clock = now; alarms = s.alarms; errors = s.errors; emergency = a }

  -- what a sample that fired or not makes of scalars
  unfoldable pub fired_step : Scalars → Bool → Step
  fired_step next fired = step_for (after_sample (values_of next) [] (watching next.limiter fired ∷ []))

  -- with a line before and one behind, where the threshold in force is another
  unfoldable pub led_if : Bool → Step → Step
  led_if x z = cond (x || leb 4 z.count) z (led_by z 67)

  unfoldable pub ended_if : Bool → Step → Step
  ended_if y z = cond (y || leb 4 z.count) z (ended_by z 67)

  unfoldable pub profile_step : ℕ → Emergency → ℤ → ℤ → ℤ → Step
  profile_step now a before during after =
      let w = sampled_power (restarted_by (eq_z before during) s.limiter) during p in
      let l = restarted_by (eq_z during after) w.limiter in
      ended_if (eq_z during after) (led_if (eq_z before during) (fired_step (scalars_with now l a) w.fired))

  pub profile_made : (now : ℕ) (a : Emergency) (before during after : ℤ) {x y : Bool} {l l' : Limiter} {w : Watched} {z z' z'' : Step}
      → x ≡ eq_z before during → y ≡ eq_z during after → l ≡ restarted_by x s.limiter → w ≡ sampled_power l during p → l' ≡ restarted_by y w.limiter
      → z ≡ step_for (after_sample (values_of (scalars_with now l' a)) [] (watching l' w.fired ∷ []))
      → z' ≡ cond (x || leb 4 z.count) z (led_by z 67)
      → z'' ≡ cond (y || leb 4 z'.count) z' (ended_by z' 67)
      → z'' ≡ profile_step now a before during after
  unfolding fired_step led_if ended_if profile_step
  profile_made now a before during after xe ye le we l'e ze z'e z''e =
      let w_is = we ∙ ap (λ (l : Limiter). sampled_power l during p) (le ∙ ap (λ (x : Bool). restarted_by x s.limiter) xe) in
      let l_is = l'e ∙ ap₂ (λ (y : Bool) (w : Watched). restarted_by y w.limiter) ye w_is in
      let z_is = ze ∙ ap₂ (λ (l : Limiter) (f : Bool). fired_step (scalars_with now l a) f) l_is (ap (λ (w : Watched). w.fired) w_is) in
      z''e ∙ ap₂ ended_if ye (z'e ∙ ap₂ led_if xe z_is)

  -- the profile at the sample and after it, and the thresholds in force
  abbrev at_sample : Emergency
  at_sample = started (held (s.clock + 1)) s.emergency

  abbrev in_force_by : Emergency → ℤ
  in_force_by e = in_force e s.limiter.threshold

  profile_is : profile_step (held (s.clock + 1)) (ended at_sample) (in_force_by s.emergency) (in_force_by at_sample) (in_force_by (ended at_sample))
      ≡ step_for (sample_result (values_of s) (p ∷ []))
  unfolding fired_step led_if ended_if profile_step
  profile_is = sym sample_made

  pub sampled_profile : (now : ℕ) (d a : Emergency) (before during after : ℤ) {z : Step}
      → now ≡ held (s.clock + 1) → before ≡ in_force_by s.emergency → d ≡ started now s.emergency
      → during ≡ in_force_by d → a ≡ ended d → after ≡ in_force_by a
      → z ≡ profile_step now a before during after
      → z ≡ step_for (sample_result (values_of s) (p ∷ []))
  sampled_profile now d a before during after nowe beforee de duringe ae aftere ze =
      let d_is = de ∙ ap (λ (n : ℕ). started n s.emergency) nowe in
      let a_is = ae ∙ ap ended d_is in
      ze
      ∙ ap₂ (λ (n : ℕ) (e : Emergency). profile_step n e before during after) nowe a_is
      ∙ ap (λ (b : ℤ). profile_step (held (s.clock + 1)) (ended at_sample) b during after) beforee
      ∙ ap₂ (λ (b c : ℤ). profile_step (held (s.clock + 1)) (ended at_sample) (in_force_by s.emergency) b c)
      (duringe ∙ ap in_force_by d_is) (aftere ∙ ap in_force_by a_is)
      ∙ profile_is
