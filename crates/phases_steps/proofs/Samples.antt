-- A sample of the three-phase meter: the step that the code makes, line by line, is the machine's.
use Rattle.base.proofs.Prelude.{◌≡◌, refl, sym, ap, ap₂, ◌∙◌, Bool, true, false, not, ◌&&◌, ◌||◌, cond, false≢true}
use Rattle.base.proofs.Prelude.{List, [], ◌∷◌, ◌++◌, map, append_assoc, append-nil}
use Rattle.base.proofs.Prelude.{ℕ, suc, ◌+◌, ◌≤◌, arith, ℤ, length, length-append, any, gathered, each_from}
use Rattle.base.specs.Numbers.{held}
use Rattle.base.proofs.Signed.{same_number}
use Rattle.events.specs.Line.{Line}
use Rattle.control.specs.declared.Decision.{Decision}
use Rattle.control.specs.declared.Decision.TheVariants.{Move, Stay, NotListed}
use Rattle.control.specs.declared.Request.{Request}
use Rattle.control.specs.declared.Request.TheVariants.{LocalDisconnect, LocalReconnect}
use Rattle.limiter.specs.declared.Limiter.{Limiter}
use Rattle.limiter.specs.declared.Watched.{Watched}
use Rattle.limiter.specs.Limiter.{is_over, sampled_power}
use Rattle.limiter.proofs.Watching.{laws}
use Rattle.emergency.specs.Emergency.{no_emergency}
use Rattle.history.specs.Last.{number_at}
use Rattle.machine.specs.Values.{Values, with_clock, with_limiters, with_emergency}
use Rattle.machine.specs.Machine.{Change, owing, line_now, moving, decided, fired_lines, disconnect_tried, reconnect_tried, after_sample, followed, sample_result}
use Rattle.machine.specs.Machine.{same_threshold, sampled_value, sampled_each}
use Rattle.status.specs.declared.StatusStep.{StatusStep}
use Rattle.status.specs.Status.{status_values}
use Rattle.status.specs.Step.{status_step_for}
use Rattle.phases_steps.specs.declared.MonitoredValue.{MonitoredValue}
use Rattle.phases_steps.specs.declared.Limiters.{Limiters}
use Rattle.phases_steps.specs.declared.ThreePhaseScalars.{ThreePhaseScalars}
use Rattle.phases_steps.specs.declared.ThreePhaseStep.{ThreePhaseStep}
use Rattle.phases_steps.specs.declared.sampling.Sampled.{Sampled}
use Rattle.phases_steps.specs.Scalars.{limiter_with, value_of, limiters_in, three_phase_values}
use Rattle.phases_steps.specs.Step.{three_phase_step_for, step_with_limiters}
use Rattle.phases_steps.specs.Sample.{sampled_monitored, sampled_by, in_line, limiters_after, logged_by, fired_by, switched_by}

-- ---- lines behind those of a change
-- four lines leave room for one more
logged_step : (k : Change) (c : ℕ) → length k.lines ≤ 4 → logged_by (three_phase_step_for k) c ≡ three_phase_step_for (followed k (line_now k.values c ∷ []))
logged_step k c h = go k.lines h
  where
    with : List Line → Change
    with xs = record { values = k.values; letter = k.letter; cleared = k.cleared; log = k.log; lines = xs }

    go : (xs : List Line) → length xs ≤ 4
        → logged_by (three_phase_step_for (with xs)) c ≡ three_phase_step_for (followed (with xs) (line_now k.values c ∷ []))
    go [] h = refl
    go (a ∷ []) h = refl
    go (a ∷ b ∷ []) h = refl
    go (a ∷ b ∷ d ∷ []) h = refl
    go (a ∷ b ∷ d ∷ e ∷ []) h = refl
    go (a ∷ b ∷ d ∷ e ∷ f ∷ xs) h = absurd (omega (arith, h))

-- a step with the line of each firing
abbrev pub with_firings : ThreePhaseStep → Sampled → ThreePhaseStep
with_firings x s = fired_by (fired_by (fired_by (fired_by x s.l1) s.l2) s.l3) s.sum

module _ (v : Values) where
  abbrev step_with : List Line → ThreePhaseStep
  step_with ys = three_phase_step_for (owing v 3 ys)

  fired_step_lem : (w : Watched) (ys : List Line) → length ys ≤ 4 → fired_by (step_with ys) w ≡ step_with (ys ++ fired_lines v w)
  fired_step_lem w ys h = go w.fired w.limiter.exceeded
    where
      go : (f e : Bool)
          → cond f (cond e (logged_by (step_with ys) 65) (logged_by (step_with ys) 66)) (step_with ys) ≡ step_with (ys ++ cond f (line_now v (cond e 65 66) ∷ []) [])
      go true true = logged_step (owing v 3 ys) 65 h
      go true false = logged_step (owing v 3 ys) 66 h
      go false e = ap step_with (sym (append-nil ys))

  one_line : (w : Watched) → length (fired_lines v w) ≤ 1
  one_line w = go w.fired w.limiter.exceeded
    where
      go : (f e : Bool) → length (cond f (line_now v (cond e 65 66) ∷ []) []) ≤ 1
      go true e = omega arith
      go false e = omega arith

  -- the lines of four, one behind the other
  four_lines : (s : Sampled) → let f = fired_lines v in
      (((f s.l1 ++ f s.l2) ++ f s.l3) ++ f s.sum) ≡ gathered f (in_line s)
  unfolding gathered
  four_lines s =
      let f = fired_lines v in
      append_assoc (f s.l1 ++ f s.l2) (f s.l3) (f s.sum)
      ∙ append_assoc (f s.l1) (f s.l2) (f s.l3 ++ f s.sum)
      ∙ ap (λ (zs : List Line). f s.l1 ++ (f s.l2 ++ (f s.l3 ++ zs))) (sym (append-nil (f s.sum)))

  pub fired_four : (s : Sampled) → with_firings (step_with []) s ≡ step_with (gathered (fired_lines v) (in_line s))
  fired_four s =
      let f = fired_lines v in
      let a = one_line s.l1 in
      let b = one_line s.l2 in
      let c = one_line s.l3 in
      let two = length-append (f s.l1) (f s.l2) in
      let three = length-append (f s.l1 ++ f s.l2) (f s.l3) in
      ap (λ x. fired_by (fired_by (fired_by x s.l2) s.l3) s.sum) (fired_step_lem s.l1 [] (omega arith))
      ∙ ap (λ x. fired_by (fired_by x s.l3) s.sum) (fired_step_lem s.l2 (f s.l1) (omega (arith, a)))
      ∙ ap (λ x. fired_by x s.sum) (fired_step_lem s.l3 (f s.l1 ++ f s.l2) (omega (arith, a, b, two)))
      ∙ fired_step_lem s.sum ((f s.l1 ++ f s.l2) ++ f s.l3) (omega (arith, a, b, c, two, three))
      ∙ ap step_with (four_lines s)

  few_lines : (s : Sampled) → length (gathered (fired_lines v) (in_line s)) ≤ 4
  unfolding gathered
  few_lines s =
      let a = one_line s.l1 in
      let b = one_line s.l2 in
      let c = one_line s.l3 in
      let d = one_line s.sum in
      rw (length-append, length-append, length-append, length-append) (omega (arith, a, b, c, d))

  -- and the decision carried out
  switched_step : (d : Decision) (ys : List Line) → length ys ≤ 4 → switched_by (step_with ys) d ≡ three_phase_step_for (moving v ys d)
  switched_step (Move t c o x) ys h = logged_step (record { values = (moving v ys (Move t c o x)).values; letter = x; cleared = 0; log = 3; lines = ys }) c h
  switched_step Stay ys h = refl
  switched_step NotListed ys h = refl

  -- ---- where nothing fired, nothing is logged and nothing is tried
  none_fired : (ws : List Watched) → any (λ w. w.fired) ws ≡ false
      → (gathered (fired_lines v) ws ≡ []) × ((disconnect_tried ws ≡ false) × (any (λ w. w.fired && not w.limiter.exceeded) ws ≡ false))
  unfolding any gathered
  none_fired [] h = (refl, (refl, refl))
  none_fired (w ∷ ws) h = go (none_fired ws) w.fired refl h
    where
      go : (any (λ w. w.fired) ws ≡ false
          → (gathered (fired_lines v) ws ≡ []) × ((disconnect_tried ws ≡ false) × (any (λ w. w.fired && not w.limiter.exceeded) ws ≡ false)))
          → (f : Bool) → w.fired ≡ f → f || any (λ w. w.fired) ws ≡ false
          → (gathered (fired_lines v) (w ∷ ws) ≡ [])
          × ((disconnect_tried (w ∷ ws) ≡ false) × (any (λ w. w.fired && not w.limiter.exceeded) (w ∷ ws) ≡ false))
      go rest true e k = absurd (false≢true (sym k))
      go rest false e k = let r = rest k in (rw e r.0, (rw e r.1.0, rw e r.1.1))

  -- ---- what the firings try, by what the code learns; ys are their lines
  module _ (s : Sampled) where
    abbrev pub firing_lines : List Line
    firing_lines = gathered (fired_lines v) (in_line s)

    abbrev changed : Change
    changed = after_sample v [] (in_line s)

    quiet : any (λ w. w.fired) (in_line s) ≡ false → step_with [] ≡ three_phase_step_for changed
    quiet h = let r = none_fired (in_line s) h in rw (r.0, r.1.0, r.1.1)

    disconnects : disconnect_tried (in_line s) ≡ true → switched_by (step_with firing_lines) (decided v LocalDisconnect) ≡ three_phase_step_for changed
    disconnects h = rw h (switched_step (decided v LocalDisconnect) firing_lines (few_lines s))

    reconnects : disconnect_tried (in_line s) ≡ false → reconnect_tried (in_line s) ≡ true
        → switched_by (step_with firing_lines) (decided v LocalReconnect) ≡ three_phase_step_for changed
    reconnects h k = rw (h, k) (switched_step (decided v LocalReconnect) firing_lines (few_lines s))

    nothing_tried : disconnect_tried (in_line s) ≡ false → reconnect_tried (in_line s) ≡ false → step_with firing_lines ≡ three_phase_step_for changed
    nothing_tried h k = rw (h, k)

-- ---- the machine's sample: without a profile each monitored value is judged by its own threshold
own : (l : Limiter) (p : ℤ) → sampled_value no_emergency no_emergency no_emergency l p ≡ sampled_power l l.threshold p
own l p = rw (same_number l.threshold)

each_own : (k : ℕ) (ls : List Limiter) (ps : List ℤ)
    → each_from k (λ k l. sampled_value no_emergency no_emergency no_emergency l (number_at ps k)) ls
    ≡ each_from k (λ k l. sampled_power l l.threshold (number_at ps k)) ls
unfolding each_from
each_own k [] ps = refl
each_own k (l ∷ ls) ps = ap₂ (λ (w : Watched) (ws : List Watched). w ∷ ws) (own l (number_at ps k)) (each_own (suc k) ls ps)

-- and no other threshold comes in force
none_other : (ls : List Limiter) → any not (map (same_threshold no_emergency no_emergency) ls) ≡ false
unfolding any
none_other [] = refl
none_other (l ∷ ls) = rw (same_number l.threshold) (none_other ls)

-- a limiter with the durations of another that has the same
shared : (a b : Limiter) → a.over ≡ b.over → a.under ≡ b.under → limiter_with a.over a.under (value_of b) ≡ b
shared a b o u = λ i. record { threshold = b.threshold; over = o i; under = u i; exceeded = b.exceeded; run = b.run }

module _ (s : ThreePhaseScalars) (ps : List ℤ) where
  abbrev sampled : Sampled
  sampled = sampled_by s.limiters ps

  -- the scalars after it, but for what it tries
  abbrev pub sampled_scalars : ThreePhaseScalars
  sampled_scalars =
      record {
        status =
            record {
              control = s.status.control;
              clock = held (s.status.clock + 1);
              alarms = s.status.alarms;
              errors = s.status.errors;
            };
        limiters = limiters_after sampled;
      }

  -- a sample keeps the durations
  same_over : (m : MonitoredValue) (p : ℤ) → (sampled_monitored s.limiters m p).limiter.over ≡ s.limiters.over
  same_over m p = (laws (limiter_with s.limiters.over s.limiters.under m) (is_over m.threshold p)).over_duration

  same_under : (m : MonitoredValue) (p : ℤ) → (sampled_monitored s.limiters m p).limiter.under ≡ s.limiters.under
  same_under m p = (laws (limiter_with s.limiters.over s.limiters.under m) (is_over m.threshold p)).under_duration

  kept : (m n : MonitoredValue) (p q : ℤ) → let a = (sampled_monitored s.limiters m p).limiter in let b = (sampled_monitored s.limiters n q).limiter in
      limiter_with a.over a.under (value_of b) ≡ b
  kept m n p q =
      shared (sampled_monitored s.limiters m p).limiter (sampled_monitored s.limiters n q).limiter
      (same_over m p ∙ sym (same_over n q)) (same_under m p ∙ sym (same_under n q))

  limiters_back : limiters_in (limiters_after sampled) ≡ map (λ w. w.limiter) (in_line sampled)
  limiters_back =
      let l = s.limiters in
      λ i. kept l.l1 l.l1 (number_at ps 0) (number_at ps 0) i ∷ kept l.l1 l.l2 (number_at ps 0) (number_at ps 1) i
      ∷ kept l.l1 l.l3 (number_at ps 0) (number_at ps 2) i ∷ kept l.l1 l.sum (number_at ps 0) (number_at ps 3) i ∷ []

  -- the change of a sample, by what the limiters make of it and whether another threshold is in force
  abbrev change_of : List Watched → Bool → Change
  change_of ws other =
      let next = with_emergency (with_limiters (with_clock (three_phase_values s) (held (s.status.clock + 1))) (map (λ w. w.limiter) ws)) no_emergency in
      let line = cond other (line_now next 67 ∷ []) [] in
      followed (after_sample next line ws) line

  by_parts : sample_result (three_phase_values s) ps
      ≡ change_of (sampled_each no_emergency no_emergency no_emergency (limiters_in s.limiters) ps)
      (any not (map (same_threshold no_emergency no_emergency) (limiters_in s.limiters)))
  unfolding sample_result
  by_parts = refl

  in_line_lem : each_from 0 (λ k l. sampled_power l l.threshold (number_at ps k)) (limiters_in s.limiters) ≡ in_line sampled
  unfolding each_from
  in_line_lem = refl

  -- nothing behind the lines of a change
  followed_none : (k : Change) → followed k [] ≡ k
  followed_none k = λ i. record { values = k.values; letter = k.letter; cleared = k.cleared; log = k.log; lines = append-nil k.lines i }

  pub sample_change : sample_result (three_phase_values s) ps ≡ after_sample (three_phase_values sampled_scalars) [] (in_line sampled)
  sample_change =
      by_parts
      ∙ ap₂ change_of (each_own 0 (limiters_in s.limiters) ps ∙ in_line_lem) (none_other (limiters_in s.limiters))
      ∙ followed_none (after_sample (with_limiters (three_phase_values sampled_scalars) (map (λ w. w.limiter) (in_line sampled))) [] (in_line sampled))
      ∙ ap (λ (ls : List Limiter). after_sample (with_limiters (three_phase_values sampled_scalars) ls) [] (in_line sampled)) (sym limiters_back)

  pub sample_made : three_phase_step_for (after_sample (three_phase_values sampled_scalars) [] (in_line sampled))
      ≡ three_phase_step_for (sample_result (three_phase_values s) ps)
  sample_made = ap three_phase_step_for (sym sample_change)

  -- ---- what the code returns: w is what it makes of the limiters, t the clock, l the limiters after it, x the step before any line
  module _ {w : Sampled} {t : ℕ} {l : Limiters} {x₀ : StatusStep} {x : ThreePhaseStep} (we : w ≡ sampled) (te : t ≡ held (s.status.clock + 1))
      (le : l ≡ limiters_after w)
      (x₀e : x₀ ≡ status_step_for
      (owing (status_values (record { control = s.status.control; clock = t; alarms = s.status.alarms; errors = s.status.errors })) 3 []))
      (xe : x ≡ step_with_limiters l x₀) where
    abbrev v : Values
    v = three_phase_values sampled_scalars

    begun : x ≡ step_with v []
    begun =
        xe
        ∙ ap₂ step_with_limiters (le ∙ ap limiters_after we)
        (x₀e
        ∙ ap (λ (t : ℕ). status_step_for
        (owing (status_values (record { control = s.status.control; clock = t; alarms = s.status.alarms; errors = s.status.errors })) 3 []))
        te)

    with_lines_lem : {y : ThreePhaseStep} → y ≡ with_firings x w → y ≡ step_with v (firing_lines v sampled)
    with_lines_lem e = e ∙ ap₂ with_firings begun we ∙ fired_four v sampled

    made : {z : ThreePhaseStep} → z ≡ three_phase_step_for (changed v sampled) → z ≡ three_phase_step_for (sample_result (three_phase_values s) ps)
    made e = e ∙ sample_made

    -- a request that the step with the lines makes
    asked : (q : Request) {y z : ThreePhaseStep} → y ≡ with_firings x w → z ≡ switched_by y (decided (status_values y.scalars.status) q)
        → z ≡ switched_by (step_with v (firing_lines v sampled)) (decided v q)
    asked q ye ze = ze ∙ ap (λ (y : ThreePhaseStep). switched_by y (decided (status_values y.scalars.status) q)) (with_lines_lem ye)

    pub quiet_returned : any (λ w. w.fired) (in_line w) ≡ false → x ≡ three_phase_step_for (sample_result (three_phase_values s) ps)
    quiet_returned h = made (begun ∙ quiet v sampled (rw we at h))

    pub disconnect_returned : {y z : ThreePhaseStep} → y ≡ with_firings x w
        → z ≡ switched_by y (decided (status_values y.scalars.status) LocalDisconnect) → disconnect_tried (in_line w) ≡ true
        → z ≡ three_phase_step_for (sample_result (three_phase_values s) ps)
    disconnect_returned ye ze h = made (asked LocalDisconnect ye ze ∙ disconnects v sampled (rw we at h))

    pub reconnect_returned : {y z : ThreePhaseStep} → y ≡ with_firings x w
        → z ≡ switched_by y (decided (status_values y.scalars.status) LocalReconnect) → disconnect_tried (in_line w) ≡ false
        → reconnect_tried (in_line w) ≡ true → z ≡ three_phase_step_for (sample_result (three_phase_values s) ps)
    reconnect_returned ye ze h k = made (asked LocalReconnect ye ze ∙ reconnects v sampled (rw we at h) (rw we at k))

    pub lines_returned : {y : ThreePhaseStep} → y ≡ with_firings x w → disconnect_tried (in_line w) ≡ false → reconnect_tried (in_line w) ≡ false
        → y ≡ three_phase_step_for (sample_result (three_phase_values s) ps)
    lines_returned ye h k = made (with_lines_lem ye ∙ nothing_tried v sampled (rw we at h) (rw we at k))
