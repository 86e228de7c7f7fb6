-- What a GET gives after a SET that succeeded, and when a SET succeeds.
use mathlib.Core.Path.{◌≡◌, refl, ap, ◌∙◌, sym}
use mathlib.Core.Bool.{Bool, true, false, cond, ◌&&◌, and-true}
use mathlib.Core.List.{List, [], ◌∷◌}
use Prim.Native.Nat.{ℕ, ◌-◌, ◌<◌}
use native.Mathlib.Omega.{arith}
use lib.Bits.{bit_and}
use lib.Dec.{leb, ltb}
use lib.IntN.{ℤ, pos, negsuc}
use lib.Signed.{le_z}
use borrow.Author.Tests.{le-leb}
use Rattle.std.specs.Prelude.{Some}
use Rattle.base.specs.Bits.{inverse}
use Rattle.base.specs.Tests.{every, each_from}
use Rattle.base.proofs.Bools.{and_left, and_right}
use Rattle.events.specs.Table.{EventRow}
use Rattle.control.specs.declared.Decision.{Decision}
use Rattle.control.specs.declared.Decision.TheVariants.{Move, Stay, NotListed}
use Rattle.control.specs.Control.{mode_decision, in_mode}
use Rattle.limiter.specs.declared.Limiter.{Limiter}
use Rattle.limiter.specs.Limiter.{is_duration, is_threshold, with_settings, sound_settings, sound_limiter}
use Rattle.logs.specs.Layout.{sound_logs}
use Rattle.calls.specs.declared.Call.{Call}
use Rattle.calls.specs.declared.Call.TheVariants as call
use Rattle.calls.specs.declared.Answer.{Answer}
use Rattle.calls.specs.declared.Answer.TheVariants.{Accepted, Refused}
use Rattle.calls.specs.Calls.{signed_of}
use Rattle.calls.specs.Laws.{bits_of}
use Rattle.requests.specs.declared.Data.{Data}
use Rattle.requests.specs.declared.Data.TheVariants.{DoubleLong, DoubleLongUnsigned, Enum}
use Rattle.requests.specs.declared.Descriptor.{Descriptor}
use Rattle.responses.specs.declared.AccessResult.{AccessResult}
use Rattle.responses.specs.declared.AccessResult.TheVariants.{Success, ReadWriteDenied}
use Rattle.responses.specs.declared.Response.TheVariants.{GetData}
use Rattle.machine.specs.Values.{Values, with_control, with_limiters}
use Rattle.machine.specs.Settings.{limits_answer}
use Rattle.machine.specs.Machine.{Change, Result, refusing, making, owing, line_now, moving, answered_with, mode_result, settings_each, limiter_result, state_after}
use Rattle.steps.specs.Scalars.{sound_scalars, values_of, first_limiter}
use Rattle.steps.specs.Step.{result_of}
use Rattle.steps.proofs.Sound.{limiter_sound}
use Rattle.meter.specs.declared.Meter.{Meter}
use Rattle.meter.specs.declared.Outcome.{Outcome}
use Rattle.meter.specs.Machine.{refused_with, carried_out, applied}
use Rattle.meter.specs.Sound.{sound_meter}
use Rattle.meter.specs.State.{state_of, scalars_of, record_of}
use Rattle.server.specs.declared.Accessed.{Accessed}
use Rattle.server.specs.Access.{accessed_by, called_on, access_on}
use Rattle.server.specs.Items.{disconnect_control, limiter, errors, alarms, alarm_filter, got}
use Rattle.server.specs.AfterSet.{set_result, GivesBack, AfterSet}
use Rattle.server.proofs.Items.{of_record}

-- ---- a call that is carried out makes a change

module _ (rows : List EventRow) (m : Meter) (c : Call) where
  abbrev after : Change → Meter
  after k = record_of (state_after (state_of m) k)

  made : (called_on rows m c).result ≡ Success → (k : Change) × ((result_of rows (scalars_of m) c ≡ making k) × ((called_on rows m c).meter ≡ after k))
  unfolding called_on applied
  made e = go (sound_meter rows m) (result_of rows (scalars_of m) c) refl e
    where
      left : Bool → Result → Outcome
      left b r = cond b (carried_out m r) (refused_with m 12)

      go : (b : Bool) (r : Result) → result_of rows (scalars_of m) c ≡ r
          → (accessed_by m (left b r).meter (left b r).letter (left b r).answer).result ≡ Success
          → (k : Change) × ((result_of rows (scalars_of m) c ≡ making k) × ((accessed_by m (left b r).meter (left b r).letter (left b r).answer).meter ≡ after k))
      go true (making k) q e = (k, (q, refl))
      go true (refusing n) q e = absurd (let z : ◌≡◌ {A = ℕ} 0 1 = cc in omega arith)
      go false r q e = absurd (let z : ◌≡◌ {A = ℕ} 0 1 = cc in omega arith)

  -- of a sound record the result is the machine's
  abbrev result_by : Result → AccessResult
  result_by (refusing n) = ReadWriteDenied
  result_by (making k) = Success

  result_of_sound : sound_meter rows m ≡ true → (called_on rows m c).result ≡ result_by (result_of rows (scalars_of m) c)
  unfolding called_on applied
  result_of_sound q = rw q (go (result_of rows (scalars_of m) c))
    where
      go : (r : Result) → (accessed_by m (carried_out m r).meter (carried_out m r).letter (carried_out m r).answer).result ≡ result_by r
      go (refusing n) = refl
      go (making k) = refl

-- a SET that names a call, and a GET
gives_back : (rows : List EventRow) (m : Meter) (c : Call) (d : Descriptor) (x y : Data) → access_on rows m false d (Some x) ≡ called_on rows m c
    → ((k : Change) → result_of rows (scalars_of m) c ≡ making k → (i : ℕ) → got rows (after rows m c k) i d ≡ GetData i y) → GivesBack rows m d x y
gives_back rows m c d x y sets gets e i =
    let (k, (makes, leaves)) = made rows m c (sym (ap (λ (a : Accessed). a.result) sets) ∙ e) in
    ap (λ (n : Meter). got rows n i d) (ap (λ (a : Accessed). a.meter) sets ∙ leaves) ∙ gets k makes i

-- ---- what the changes hold

mode_after : (v : Values) (n : ℕ) (k : Change) → mode_result v n ≡ making k → k.values.control.mode ≡ n
unfolding mode_result
mode_after v n k e = go (leb n 6) (mode_decision n v.control.state) e
  where
    go : (b : Bool) (t : Decision) → cond b (making (moving (with_control v (in_mode v.control n)) [] t)) (refusing 1) ≡ making k → k.values.control.mode ≡ n
    go true (Move t c o x) e = let z : moving (with_control v (in_mode v.control n)) [] (Move t c o x) ≡ k = cc in ap (λ (y : Change). y.values.control.mode) (sym z)
    go true Stay e = let z : moving (with_control v (in_mode v.control n)) [] Stay ≡ k = cc in ap (λ (y : Change). y.values.control.mode) (sym z)
    go true NotListed e = let z : moving (with_control v (in_mode v.control n)) [] NotListed ≡ k = cc in ap (λ (y : Change). y.values.control.mode) (sym z)
    go false t e = absurd (let z : ◌≡◌ {A = ℕ} 0 1 = cc in omega arith)

module _ (m : Meter) (t : ℤ) (o u : ℕ) where
  abbrev v : Values
  v = values_of (scalars_of m)

  abbrev set : Change
  set = owing (with_limiters v (settings_each v.limiters (t ∷ []) o u)) 3 (line_now v 67 ∷ [])

  set_limiter_lem : first_limiter set.values.limiters ≡ with_settings m.limiter t o u
  unfolding each_from
  set_limiter_lem = refl

  limiter_after : (k : Change) → limiter_result v (t ∷ []) o u ≡ making k → first_limiter k.values.limiters ≡ with_settings m.limiter t o u
  unfolding limiter_result
  limiter_after k e = go (limits_answer (t ∷ []) o u) e
    where
      go : (a : Answer) → answered_with a set ≡ making k → first_limiter k.values.limiters ≡ with_settings m.limiter t o u
      go Accepted e = let z : set ≡ k = cc in ap (λ (y : Change). first_limiter y.values.limiters) (sym z) ∙ set_limiter_lem
      go (Refused n) e = absurd (let z : ◌≡◌ {A = ℕ} 0 1 = cc in omega arith)

bits_back : (v : ℕ) → v < 4294967296 → bits_of (signed_of v) ≡ v
bits_back v h = go (ltb v 2147483648)
  where
    go : (b : Bool) → bits_of (cond b (pos v) (negsuc (4294967295 - v))) ≡ v
    go true = refl
    go false = omega arith

inverse_back : (v : ℕ) → v < 4294967296 → inverse (inverse v) ≡ v
inverse_back v h = omega arith

module _ (rows : List EventRow) (m : Meter) where
  mode_back : (v : ℕ) → GivesBack rows m (disconnect_control 4) (Enum v) (Enum v)
  mode_back v =
      gives_back rows m (call.SetMode v) (disconnect_control 4) (Enum v) (Enum v) ((of_record rows m).set_control_mode v)
      (λ k e i. (of_record rows (after rows m (call.SetMode v) k)).get_control_mode i
      ∙ ap (λ (n : ℕ). GetData i (Enum n)) (mode_after (values_of (scalars_of m)) v k e))

  threshold_back : (v : ℕ) → v < 4294967296 → GivesBack rows m (limiter 4) (DoubleLong v) (DoubleLong v)
  threshold_back v h =
      let c = call.SetLimiter (signed_of v) m.limiter.over m.limiter.under in
      gives_back rows m c (limiter 4) (DoubleLong v) (DoubleLong v) ((of_record rows m).set_threshold v)
      (λ k e i. (of_record rows (after rows m c k)).get_threshold i
      ∙ ap (λ (l : Limiter). GetData i (DoubleLong (bits_of l.threshold))) (limiter_after m (signed_of v) m.limiter.over m.limiter.under k e)
      ∙ ap (λ (n : ℕ). GetData i (DoubleLong n)) (bits_back v h))

  over_back : (v : ℕ) → GivesBack rows m (limiter 6) (DoubleLongUnsigned v) (DoubleLongUnsigned v)
  over_back v =
      let c = call.SetLimiter m.limiter.threshold v m.limiter.under in
      gives_back rows m c (limiter 6) (DoubleLongUnsigned v) (DoubleLongUnsigned v) ((of_record rows m).set_over v)
      (λ k e i. (of_record rows (after rows m c k)).get_over i
      ∙ ap (λ (l : Limiter). GetData i (DoubleLongUnsigned l.over)) (limiter_after m m.limiter.threshold v m.limiter.under k e))

  under_back : (v : ℕ) → GivesBack rows m (limiter 7) (DoubleLongUnsigned v) (DoubleLongUnsigned v)
  under_back v =
      let c = call.SetLimiter m.limiter.threshold m.limiter.over v in
      gives_back rows m c (limiter 7) (DoubleLongUnsigned v) (DoubleLongUnsigned v) ((of_record rows m).set_under v)
      (λ k e i. (of_record rows (after rows m c k)).get_under i
      ∙ ap (λ (l : Limiter). GetData i (DoubleLongUnsigned l.under)) (limiter_after m m.limiter.threshold m.limiter.over v k e))

  -- a call that is never refused makes one change
  only : {A : Type 0} (f : Change → A) (x k : Change) → making x ≡ making k → f k ≡ f x
  only f x k e = let z : x ≡ k = cc in ap f (sym z)

  filter_back : (v : ℕ) → GivesBack rows m alarm_filter (DoubleLongUnsigned v) (DoubleLongUnsigned v)
  filter_back v =
      let c = call.SetAlarmFilter v in
      gives_back rows m c alarm_filter (DoubleLongUnsigned v) (DoubleLongUnsigned v) ((of_record rows m).set_alarm_filter v)
      (λ k e i. (of_record rows (after rows m c k)).get_alarm_filter i ∙ only (λ k. GetData i (DoubleLongUnsigned k.values.alarms.register.filter)) _ k e)

  errors_back : (v : ℕ) → v < 4294967296 → GivesBack rows m errors (DoubleLongUnsigned v) (DoubleLongUnsigned (bit_and m.errors.bits v))
  errors_back v h =
      let c = call.ClearErrors (inverse v) in
      gives_back rows m c errors (DoubleLongUnsigned v) (DoubleLongUnsigned (bit_and m.errors.bits v)) ((of_record rows m).set_errors v)
      (λ k e i. (of_record rows (after rows m c k)).get_errors i ∙ only (λ k. GetData i (DoubleLongUnsigned k.values.errors.bits)) _ k e
      ∙ ap (λ (n : ℕ). GetData i (DoubleLongUnsigned (bit_and m.errors.bits n))) (inverse_back v h))

  alarms_back : (v : ℕ) → v < 4294967296 → GivesBack rows m alarms (DoubleLongUnsigned v) (DoubleLongUnsigned (bit_and m.alarms.register.bits v))
  alarms_back v h =
      let c = call.ClearAlarms (inverse v) in
      gives_back rows m c alarms (DoubleLongUnsigned v) (DoubleLongUnsigned (bit_and m.alarms.register.bits v)) ((of_record rows m).set_alarms v)
      (λ k e i. (of_record rows (after rows m c k)).get_alarms i ∙ only (λ k. GetData i (DoubleLongUnsigned k.values.alarms.register.bits)) _ k e
      ∙ ap (λ (n : ℕ). GetData i (DoubleLongUnsigned (bit_and m.alarms.register.bits n))) (inverse_back v h))

  -- ---- when a SET succeeds

  module _ (q : sound_meter rows m ≡ true) where
    by_call : (c : Call) (d : Descriptor) (x : Data) → access_on rows m false d (Some x) ≡ called_on rows m c
        → set_result rows m d x ≡ result_by rows m c (result_of rows (scalars_of m) c)
    by_call c d x sets = ap (λ (a : Accessed). a.result) sets ∙ result_of_sound rows m c q

    mode_denied : (v : ℕ) → set_result rows m (disconnect_control 4) (Enum v) ≡ cond (leb v 6) Success ReadWriteDenied
    unfolding mode_result
    mode_denied v = by_call (call.SetMode v) (disconnect_control 4) (Enum v) ((of_record rows m).set_control_mode v) ∙ go (leb v 6)
      where
        s : Values
        s = values_of (scalars_of m)

        go : (b : Bool) → result_by rows m (call.SetMode v)
            (cond b (making (moving (with_control s (in_mode s.control v)) [] (mode_decision v s.control.state))) (refusing 1)) ≡ cond b Success ReadWriteDenied
        go true = refl
        go false = refl

    limited : (t : ℤ) (o u : ℕ) → result_by rows m (call.SetLimiter t o u) (result_of rows (scalars_of m) (call.SetLimiter t o u))
        ≡ cond (le_z (pos 0) t && (is_duration o && is_duration u)) Success ReadWriteDenied
    unfolding limiter_result limits_answer every
    limited t o u = go (le_z (pos 0) t) (is_duration o && is_duration u)
      where
        go : (a b : Bool) → result_by rows m (call.SetLimiter t o u) (answered_with (cond (a && true) (cond b Accepted (Refused 5)) (Refused 4)) (set m t o u))
            ≡ cond (a && b) Success ReadWriteDenied
        go true true = refl
        go true false = refl
        go false b = refl

    settings : sound_settings m.limiter ≡ true
    unfolding sound_meter sound_limiter
    settings =
        and_left (sound_settings m.limiter) _ (limiter_sound (scalars_of m) (and_left (sound_scalars (scalars_of m)) (sound_logs rows m.logs) q))

    pub threshold_kept : is_threshold m.limiter.threshold ≡ true
    threshold_kept = and_left (is_threshold m.limiter.threshold) _ (and_left _ (is_duration m.limiter.under) settings)

    pub over_kept : is_duration m.limiter.over ≡ true
    over_kept = and_right (is_threshold m.limiter.threshold) _ (and_left _ (is_duration m.limiter.under) settings)

    pub under_kept : is_duration m.limiter.under ≡ true
    under_kept = and_right (is_threshold m.limiter.threshold && is_duration m.limiter.over) _ settings

    not_negative : le_z (pos 0) m.limiter.threshold ≡ true
    not_negative = and_left _ (le_z m.limiter.threshold (pos 2147483647)) threshold_kept

    sign : (v : ℕ) → le_z (pos 0) (signed_of v) ≡ ltb v 2147483648
    sign v = go (ltb v 2147483648)
      where
        go : (b : Bool) → le_z (pos 0) (cond b (pos v) (negsuc (4294967295 - v))) ≡ b
        go true = le-leb 0 v (omega arith)
        go false = refl

    threshold_denied : (v : ℕ) → set_result rows m (limiter 4) (DoubleLong v) ≡ cond (ltb v 2147483648) Success ReadWriteDenied
    threshold_denied v =
        let k : le_z (pos 0) (signed_of v) && (is_duration m.limiter.over && is_duration m.limiter.under) ≡ ltb v 2147483648 =
        rw (over_kept, under_kept, sign v) (and-true (ltb v 2147483648)) in
        by_call (call.SetLimiter (signed_of v) m.limiter.over m.limiter.under) (limiter 4) (DoubleLong v) ((of_record rows m).set_threshold v)
        ∙ limited (signed_of v) m.limiter.over m.limiter.under ∙ ap (λ (b : Bool). cond b Success ReadWriteDenied) k

    over_denied : (v : ℕ) → set_result rows m (limiter 6) (DoubleLongUnsigned v) ≡ cond (is_duration v) Success ReadWriteDenied
    over_denied v =
        let k : le_z (pos 0) m.limiter.threshold && (is_duration v && is_duration m.limiter.under) ≡ is_duration v =
        rw (not_negative, under_kept) (and-true (is_duration v)) in
        by_call (call.SetLimiter m.limiter.threshold v m.limiter.under) (limiter 6) (DoubleLongUnsigned v) ((of_record rows m).set_over v)
        ∙ limited m.limiter.threshold v m.limiter.under ∙ ap (λ (b : Bool). cond b Success ReadWriteDenied) k

    under_denied : (v : ℕ) → set_result rows m (limiter 7) (DoubleLongUnsigned v) ≡ cond (is_duration v) Success ReadWriteDenied
    under_denied v =
        let k : le_z (pos 0) m.limiter.threshold && (is_duration m.limiter.over && is_duration v) ≡ is_duration v = rw (not_negative, over_kept) in
        by_call (call.SetLimiter m.limiter.threshold m.limiter.over v) (limiter 7) (DoubleLongUnsigned v) ((of_record rows m).set_under v)
        ∙ limited m.limiter.threshold m.limiter.over v ∙ ap (λ (b : Bool). cond b Success ReadWriteDenied) k

pub after_set : AfterSet
after_set rows m =
    record {
      mode_back = mode_back rows m;
      threshold_back = threshold_back rows m;
      over_back = over_back rows m;
      under_back = under_back rows m;
      filter_back = filter_back rows m;
      errors_back = errors_back rows m;
      alarms_back = alarms_back rows m;
      mode_denied = λ v q. mode_denied rows m q v;
      threshold_denied = λ v q. threshold_denied rows m q v;
      over_denied = λ v q. over_denied rows m q v;
      under_denied = λ v q. under_denied rows m q v;
      errors_set = λ v q. by_call rows m q (call.ClearErrors (inverse v)) errors (DoubleLongUnsigned v) ((of_record rows m).set_errors v);
      alarms_set = λ v q. by_call rows m q (call.ClearAlarms (inverse v)) alarms (DoubleLongUnsigned v) ((of_record rows m).set_alarms v);
      filter_set = λ v q. by_call rows m q (call.SetAlarmFilter v) alarm_filter (DoubleLongUnsigned v) ((of_record rows m).set_alarm_filter v);
    }
