-- A call on a record: its answer, by the account's rule of refusals; on a refusal the record that came in; and a sound record stays sound.
use mathlib.Core.Path.{◌≡◌, ◌∙◌, refl, ap, sym}
use mathlib.Core.Bool.{false, true}
use mathlib.Core.List.{List}
use Prim.Native.Nat.{ℕ}
use native.Mathlib.Omega.{arith}
use lib.ListN.{length}
use Rattle.base.specs.Tests.{every}
use Rattle.base.proofs.Bools.{and_right}
use Rattle.events.specs.Table.{EventRow, lawful}
use Rattle.logs.specs.Layout.{Sized, sound_logs}
use Rattle.calls.specs.declared.Call.{Call}
use Rattle.emergency.specs.Emergency.{groups_in}
use Rattle.calls.specs.Calls.{InRange, call_of}
use Rattle.calls.specs.declared.Answer.TheVariants.{Refused}
use Rattle.calls.specs.declared.Letter.TheVariants.{None}
use Rattle.calls.specs.declared.Command.{Command}
use Rattle.calls.specs.Calls.{Parsed}
use Rattle.calls.specs.declared.CommandError.TheVariants.{NoKind}
use Rattle.std.specs.Prelude.{Ok, Err}
use Rattle.history.specs.OnePhase.{as_call}
use Rattle.history.specs.Effects.{Reading, refused, accepted, reading}
use Rattle.machine.specs.Sound.{sound_state}
use Rattle.machine.specs.Machine.{Result, refusing, making, state_after, result}
use Rattle.machine.specs.Laws.{after_result, letter_in}
use Rattle.machine.proofs.Answers.{either, by_reading}
use Rattle.machine.proofs.Preserved.{kept_sound}
use Rattle.machine.proofs.Number.{number_kept}
use Rattle.machine.specs.Values.{State}
use Rattle.machine.proofs.Effects.{read_result}
use Rattle.status.proofs.Arrays.{after_sized}
use Rattle.steps.specs.Scalars.{sound_scalars, values_of}
use Rattle.steps.specs.Step.{result_of}
use Rattle.meter.specs.declared.Meter.{Meter}
use Rattle.meter.specs.declared.Outcome.{Outcome}
use Rattle.meter.specs.State.{state_of, scalars_of, record_of}
use Rattle.meter.specs.Sound.{sound_meter}
use Rattle.meter.specs.Machine.{carried_out, applied, performed, commanded}
use Rattle.meter.proofs.Values.{state_sound, record_sound, state_of_record}
use Rattle.meter.proofs.Ranges.{call_range}
use Rattle.status.specs.Answers.{answer_of}

-- each number under its condition only
read_answer : (m : Meter) (x : Reading) → (carried_out m (read_result (values_of (scalars_of m)) x)).answer ≡ answer_of x
read_answer m (refused n) = refl
read_answer m (accepted e) = refl

module _ (rows : List EventRow) (m : Meter) (c : Call) where
  pub applied_answer : sound_meter rows m ≡ true → (applied rows m c).answer ≡ answer_of (reading rows m.control.mode (groups_in m.emergency) (as_call c))
  unfolding applied
  applied_answer e = rw (e, by_reading rows (values_of (scalars_of m)) (as_call c)) (read_answer m (reading rows m.control.mode (groups_in m.emergency) (as_call c)))

-- ---- on any refusal the record is the one that came in
kept_same : (m : Meter) (r : Result) (n : ℕ) → (carried_out m r).answer ≡ Refused n → (carried_out m r).meter ≡ m
kept_same m (refusing k) n h = refl
kept_same m (making k) n h = cc

no_letter : (m : Meter) (r : Result) (n : ℕ) → (carried_out m r).answer ≡ Refused n → (carried_out m r).letter ≡ None
no_letter m (refusing k) n h = refl
no_letter m (making k) n h = absurd (let z : ◌≡◌ {A = ℕ} 0 1 = cc in omega arith)

module _ (rows : List EventRow) (m : Meter) where
  pub unsound_refused_lem : (c : Call) → sound_meter rows m ≡ false → (applied rows m c).answer ≡ Refused 12
  unfolding applied
  unsound_refused_lem c e = rw e

  pub refused_same : (c : Call) (n : ℕ) → (applied rows m c).answer ≡ Refused n → (applied rows m c).meter ≡ m
  unfolding applied
  refused_same c n =
      either (λ (o : Outcome). o.answer ≡ Refused n → o.meter ≡ m) (sound_meter rows m) (λ e h. kept_same m (result_of rows (scalars_of m) c) n h) (λ e h. refl)

  pub refused_letter : (c : Call) (n : ℕ) → (applied rows m c).answer ≡ Refused n → (applied rows m c).letter ≡ None
  unfolding applied
  refused_letter c n =
      either (λ (o : Outcome). o.answer ≡ Refused n → o.letter ≡ None) (sound_meter rows m)
      (λ e h. no_letter m (result_of rows (scalars_of m) c) n h) (λ e h. refl)

  performed_same : (p : Parsed) (n : ℕ) → (performed rows m p).answer ≡ Refused n → (performed rows m p).meter ≡ m
  performed_same (Ok c) n h = refused_same c n h
  performed_same (Err NoKind) n h = refl

  pub commanded_same : (c : Command) (n : ℕ) → (commanded rows m c).answer ≡ Refused n → (commanded rows m c).meter ≡ m
  unfolding commanded
  commanded_same c = performed_same (call_of c)

-- ---- the machine on a laid-out record
pub applied_state : (rows : List EventRow) (v : State) → length v.values.limiters ≡ 1 → sound_state rows v ≡ true → (c : Call)
    → (applied rows (record_of v) c).meter ≡ record_of (after_result v (result rows v.values (as_call c)))
unfolding applied
applied_state rows v one e c =
    rw (record_sound rows v one e)
    (go (result_of rows (scalars_of (record_of v)) c)
    ∙ ap (λ (w : State). record_of (after_result w (result rows w.values (as_call c)))) (state_of_record rows v one e))
  where
    go : (r : Result) → (carried_out (record_of v) r).meter ≡ record_of (after_result (state_of (record_of v)) r)
    go (refusing n) = ap record_of (sym (state_of_record rows v one e))
    go (making k) = refl

pub applied_letter : (rows : List EventRow) (v : State) → length v.values.limiters ≡ 1 → sound_state rows v ≡ true → (c : Call)
    → (applied rows (record_of v) c).letter ≡ letter_in (result rows v.values (as_call c))
unfolding applied
applied_letter rows v one e c =
    rw (record_sound rows v one e)
    (go (result_of rows (scalars_of (record_of v)) c) ∙ ap (λ (w : State). letter_in (result rows w.values (as_call c))) (state_of_record rows v one e))
  where
    go : (r : Result) → (carried_out (record_of v) r).letter ≡ letter_in r
    go (refusing n) = refl
    go (making k) = refl

-- ---- every call keeps a sound record sound
module _ (rows : List EventRow) (all : every lawful rows ≡ true) (m : Meter) (c : Call) (i : InRange c) (z : Sized m.logs) where
  pub applied_sound : sound_meter rows m ≡ true → sound_meter rows (applied rows m c).meter ≡ true
  unfolding applied
  applied_sound e =
      let v = state_of m in
      rw e
      (go (result_of rows (scalars_of m) c) (number_kept rows v (as_call c)) (kept_sound rows all v (as_call c) (call_range c i) (state_sound rows m z e)))
    where
      go : (r : Result) → length (after_result (state_of m) r).values.limiters ≡ 1 → sound_state rows (after_result (state_of m) r) ≡ true
          → sound_meter rows (carried_out m r).meter ≡ true
      go (refusing n) one k = e
      go (making r) one k = record_sound rows (state_after (state_of m) r) one k

-- ---- whatever a call is, the arrays keep their types' lengths
pub applied_sized : (rows : List EventRow) (m : Meter) (c : Call) → Sized m.logs → Sized (applied rows m c).meter.logs
unfolding applied sound_meter
applied_sized rows m c z =
    either (λ (o : Outcome). Sized o.meter.logs) (sound_meter rows m)
    (λ e. go (result_of rows (scalars_of m) c) (and_right (sound_scalars (scalars_of m)) (sound_logs rows m.logs) e))
    (λ e. z)
  where
    go : (r : Result) → sound_logs rows m.logs ≡ true → Sized (carried_out m r).meter.logs
    go (refusing n) e = z
    go (making r) e = after_sized rows m.logs r z e
