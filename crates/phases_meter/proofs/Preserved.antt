-- A call on a record of the three-phase meter: its answer, by the account's rule of refusals; on a refusal the record that came in; and a sound record stays
-- sound.
use Rattle.base.proofs.Prelude.{false, ◌≡◌, refl, sym, ap, ◌∙◌, true, List, [], ℕ, arith, every, and_right}
use Rattle.events.specs.Table.{EventRow, lawful}
use Rattle.logs.specs.Layout.{Sized, sound_logs}
use Rattle.calls.specs.declared.Answer.TheVariants.{Refused}
use Rattle.calls.specs.declared.Letter.TheVariants.{None}
use Rattle.history.specs.Effects.{Reading, refused, accepted, reading}
use Rattle.machine.specs.Values.{State}
use Rattle.machine.specs.Sound.{sound_state}
use Rattle.machine.specs.Machine.{Result, refusing, making, state_after, result}
use Rattle.machine.specs.Laws.{after_result, letter_in}
use Rattle.machine.proofs.Answers.{either, by_reading}
use Rattle.machine.proofs.Effects.{read_result}
use Rattle.machine.proofs.Preserved.{kept_sound}
use Rattle.status.proofs.Arrays.{after_sized}
use Rattle.phases.specs.declared.ThreePhaseCall.{ThreePhaseCall}
use Rattle.phases.specs.declared.ThreePhaseCommand.{ThreePhaseCommand}
use Rattle.phases.specs.Calls.{ThreePhaseParsed}
use Rattle.calls.specs.declared.CommandError.TheVariants.{NoKind}
use Rattle.std.specs.Prelude.{Ok, Err}
use Rattle.phases.specs.Calls.{ThreePhaseInRange, three_phase_call_of}
use Rattle.phases.specs.ThreePhase.{as_any_call}
use Rattle.phases_steps.specs.Scalars.{three_phase_values, sound_three_phase_scalars}
use Rattle.phases_steps.specs.Step.{three_phase_result}
use Rattle.phases_meter.specs.declared.ThreePhaseMeter.{ThreePhaseMeter}
use Rattle.phases_meter.specs.declared.ThreePhaseOutcome.{ThreePhaseOutcome}
use Rattle.phases_meter.specs.State.{three_phase_state_of, three_phase_record_of, sound_three_phase_meter}
use Rattle.phases_meter.specs.Machine.{three_phase_carried_out, three_phase_applied, three_phase_performed, three_phase_commanded}
use Rattle.status.specs.Answers.{answer_of}
use Rattle.phases_meter.proofs.Values.{Recorded, state_sound, record_sound, state_of_record}
use Rattle.phases_meter.proofs.Ranges.{call_range}
use Rattle.phases_meter.proofs.Recorded.{RecordedResult, kept_recorded}

-- each number under its condition only
read_answer : (m : ThreePhaseMeter) (x : Reading) → (three_phase_carried_out m (read_result (three_phase_values m.scalars) x)).answer ≡ answer_of x
read_answer m (refused n) = refl
read_answer m (accepted e) = refl

module _ (rows : List EventRow) (m : ThreePhaseMeter) (c : ThreePhaseCall) where
  pub applied_answer : sound_three_phase_meter rows m ≡ true
      → (three_phase_applied rows m c).answer ≡ answer_of (reading rows m.scalars.status.control.mode [] (as_any_call c))
  unfolding three_phase_applied
  applied_answer e =
      rw (e, by_reading rows (three_phase_values m.scalars) (as_any_call c))
      (read_answer m (reading rows m.scalars.status.control.mode [] (as_any_call c)))

-- ---- on any refusal the record is the one that came in
kept_same : (m : ThreePhaseMeter) (r : Result) (n : ℕ) → (three_phase_carried_out m r).answer ≡ Refused n → (three_phase_carried_out m r).meter ≡ m
kept_same m (refusing k) n h = refl
kept_same m (making k) n h = cc

no_letter : (m : ThreePhaseMeter) (r : Result) (n : ℕ) → (three_phase_carried_out m r).answer ≡ Refused n → (three_phase_carried_out m r).letter ≡ None
no_letter m (refusing k) n h = refl
no_letter m (making k) n h = absurd (let z : ◌≡◌ {A = ℕ} 0 1 = cc in omega arith)

module _ (rows : List EventRow) (m : ThreePhaseMeter) where
  pub unsound_refused_lem : (c : ThreePhaseCall) → sound_three_phase_meter rows m ≡ false → (three_phase_applied rows m c).answer ≡ Refused 12
  unfolding three_phase_applied
  unsound_refused_lem c e = rw e

  pub refused_same : (c : ThreePhaseCall) (n : ℕ) → (three_phase_applied rows m c).answer ≡ Refused n → (three_phase_applied rows m c).meter ≡ m
  unfolding three_phase_applied
  refused_same c n =
      either (λ (o : ThreePhaseOutcome). o.answer ≡ Refused n → o.meter ≡ m) (sound_three_phase_meter rows m)
      (λ e h. kept_same m (three_phase_result rows m.scalars c) n h) (λ e h. refl)

  pub refused_letter : (c : ThreePhaseCall) (n : ℕ) → (three_phase_applied rows m c).answer ≡ Refused n → (three_phase_applied rows m c).letter ≡ None
  unfolding three_phase_applied
  refused_letter c n =
      either (λ (o : ThreePhaseOutcome). o.answer ≡ Refused n → o.letter ≡ None) (sound_three_phase_meter rows m)
      (λ e h. no_letter m (three_phase_result rows m.scalars c) n h) (λ e h. refl)

  performed_same : (p : ThreePhaseParsed) (n : ℕ) → (three_phase_performed rows m p).answer ≡ Refused n → (three_phase_performed rows m p).meter ≡ m
  performed_same (Ok c) n h = refused_same c n h
  performed_same (Err NoKind) n h = refl

  pub commanded_same : (c : ThreePhaseCommand) (n : ℕ) → (three_phase_commanded rows m c).answer ≡ Refused n → (three_phase_commanded rows m c).meter ≡ m
  unfolding three_phase_commanded
  commanded_same c = performed_same (three_phase_call_of c)

-- ---- the machine on a laid-out record
module _ (rows : List EventRow) (v : State) (same : Recorded v.values) (e : sound_state rows v ≡ true) (c : ThreePhaseCall) where
  pub applied_state : (three_phase_applied rows (three_phase_record_of v) c).meter ≡ three_phase_record_of (after_result v (result rows v.values (as_any_call c)))
  unfolding three_phase_applied
  applied_state =
      rw (record_sound rows v same e)
      (go (three_phase_result rows (three_phase_record_of v).scalars c)
      ∙ ap (λ (w : State). three_phase_record_of (after_result w (result rows w.values (as_any_call c)))) (state_of_record rows v same e))
    where
      go : (r : Result) → (three_phase_carried_out (three_phase_record_of v) r).meter
          ≡ three_phase_record_of (after_result (three_phase_state_of (three_phase_record_of v)) r)
      go (refusing n) = ap three_phase_record_of (sym (state_of_record rows v same e))
      go (making k) = refl

  pub applied_letter : (three_phase_applied rows (three_phase_record_of v) c).letter ≡ letter_in (result rows v.values (as_any_call c))
  unfolding three_phase_applied
  applied_letter =
      rw (record_sound rows v same e)
      (go (three_phase_result rows (three_phase_record_of v).scalars c)
      ∙ ap (λ (w : State). letter_in (result rows w.values (as_any_call c))) (state_of_record rows v same e))
    where
      go : (r : Result) → (three_phase_carried_out (three_phase_record_of v) r).letter ≡ letter_in r
      go (refusing n) = refl
      go (making k) = refl

  -- and what comes of it, a record can hold
  pub after_recorded : Recorded (after_result v (result rows v.values (as_any_call c))).values
  after_recorded = rw same at (go (three_phase_result rows (three_phase_record_of v).scalars c) (kept_recorded rows (three_phase_record_of v).scalars c))
    where
      go : (r : Result) → RecordedResult r → Recorded (after_result v r).values
      go (refusing n) k = same
      go (making r) k = k

-- ---- every call keeps a sound record sound
module _ (rows : List EventRow) (all : every lawful rows ≡ true) (m : ThreePhaseMeter) (c : ThreePhaseCall) (i : ThreePhaseInRange c)
    (z : Sized m.logs) where
  pub applied_sound : sound_three_phase_meter rows m ≡ true → sound_three_phase_meter rows (three_phase_applied rows m c).meter ≡ true
  unfolding three_phase_applied
  applied_sound e =
      let v = three_phase_state_of m in
      rw e
      (go (three_phase_result rows m.scalars c) (kept_recorded rows m.scalars c)
      (kept_sound rows all v (as_any_call c) (call_range c i) (state_sound rows m z e)))
    where
      go : (r : Result) → RecordedResult r → sound_state rows (after_result (three_phase_state_of m) r) ≡ true
          → sound_three_phase_meter rows (three_phase_carried_out m r).meter ≡ true
      go (refusing n) same k = e
      go (making r) same k = record_sound rows (state_after (three_phase_state_of m) r) same k

-- ---- whatever a call is, the arrays keep their types' lengths
pub applied_sized : (rows : List EventRow) (m : ThreePhaseMeter) (c : ThreePhaseCall) → Sized m.logs → Sized (three_phase_applied rows m c).meter.logs
unfolding three_phase_applied sound_three_phase_meter
applied_sized rows m c z =
    either (λ (o : ThreePhaseOutcome). Sized o.meter.logs) (sound_three_phase_meter rows m)
    (λ e. go (three_phase_result rows m.scalars c) (and_right (sound_three_phase_scalars m.scalars) (sound_logs rows m.logs) e))
    (λ e. z)
  where
    go : (r : Result) → sound_logs rows m.logs ≡ true → Sized (three_phase_carried_out m r).meter.logs
    go (refusing n) e = z
    go (making r) e = after_sized rows m.logs r z e
