-- The tail of a call: where the step's clears and lines are put into the arrays of a sound record, the record is the one that the machine gives.
use Rattle.base.proofs.Prelude.{◌≡◌, refl, Bool, true, false, ◌&&◌, List, ℕ, ◌≤◌, arith, length, take, and_right}
use Rattle.events.specs.Table.{EventRow}
use Rattle.logs.specs.declared.Logs.{Logs}
use Rattle.logs.specs.Arrays.{sound_arrays, extended, counted, zeroed, uncounted}
use Rattle.logs.specs.Layout.{Sized, line_clock, line_code, sound_logs, extended_arrays, zeroed_arrays}
use Rattle.machine.specs.Machine.{Result, refusing, making}
use Rattle.status.proofs.Arrays.{arrays_after_lem}
use Rattle.status.proofs.Records.{lines_fit, lines_first}
use Rattle.phases.specs.declared.ThreePhaseCall.{ThreePhaseCall}
use Rattle.phases.specs.declared.ThreePhaseCommand.{ThreePhaseCommand}
use Rattle.phases.specs.Calls.{ThreePhaseParsed}
use Rattle.calls.specs.declared.CommandError.TheVariants.{NoKind}
use Rattle.std.specs.Prelude.{Ok, Err}
use Rattle.phases.specs.Calls.{three_phase_call_of}
use Rattle.phases_steps.specs.declared.ThreePhaseScalars.{ThreePhaseScalars}
use Rattle.phases_steps.specs.declared.ThreePhaseStep.{ThreePhaseStep}
use Rattle.phases_steps.specs.Scalars.{sound_three_phase_scalars}
use Rattle.phases_steps.specs.Step.{three_phase_result, three_phase_step_of}
use Rattle.phases_meter.specs.declared.ThreePhaseMeter.{ThreePhaseMeter}
use Rattle.phases_meter.specs.declared.ThreePhaseOutcome.{ThreePhaseOutcome}
use Rattle.phases_meter.specs.State.{three_phase_with_logs, sound_three_phase_meter}
use Rattle.phases_meter.specs.Machine.{three_phase_refused, three_phase_carried_out, three_phase_applied, three_phase_performed, three_phase_commanded}
use Rattle.phases_meter.specs.Parts.{three_phase_outcome_of, three_phase_left_in, three_phase_in_parts, three_phase_parsed_in_parts, three_phase_command_in_parts}

-- ---- the test of the record
pub sound_is : (rows : List EventRow) (m : ThreePhaseMeter) (a b : Bool) → a ≡ sound_three_phase_scalars m.scalars
    → b ≡ sound_arrays rows m.logs.counts m.logs.clocks m.logs.codes → a && b ≡ sound_three_phase_meter rows m
unfolding sound_three_phase_meter sound_logs
sound_is rows m a b p q = rw (p, q)

pub unsound_refused_lem : (rows : List EventRow) (m : ThreePhaseMeter) (c : ThreePhaseCall) → sound_three_phase_meter rows m ≡ false
    → three_phase_refused m 12 ≡ three_phase_applied rows m c
unfolding three_phase_applied
unsound_refused_lem rows m c e = rw e

-- what a step leaves of a record, by the functions on the arrays
abbrev left_by : ThreePhaseMeter → ThreePhaseStep → ThreePhaseOutcome
left_by m x =
    let h = extended_arrays x.log (take x.count x.clocks) (take x.count x.codes) (zeroed_arrays x.cleared m.logs) in
    three_phase_outcome_of (record { scalars = x.scalars; answer = x.answer; letter = x.letter }) h.counts h.clocks h.codes

-- a step that clears no log and owes no line leaves the arrays
nothing_owed : (m : ThreePhaseMeter) (n : ℕ) → left_by m (three_phase_step_of m.scalars (refusing n)) ≡ three_phase_left_in m (refusing n)
unfolding extended_arrays zeroed_arrays counted extended uncounted zeroed
nothing_owed m n = refl

-- what the code leaves of the record: the arrays g₀ after the clear, and g after the lines
pub finished : (rows : List EventRow) (m : ThreePhaseMeter) (c : ThreePhaseCall) (s : ThreePhaseStep) (g₀ g : Logs)
    → s ≡ three_phase_step_of m.scalars (three_phase_result rows m.scalars c) → g₀ ≡ zeroed_arrays s.cleared m.logs
    → g ≡ extended_arrays s.log (take s.count s.clocks) (take s.count s.codes) g₀
    → three_phase_outcome_of (record { scalars = s.scalars; answer = s.answer; letter = s.letter }) g.counts g.clocks g.codes
    ≡ three_phase_in_parts rows m c
finished rows m c s g₀ g steps clears adds = rw (adds, clears, steps) (go (three_phase_result rows m.scalars c))
  where
    go : (r : Result) → left_by m (three_phase_step_of m.scalars r) ≡ three_phase_left_in m r
    go (refusing n) = nothing_owed m n
    go (making k) = rw (lines_first line_clock k.lines _, lines_first line_code k.lines _)

-- ---- of arrays of their types' lengths
module _ (rows : List EventRow) (m : ThreePhaseMeter) where
  laid_out : Sized m.logs → sound_three_phase_meter rows m ≡ true → (r : Result) → three_phase_left_in m r ≡ three_phase_carried_out m r
  unfolding sound_three_phase_meter
  laid_out z e (refusing n) = refl
  laid_out z e (making k) = rw (arrays_after_lem rows m.logs z (and_right (sound_three_phase_scalars m.scalars) (sound_logs rows m.logs) e) k)

  pub sound_in_parts : (c : ThreePhaseCall) → Sized m.logs → sound_three_phase_meter rows m ≡ true
      → three_phase_in_parts rows m c ≡ three_phase_applied rows m c
  unfolding three_phase_applied
  sound_in_parts c z e = rw e (laid_out z e (three_phase_result rows m.scalars c))

  -- and of the record taken apart
  pub of_parts : (c : ThreePhaseCall) (o : ThreePhaseOutcome) → Sized m.logs → sound_three_phase_meter rows m ≡ true
      → o ≡ three_phase_in_parts rows (three_phase_with_logs m.scalars m.logs.counts m.logs.clocks m.logs.codes) c
      → o ≡ three_phase_applied rows m c
  of_parts c o z sound p = rw p (sound_in_parts c z sound)

  performed_in_parts_lem : (p : ThreePhaseParsed) → Sized m.logs → sound_three_phase_meter rows m ≡ true
      → three_phase_parsed_in_parts rows m p ≡ three_phase_performed rows m p
  performed_in_parts_lem (Ok c) z e = sound_in_parts c z e
  performed_in_parts_lem (Err NoKind) z e = refl

  pub command_in_parts : (c : ThreePhaseCommand) → Sized m.logs → sound_three_phase_meter rows m ≡ true
      → three_phase_command_in_parts rows m c ≡ three_phase_commanded rows m c
  unfolding three_phase_command_in_parts three_phase_commanded
  command_in_parts c = performed_in_parts_lem (three_phase_call_of c)

-- ---- the two arrays are as long as the count says, or longer
pub lines_room : (s : ThreePhaseStep) (t : ThreePhaseScalars) (r : Result) → s ≡ three_phase_step_of t r
    → (s.count ≤ length s.clocks) × (s.count ≤ length s.codes)
lines_room s t (refusing n) e = rw e (omega arith, omega arith)
lines_room s t (making k) e = rw e (lines_fit line_clock k.lines _, lines_fit line_code k.lines _)
