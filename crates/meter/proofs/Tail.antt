-- The tail of a call: where the step's clears and lines are put into the arrays of a sound record, the record is the one that the machine gives.
use Prim.Native.Nat.{ℕ, ◌≤◌}
use native.Mathlib.Omega.{arith}
use mathlib.Core.Path.{◌≡◌, refl, ap, sym, ◌∙◌}
use mathlib.Core.Bool.{Bool, true, false, ◌&&◌}
use mathlib.Core.List.{List, []}
use lib.IntN.{ℤ}
use lib.ListN.{length, take}
use Rattle.base.proofs.Bools.{and_right}
use Rattle.events.specs.Table.{EventRow}
use Rattle.logs.specs.declared.Logs.{Logs}
use Rattle.logs.specs.Arrays.{sound_arrays, extended, counted, zeroed, uncounted}
use Rattle.logs.specs.Layout.{Sized, line_clock, line_code, sound_logs, extended_arrays, zeroed_arrays}
use Rattle.logs.proofs.Same.{none_appended}
use Rattle.calls.specs.declared.Call.{Call}
use Rattle.calls.specs.declared.Call.TheVariants.{Sample}
use Rattle.calls.specs.declared.Answer.TheVariants.{Accepted}
use Rattle.calls.specs.declared.Letter.TheVariants.{None}
use Rattle.calls.specs.declared.Command.{Command}
use Rattle.calls.specs.Calls.{Parsed}
use Rattle.calls.specs.declared.CommandError.TheVariants.{NoKind}
use Rattle.std.specs.Prelude.{Ok, Err}
use Rattle.calls.specs.Calls.{call_of}
use Rattle.machine.specs.Machine.{Result, refusing, making, owing}
use Rattle.steps.specs.declared.Scalars.{Scalars}
use Rattle.steps.specs.declared.Step.{Step}
use Rattle.std.specs.Prelude.{Some}
use Rattle.steps.specs.Scalars.{values_of, sound_scalars}
use Rattle.status.proofs.Arrays.{arrays_after_lem}
use Rattle.status.proofs.Records.{lines_fit, lines_first}
use Rattle.steps.specs.Step.{result_of, step_for, step_of, after_normal, quiet_sample}
use Rattle.steps.proofs.Samples.{quiet_told, quiet_made}
use Rattle.meter.specs.declared.Meter.{Meter}
use Rattle.meter.specs.declared.Outcome.{Outcome}
use Rattle.meter.specs.State.{scalars_of, with_logs}
use Rattle.meter.specs.Sound.{sound_meter}
use Rattle.meter.specs.Machine.{refused_with, carried_out, applied, performed, commanded}
use Rattle.meter.specs.Parts.{outcome_of, left_in, carried_out_in_parts, performed_in_parts, commanded_in_parts}

-- ---- the test of the record
pub sound_is : (rows : List EventRow) (m : Meter) (a b : Bool) → a ≡ sound_scalars (scalars_of m)
    → b ≡ sound_arrays rows m.logs.counts m.logs.clocks m.logs.codes → a && b ≡ sound_meter rows m
unfolding sound_meter sound_logs
sound_is rows m a b p q = rw (p, q)

pub unsound_refused_lem : (rows : List EventRow) (m : Meter) (c : Call) → sound_meter rows m ≡ false → refused_with m 12 ≡ applied rows m c
unfolding applied
unsound_refused_lem rows m c e = rw e

-- what a step leaves of a record, by the functions on the arrays
abbrev left_by : Meter → Step → Outcome
left_by m x =
    let h = extended_arrays x.log (take x.count x.clocks) (take x.count x.codes) (zeroed_arrays x.cleared m.logs) in
    outcome_of (record { scalars = x.scalars; answer = x.answer; letter = x.letter }) h.counts h.clocks h.codes

-- a step that clears no log and owes no line leaves the arrays
nothing_owed : (m : Meter) (n : ℕ) → left_by m (step_of (scalars_of m) (refusing n)) ≡ left_in m (refusing n)
unfolding extended_arrays zeroed_arrays counted extended uncounted zeroed
nothing_owed m n = refl

-- what the code leaves of the record: the arrays g₀ after the clear, and g after the lines
pub finished : (rows : List EventRow) (m : Meter) (c : Call) (s : Step) (g₀ g : Logs)
    → s ≡ step_of (scalars_of m) (result_of rows (scalars_of m) c) → g₀ ≡ zeroed_arrays s.cleared m.logs
    → g ≡ extended_arrays s.log (take s.count s.clocks) (take s.count s.codes) g₀
    → outcome_of (record { scalars = s.scalars; answer = s.answer; letter = s.letter }) g.counts g.clocks g.codes ≡ carried_out_in_parts rows m c
finished rows m c s g₀ g steps clears adds = rw (adds, clears, steps) (go (result_of rows (scalars_of m) c))
  where
    go : (r : Result) → left_by m (step_of (scalars_of m) r) ≡ left_in m r
    go (refusing n) = nothing_owed m n
    go (making k) = rw (lines_first line_clock k.lines _, lines_first line_code k.lines _)

-- what a quiet sample leaves: its scalars, and the arrays as they are
pub quiet_left : (rows : List EventRow) (m : Meter) (p : ℤ) (next : Scalars) → quiet_sample (scalars_of m) p ≡ Some next
    → outcome_of (record { scalars = next; answer = Accepted; letter = None }) m.logs.counts m.logs.clocks m.logs.codes
    ≡ carried_out_in_parts rows m (Sample p)
unfolding zeroed_arrays uncounted zeroed
quiet_left rows m p next quiet =
    finished rows m (Sample p) (step_for (owing (values_of next) 3 [])) m.logs m.logs (quiet_made (scalars_of m) p quiet) refl
    (none_appended 3 [] [] m.logs refl)

-- the record with the clock and the limiter of other scalars
abbrev with_sampled : Meter → Scalars → Meter
with_sampled m s =
    record {
      control = m.control;
      limiter = s.limiter;
      clock = s.clock;
      alarms = m.alarms;
      errors = m.errors;
      logs = m.logs;
      emergency = m.emergency;
    }

-- ---- of arrays of their types' lengths
module _ (rows : List EventRow) (m : Meter) where
  laid_out : Sized m.logs → sound_meter rows m ≡ true → (r : Result) → left_in m r ≡ carried_out m r
  unfolding sound_meter
  laid_out z e (refusing n) = refl
  laid_out z e (making k) = rw (arrays_after_lem rows m.logs z (and_right (sound_scalars (scalars_of m)) (sound_logs rows m.logs) e) k)

  pub sound_in_parts : (c : Call) → Sized m.logs → sound_meter rows m ≡ true → carried_out_in_parts rows m c ≡ applied rows m c
  unfolding applied
  sound_in_parts c z e = rw e (laid_out z e (result_of rows (scalars_of m) c))

  -- and of the record taken apart
  pub of_parts : (c : Call) (s : Scalars) (o : Outcome) → Sized m.logs → sound_meter rows m ≡ true → s ≡ scalars_of m
      → o ≡ carried_out_in_parts rows (with_logs s m.logs.counts m.logs.clocks m.logs.codes) c → o ≡ applied rows m c
  of_parts c s o z sound e p = rw (p, e) (sound_in_parts c z sound)

  -- a quiet sample of the record as it stands: the logs stay where they are
  pub quiet_applied : (p : ℤ) (s next : Scalars) → Sized m.logs → sound_meter rows m ≡ true → s ≡ scalars_of m → quiet_sample s p ≡ Some next
      → record { meter = with_sampled m next; answer = Accepted; letter = None } ≡ applied rows m (Sample p)
  quiet_applied p s next z sound same quiet =
      let told : quiet_sample (scalars_of m) p ≡ Some next = rw same at quiet in
      let is = (quiet_told (scalars_of m) p told).1 in
      rw (← is) (quiet_left rows m p (after_normal (scalars_of m) p) (told ∙ ap Some (sym is)) ∙ sound_in_parts (Sample p) z sound)

  performed_in_parts_lem : (p : Parsed) → Sized m.logs → sound_meter rows m ≡ true → performed_in_parts rows m p ≡ performed rows m p
  performed_in_parts_lem (Ok c) z e = sound_in_parts c z e
  performed_in_parts_lem (Err NoKind) z e = refl

  pub command_in_parts : (c : Command) → Sized m.logs → sound_meter rows m ≡ true → commanded_in_parts rows m c ≡ commanded rows m c
  unfolding commanded_in_parts commanded
  command_in_parts c = performed_in_parts_lem (call_of c)

-- ---- the two arrays are as long as the count says, or longer
pub lines_room : (s : Step) (t : Scalars) (r : Result) → s ≡ step_of t r → (s.count ≤ length s.clocks) × (s.count ≤ length s.codes)
lines_room s t (refusing n) e = rw e (omega arith, omega arith)
lines_room s t (making k) e = rw e (lines_fit line_clock k.lines _, lines_fit line_code k.lines _)
