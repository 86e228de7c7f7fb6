-- The machine as the code does it, on a record in parts: the scalars by value, the arrays of the logs as they stand, of any length and any content.
use Rattle.std.specs.Prelude.{ℕ, List}
use Rattle.events.specs.Table.{EventRow}
use Rattle.calls.specs.declared.Answer.TheVariants.{Accepted}
use Rattle.machine.specs.Machine.{Result, refusing, making}
use Rattle.status.specs.Arrays.{Lent, arrays_after}
use Rattle.phases.specs.declared.ThreePhaseCall.{ThreePhaseCall}
use Rattle.phases.specs.declared.ThreePhaseCommand.{ThreePhaseCommand}
use Rattle.phases.specs.Calls.{ThreePhaseParsed}
use Rattle.calls.specs.declared.CommandError.TheVariants.{NoKind}
use Rattle.std.specs.Prelude.{Ok, Err}
use Rattle.phases.specs.Calls.{three_phase_call_of}
use Rattle.phases_steps.specs.declared.ThreePhaseScalars.{ThreePhaseScalars}
use Rattle.phases_steps.specs.Scalars.{three_phase_scalars}
use Rattle.phases_steps.specs.Step.{three_phase_result}
use Rattle.phases_meter.specs.declared.ThreePhaseMeter.{ThreePhaseMeter}
use Rattle.phases_meter.specs.declared.ThreePhaseOutcome.{ThreePhaseOutcome}
use Rattle.phases_meter.specs.declared.parts.ThreePhaseAnswered.{ThreePhaseAnswered}
use Rattle.phases_meter.specs.State.{three_phase_with_logs}
use Rattle.phases_meter.specs.Machine.{three_phase_refused}

-- the record of these scalars and the arrays as they were
abbrev pub three_phase_given : ThreePhaseScalars → Lent → Lent → Lent → ThreePhaseMeter
three_phase_given s counts clocks codes = three_phase_with_logs s counts.entry.now clocks.entry.now codes.entry.now

-- the outcome of what a call on a record in parts answers and these arrays
abbrev pub three_phase_outcome_of : ThreePhaseAnswered → List ℕ → List ℕ → List ℕ → ThreePhaseOutcome
three_phase_outcome_of a counts clocks codes =
    record { meter = three_phase_with_logs a.scalars counts clocks codes; answer = a.answer; letter = a.letter }

-- and the arrays as they are left
abbrev pub three_phase_handed_back : ThreePhaseAnswered → Lent → Lent → Lent → ThreePhaseOutcome
three_phase_handed_back a counts clocks codes = three_phase_outcome_of a counts.exit.now clocks.exit.now codes.exit.now

-- the record of a change's scalars and the arrays after it; refused, the record that came in
abbrev pub three_phase_left_in : ThreePhaseMeter → Result → ThreePhaseOutcome
three_phase_left_in m (refusing n) = three_phase_refused m n
three_phase_left_in m (making k) =
    let g = arrays_after m.logs k in
    record { meter = three_phase_with_logs (three_phase_scalars k.values) g.counts g.clocks g.codes; answer = Accepted; letter = k.letter }

-- a call carried out on a record in parts, whether it is sound or not; of a sound record with arrays of their types' lengths it is the machine's (see
-- Laws)
abbrev pub three_phase_in_parts : List EventRow → ThreePhaseMeter → ThreePhaseCall → ThreePhaseOutcome
three_phase_in_parts rows m c = three_phase_left_in m (three_phase_result rows m.scalars c)

-- what a command names, carried out: 'kind | 13 | ..'
abbrev pub three_phase_parsed_in_parts : List EventRow → ThreePhaseMeter → ThreePhaseParsed → ThreePhaseOutcome
three_phase_parsed_in_parts rows m (Ok c) = three_phase_in_parts rows m c
three_phase_parsed_in_parts rows m (Err NoKind) = three_phase_refused m 13

-- a command carried out on a record in parts, whether it is sound or not
unfoldable pub three_phase_command_in_parts : List EventRow → ThreePhaseMeter → ThreePhaseCommand → ThreePhaseOutcome
three_phase_command_in_parts rows m c = three_phase_parsed_in_parts rows m (three_phase_call_of c)
