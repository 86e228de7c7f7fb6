-- The machine as the code does it, on a record in parts: the scalars by value, the arrays of the logs as they stand, of any length and any content.
use Rattle.std.specs.Prelude.{ℕ, List}
use Rattle.events.specs.Table.{EventRow}
use Rattle.calls.specs.declared.Call.{Call}
use Rattle.calls.specs.declared.Answer.TheVariants.{Accepted}
use Rattle.calls.specs.declared.Command.{Command}
use Rattle.calls.specs.Calls.{Parsed}
use Rattle.calls.specs.declared.CommandError.TheVariants.{NoKind}
use Rattle.std.specs.Prelude.{Ok, Err}
use Rattle.calls.specs.Calls.{call_of}
use Rattle.machine.specs.Machine.{Result, refusing, making}
use Rattle.status.specs.Arrays.{Lent, arrays_after}
use Rattle.steps.specs.declared.Scalars.{Scalars}
use Rattle.steps.specs.Scalars.{scalars_from}
use Rattle.steps.specs.Step.{result_of}
use Rattle.meter.specs.declared.Meter.{Meter}
use Rattle.meter.specs.declared.Outcome.{Outcome}
use Rattle.meter.specs.declared.parts.Answered.{Answered}
use Rattle.meter.specs.State.{scalars_of, with_logs}
use Rattle.meter.specs.Machine.{refused_with}

-- the record of these scalars and the arrays as they were
abbrev pub record_given : Scalars → Lent → Lent → Lent → Meter
record_given s counts clocks codes = with_logs s counts.entry.now clocks.entry.now codes.entry.now

-- the outcome of what a call on a record in parts answers and these arrays
abbrev pub outcome_of : Answered → List ℕ → List ℕ → List ℕ → Outcome
outcome_of a counts clocks codes = record { meter = with_logs a.scalars counts clocks codes; answer = a.answer; letter = a.letter }

-- and the arrays as they are left
abbrev pub handed_back : Answered → Lent → Lent → Lent → Outcome
handed_back a counts clocks codes = outcome_of a counts.exit.now clocks.exit.now codes.exit.now

-- the record of a change's scalars and the arrays after it; refused, the record that came in
abbrev pub left_in : Meter → Result → Outcome
left_in m (refusing n) = refused_with m n
left_in m (making k) =
    let g = arrays_after m.logs k in
    record { meter = with_logs (scalars_from k.values) g.counts g.clocks g.codes; answer = Accepted; letter = k.letter }

-- a call carried out on a record in parts, whether it is sound or not; of a sound record with arrays of their types' lengths it is the machine's (see
-- Laws)
abbrev pub carried_out_in_parts : List EventRow → Meter → Call → Outcome
carried_out_in_parts rows m c = left_in m (result_of rows (scalars_of m) c)

-- what a command names, carried out: 'kind | 13 | ..'
abbrev pub performed_in_parts : List EventRow → Meter → Parsed → Outcome
performed_in_parts rows m (Ok c) = carried_out_in_parts rows m c
performed_in_parts rows m (Err NoKind) = refused_with m 13

-- a command carried out on a record in parts, whether it is sound or not
unfoldable pub commanded_in_parts : List EventRow → Meter → Command → Outcome
commanded_in_parts rows m c = performed_in_parts rows m (call_of c)
