-- The machine on the meter's record: the calls of document 01's meter, one behind the other.
use Rattle.std.specs.Prelude.{ℕ, cond, List, [], ◌∷◌}
use Rattle.events.specs.Table.{EventRow}
use Rattle.calls.specs.declared.Call.{Call}
use Rattle.calls.specs.declared.Answer.TheVariants.{Accepted, Refused}
use Rattle.calls.specs.declared.Letter.TheVariants.{None}
use Rattle.calls.specs.declared.Command.{Command}
use Rattle.calls.specs.Calls.{Parsed}
use Rattle.calls.specs.declared.CommandError.TheVariants.{NoKind}
use Rattle.std.specs.Prelude.{Ok, Err}
use Rattle.calls.specs.Calls.{call_of}
use Rattle.machine.specs.Machine.{Result, refusing, making, state_after}
use Rattle.steps.specs.Step.{result_of}
use Rattle.meter.specs.declared.Meter.{Meter}
use Rattle.meter.specs.declared.Outcome.{Outcome}
use Rattle.meter.specs.State.{state_of, scalars_of, record_of}
use Rattle.meter.specs.Sound.{sound_meter}

-- refused: 'the record comes back unchanged' (demand 1), and no letter
abbrev pub refused_with : Meter → ℕ → Outcome
refused_with m n = record { meter = m; answer = Refused n; letter = None }

-- what a call makes of a sound record; document 02, A2: '.. every call hands the letter on beside its answer'
abbrev pub carried_out : Meter → Result → Outcome
carried_out m (refusing n) = refused_with m n
carried_out m (making k) = record { meter = record_of (state_after (state_of m) k); answer = Accepted; letter = k.letter }

-- a call on a record: 'record | 12 | not sound; every call', which comes back as it was
unfoldable pub applied : List EventRow → Meter → Call → Outcome
applied rows m c = cond (sound_meter rows m) (carried_out m (result_of rows (scalars_of m) c)) (refused_with m 12)

-- 'kind | 13 | ..; the command's reading fails before the record is touched'; document 02, A3: 'Refusal 13 now means not 1–17 ..'
abbrev pub performed : List EventRow → Meter → Parsed → Outcome
performed rows m (Ok c) = applied rows m c
performed rows m (Err NoKind) = refused_with m 13

-- a command on a record
unfoldable pub commanded : List EventRow → Meter → Command → Outcome
commanded rows m c = performed rows m (call_of c)

-- 'Its first call gets the fresh meter, each next one the record that the call before handed back, accepted or refused': the record after calls, in
-- their order
unfoldable pub record_after : List EventRow → Meter → List Call → Meter
record_after rows m [] = m
record_after rows m (c ∷ cs) = record_after rows (applied rows m c).meter cs
