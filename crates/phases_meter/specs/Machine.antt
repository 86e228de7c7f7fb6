-- The machine on the three-phase meter's record: its calls, one behind the other.
use Rattle.std.specs.Prelude.{ℕ, cond, List, [], ◌∷◌}
use Rattle.events.specs.Table.{EventRow}
use Rattle.calls.specs.declared.Answer.TheVariants.{Accepted, Refused}
use Rattle.calls.specs.declared.Letter.TheVariants.{None}
use Rattle.machine.specs.Machine.{Result, refusing, making, state_after}
use Rattle.phases.specs.declared.ThreePhaseCall.{ThreePhaseCall}
use Rattle.phases.specs.declared.ThreePhaseCommand.{ThreePhaseCommand}
use Rattle.phases.specs.Calls.{ThreePhaseParsed}
use Rattle.calls.specs.declared.CommandError.TheVariants.{NoKind}
use Rattle.std.specs.Prelude.{Ok, Err}
use Rattle.phases.specs.Calls.{three_phase_call_of}
use Rattle.phases_steps.specs.Step.{three_phase_result}
use Rattle.phases_meter.specs.declared.ThreePhaseMeter.{ThreePhaseMeter}
use Rattle.phases_meter.specs.declared.ThreePhaseOutcome.{ThreePhaseOutcome}
use Rattle.phases_meter.specs.State.{three_phase_state_of, three_phase_record_of, sound_three_phase_meter}

-- refused: 'the record comes back unchanged' (demand 1), and no letter
abbrev pub three_phase_refused : ThreePhaseMeter → ℕ → ThreePhaseOutcome
three_phase_refused m n = record { meter = m; answer = Refused n; letter = None }

-- what a call makes of a sound record; document 02, A2: '.. every call hands the letter on beside its answer'
abbrev pub three_phase_carried_out : ThreePhaseMeter → Result → ThreePhaseOutcome
three_phase_carried_out m (refusing n) = three_phase_refused m n
three_phase_carried_out m (making k) =
    record { meter = three_phase_record_of (state_after (three_phase_state_of m) k); answer = Accepted; letter = k.letter }

-- a call on a record: 'record | 12 | not sound; every call', which comes back as it was
unfoldable pub three_phase_applied : List EventRow → ThreePhaseMeter → ThreePhaseCall → ThreePhaseOutcome
three_phase_applied rows m c =
    cond (sound_three_phase_meter rows m) (three_phase_carried_out m (three_phase_result rows m.scalars c)) (three_phase_refused m 12)

-- 'kind | 13 | ..; the command's reading fails before the record is touched'; of A3's kinds (document 02, A13): '.. its kinds get 13 ..'
abbrev pub three_phase_performed : List EventRow → ThreePhaseMeter → ThreePhaseParsed → ThreePhaseOutcome
three_phase_performed rows m (Ok c) = three_phase_applied rows m c
three_phase_performed rows m (Err NoKind) = three_phase_refused m 13

-- a command on a record
unfoldable pub three_phase_commanded : List EventRow → ThreePhaseMeter → ThreePhaseCommand → ThreePhaseOutcome
three_phase_commanded rows m c = three_phase_performed rows m (three_phase_call_of c)

-- 'Its first call gets the fresh meter, each next one the record that the call before handed back, accepted or refused': the record after calls, in
-- their order
unfoldable pub three_phase_record_after : List EventRow → ThreePhaseMeter → List ThreePhaseCall → ThreePhaseMeter
three_phase_record_after rows m [] = m
three_phase_record_after rows m (c ∷ cs) = three_phase_record_after rows (three_phase_applied rows m c).meter cs
