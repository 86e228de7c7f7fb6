-- A whole input of the three-phase meter (document 02, A13): the calls that its records name, what becomes of it, and the page of its history.
use Rattle.std.specs.Prelude.{cond, List, [], ◌∷◌, ℕ, ◌-◌, ◌*◌, ◌/◌, eqb, ltb, length}
use Rattle.codec.specs.Format.{decs}
use Rattle.events.specs.Table.{EventRow}
use Rattle.calls.specs.Calls.{signed_of}
use Rattle.phases.specs.declared.ThreePhaseCall.{ThreePhaseCall}
use Rattle.phases.specs.declared.ThreePhaseCommand.{ThreePhaseCommand}
use Rattle.phases.specs.Calls.{ThreePhaseParsed}
use Rattle.calls.specs.declared.CommandError.TheVariants.{NoKind}
use Rattle.std.specs.Prelude.{Ok, Err}
use Rattle.phases.specs.Calls.{three_phase_call_of}
use Rattle.phases.specs.ThreePhase.{ThreePhaseFresh, ThreePhaseAccount, three_phase_account}
use Rattle.phases_meter.specs.declared.ThreePhaseMeter.{ThreePhaseMeter}
use Rattle.phases_meter.specs.declared.ThreePhaseOutcome.{ThreePhaseOutcome}
use Rattle.phases_meter.specs.Machine.{three_phase_record_after}
use Rattle.phases_meter.specs.Settings.{three_phase_settings_of, three_phase_fresh_answer}
use Rattle.phases_meter.specs.Fresh.{three_phase_fresh_of}
use Rattle.phases_page.specs.AccountPage.{three_phase_page_length, three_phase_account_page}
use Rattle.replay.specs.declared.ReplayError.TheVariants.{Empty, Bad, Short}
use Rattle.replay.specs.Replay.{Replayed, unless_refused, end_of, buffer_after}
use Rattle.phases_replay.specs.Input.{three_phase_record_format}

-- ---- the records of an input

-- 'records of 21 bytes', here with three more numbers
abbrev pub three_phase_record_length : ℕ
three_phase_record_length = three_phase_record_format.width

-- 'The first ..'
abbrev pub three_phase_first_in : List ℕ → ThreePhaseCommand
three_phase_first_in s = three_phase_record_format.dec s 0

-- the whole records from number i on, counted from 0, in order
abbrev pub three_phase_records_from : ℕ → List ℕ → List ThreePhaseCommand
three_phase_records_from i s = decs three_phase_record_format (length s / three_phase_record_length - i) s (i * three_phase_record_length)

-- those after the first
abbrev pub three_phase_later_in : List ℕ → List ThreePhaseCommand
three_phase_later_in s = three_phase_records_from 1 s

-- 'Fresh takes mode, threshold, Over, Under, clock', the thresholds being '.. four ..', '.. each phase and their exact sum, .. in that order ..'; 'a sample
-- or threshold is two's complement'
abbrev pub three_phase_settings_in : ThreePhaseCommand → ThreePhaseFresh
three_phase_settings_in r =
    three_phase_settings_of r.n1 (signed_of r.n2) (signed_of r.n3) (signed_of r.n4) (signed_of r.n5) r.n6 r.n7 r.n8

-- 'kind | 13 | not 1–15; the command's reading fails before the record is touched', and of A3's kinds (document 02, A13): '.. its kinds get 13 ..': such a
-- record adds no call
abbrev pub three_phase_with_call : ThreePhaseParsed → List ThreePhaseCall → List ThreePhaseCall
three_phase_with_call (Ok c) cs = c ∷ cs
three_phase_with_call (Err NoKind) cs = cs

-- the calls that records name, in order
unfoldable pub three_phase_calls_in : List ThreePhaseCommand → List ThreePhaseCall
three_phase_calls_in [] = []
three_phase_calls_in (r ∷ rs) = three_phase_with_call (three_phase_call_of r) (three_phase_calls_in rs)

-- ---- the records, one by one, by an event table

-- 'The first has kind 0 and is fresh': what it makes, if it has kind 0
abbrev pub three_phase_start_of : ThreePhaseCommand → ThreePhaseOutcome
three_phase_start_of r = three_phase_fresh_of (three_phase_settings_in r)

-- the meter after some records: the machine's, after the calls that they name
abbrev pub three_phase_meter_after : List EventRow → ThreePhaseMeter → List ThreePhaseCommand → ThreePhaseMeter
three_phase_meter_after rows m rs = three_phase_record_after rows m (three_phase_calls_in rs)

-- the meter after the last record, by the machine
abbrev pub three_phase_last_meter : List EventRow → List ℕ → ThreePhaseMeter
three_phase_last_meter rows s = three_phase_meter_after rows (three_phase_start_of (three_phase_first_in s)).meter (three_phase_later_in s)

-- ---- the whole input

-- 'Drawn from the list and its fresh settings without running the machine': the account of the input's history
unfoldable pub three_phase_account_in : List EventRow → List ℕ → ThreePhaseAccount
three_phase_account_in rows s = three_phase_account rows (three_phase_settings_in (three_phase_first_in s)) (three_phase_calls_in (three_phase_later_in s))

-- in the order of the one-phase meter's replay: 'Empty input writes nothing'; 'a cut record, the first too, writes `short`'; 'kind 0 .., else one line
-- `bad`'; 'A refused fresh ends the run'; then a cut record, then 8 for a buffer under '.. a page of 586'
unfoldable pub three_phase_replay_answer : List ℕ → List ℕ → Replayed
three_phase_replay_answer s out =
    let first = three_phase_first_in s in
    let w = three_phase_record_length in
    cond (eqb (length s) 0) (Err Empty)
    (cond (ltb (length s) w) (Err Short)
    (cond (eqb first.kind 0) (unless_refused (three_phase_fresh_answer (three_phase_settings_in first)) (end_of w three_phase_page_length s out)) (Err Bad)))

-- 'Each page holds its own account, byte for byte by the layout'; the bytes past the page stay, and every byte where the input is not taken
unfoldable pub three_phase_replayed : List EventRow → List ℕ → List ℕ → List ℕ
three_phase_replayed rows s out =
    buffer_after three_phase_page_length (three_phase_replay_answer s out) (three_phase_account_page (three_phase_account_in rows s)) out
