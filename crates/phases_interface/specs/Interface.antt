-- The interface of the three-phase meter (document 02, A13), on numbers and bytes: for each function its answer, 'refusal or 0', and the bytes that it leaves
-- in the page. Those of a whole list are `phases_replay`'s, with a number for each answer. A call also stores the letter of its move. The definitions take
-- the event table.
use Rattle.std.specs.Prelude.{◌≡◌, List, ℕ}
use Rattle.events.specs.Table.{EventRow}
use Rattle.calls.specs.declared.Letter.{Letter}
use Rattle.calls.specs.declared.Letter.TheVariants.{None}
use Rattle.calls.specs.Calls.{answer_number, letter_byte}
use Rattle.phases.specs.declared.ThreePhaseCall.{ThreePhaseCall}
use Rattle.phases.specs.declared.ThreePhaseCommand.{ThreePhaseCommand}
use Rattle.phases.specs.Calls.{ThreePhaseParsed}
use Rattle.calls.specs.declared.CommandError.TheVariants.{NoKind}
use Rattle.std.specs.Prelude.{Ok, Err}
use Rattle.phases.specs.Calls.{three_phase_call_of}
use Rattle.phases.specs.ThreePhase.{ThreePhaseFresh}
use Rattle.phases_meter.specs.declared.ThreePhaseOutcome.{ThreePhaseOutcome}
use Rattle.phases_meter.specs.Machine.{three_phase_applied}
use Rattle.phases_meter.specs.Fresh.{three_phase_fresh_of}
use Rattle.phases_page.specs.Layout.{three_phase_write_answer, three_phase_written, three_phase_read_of}
use Rattle.replay.specs.Numbers.{number_or, if_accepted}

-- an accepted record goes to the writer: 'writer | 8 | buffer under 558 bytes', here '.. a page of 586'
unfoldable pub three_phase_kept_number : List EventRow → ThreePhaseOutcome → List ℕ → ℕ
three_phase_kept_number rows o page = number_or o.answer (answer_number (three_phase_write_answer rows o.meter page))

-- the bytes afterwards: what the writer leaves, or as they were on a refusal
unfoldable pub three_phase_kept_page : List EventRow → ThreePhaseOutcome → List ℕ → List ℕ
three_phase_kept_page rows o page = if_accepted o.answer (three_phase_written rows o.meter page) page

-- 'Fresh takes mode, threshold, Over, Under, clock', the thresholds being '.. four ..': 1, 4, 5, then the writer's
abbrev pub three_phase_fresh_number : List EventRow → List ℕ → ThreePhaseFresh → ℕ
three_phase_fresh_number rows page f = three_phase_kept_number rows (three_phase_fresh_of f) page

-- the bytes afterwards: the fresh meter's page over the page's length, or as they were on a refusal
abbrev pub three_phase_fresh_page : List EventRow → List ℕ → ThreePhaseFresh → List ℕ
three_phase_fresh_page rows page f = three_phase_kept_page rows (three_phase_fresh_of f) page

-- a call on the record of a page
abbrev pub three_phase_outcome_on : List EventRow → List ℕ → ThreePhaseCall → ThreePhaseOutcome
three_phase_outcome_on rows page c = three_phase_applied rows (three_phase_read_of rows page).meter c

-- 'kind | 13 | not 1–15; the command's reading fails before the record is touched', and of A3's kinds (document 02, A13): '.. its kinds get 13 ..': before
-- 'reader | 9 | ..', 10, 11; then the call's own
abbrev pub three_phase_performed_number : List EventRow → List ℕ → ThreePhaseParsed → ℕ
three_phase_performed_number rows page (Ok c) =
    number_or (three_phase_read_of rows page).answer (three_phase_kept_number rows (three_phase_outcome_on rows page c) page)
three_phase_performed_number rows page (Err NoKind) = 13

-- the bytes afterwards: the page of the record that the call handed back, or as they were on a refusal
abbrev pub three_phase_performed_page : List EventRow → List ℕ → ThreePhaseParsed → List ℕ
three_phase_performed_page rows page (Ok c) =
    if_accepted (three_phase_read_of rows page).answer (three_phase_kept_page rows (three_phase_outcome_on rows page c) page) page
three_phase_performed_page rows page (Err NoKind) = page

-- document 02, A2: the letter of the move that the call made; '.. none, and so does a call that is refused ..', by the reader too
abbrev pub three_phase_performed_letter : List EventRow → List ℕ → ThreePhaseParsed → Letter
three_phase_performed_letter rows page (Ok c) = if_accepted (three_phase_read_of rows page).answer (three_phase_outcome_on rows page c).letter None
three_phase_performed_letter rows page (Err NoKind) = None

-- a command on the record of a page
unfoldable pub three_phase_call_number : List EventRow → List ℕ → ThreePhaseCommand → ℕ
three_phase_call_number rows page r = three_phase_performed_number rows page (three_phase_call_of r)

-- the page that it leaves
unfoldable pub three_phase_call_page : List EventRow → List ℕ → ThreePhaseCommand → List ℕ
three_phase_call_page rows page r = three_phase_performed_page rows page (three_phase_call_of r)

-- the letter's byte
unfoldable pub three_phase_call_letter : List EventRow → List ℕ → ThreePhaseCommand → ℕ
three_phase_call_letter rows page r = letter_byte (three_phase_performed_letter rows page (three_phase_call_of r))

-- what a call answers and leaves in the page and in the byte for the letter
pub record ThreePhaseCalled (rows : List EventRow) (page : List ℕ) (r : ThreePhaseCommand) (number : ℕ) (after : List ℕ) (letter : ℕ) : Type 0 where
  pub answers : number ≡ three_phase_call_number rows page r
  pub leaves : after ≡ three_phase_call_page rows page r
  pub stores : letter ≡ three_phase_call_letter rows page r

-- 'reader | 9 | length not 558', here '.. a page of 586', '10 | a pair differs', '11 | the record would not be sound, or Exceeded above 1'
abbrev pub three_phase_check_number : List EventRow → List ℕ → ℕ
three_phase_check_number rows page = answer_number (three_phase_read_of rows page).answer
