-- The C interface: for each function its answer, 'refusal or 0', and the bytes that it leaves in the page. Those of a whole list are `replay`'s, with a
-- number for each answer. A call also stores the letter of its move. The definitions take the event table.
use Rattle.std.specs.Prelude.{◌≡◌, List, ℕ}
use Rattle.events.specs.Table.{EventRow}
use Rattle.calls.specs.declared.Call.{Call}
use Rattle.calls.specs.declared.Letter.{Letter}
use Rattle.calls.specs.declared.Letter.TheVariants.{None}
use Rattle.calls.specs.declared.Command.{Command}
use Rattle.calls.specs.Calls.{Parsed}
use Rattle.calls.specs.declared.CommandError.TheVariants.{NoKind}
use Rattle.std.specs.Prelude.{Ok, Err}
use Rattle.calls.specs.Calls.{answer_number, letter_byte, call_of}
use Rattle.history.specs.OnePhase.{Fresh}
use Rattle.meter.specs.declared.Outcome.{Outcome}
use Rattle.meter.specs.Machine.{applied}
use Rattle.meter.specs.Fresh.{fresh_of}
use Rattle.page.specs.Layout.{write_answer, written, read_of}
use Rattle.replay.specs.Numbers.{number_or, if_accepted}

-- an accepted record goes to the writer: 'writer | 8 | buffer under 558 bytes', now the page's length
unfoldable pub kept_number : List EventRow → Outcome → List ℕ → ℕ
kept_number rows o page = number_or o.answer (answer_number (write_answer rows o.meter page))

-- the bytes afterwards: what the writer leaves, or as they were on a refusal
unfoldable pub kept_page : List EventRow → Outcome → List ℕ → List ℕ
kept_page rows o page = if_accepted o.answer (written rows o.meter page) page

-- 'Fresh takes mode, threshold, Over, Under, clock': 1, 4, 5, then the writer's
abbrev pub fresh_number : List EventRow → List ℕ → Fresh → ℕ
fresh_number rows page f = kept_number rows (fresh_of f) page

-- the bytes afterwards: the fresh meter's page over the page's length, or as they were on a refusal
abbrev pub fresh_page : List EventRow → List ℕ → Fresh → List ℕ
fresh_page rows page f = kept_page rows (fresh_of f) page

-- a call on the record of a page
abbrev pub outcome_on : List EventRow → List ℕ → Call → Outcome
outcome_on rows page c = applied rows (read_of rows page).meter c

-- 'kind | 13 | ..; the command's reading fails before the record is touched', and document 02, A3: 'Refusal 13 now means not 1–17': before
-- 'reader | 9 | ..', 10, 11; then the call's own
abbrev pub performed_number : List EventRow → List ℕ → Parsed → ℕ
performed_number rows page (Ok c) = number_or (read_of rows page).answer (kept_number rows (outcome_on rows page c) page)
performed_number rows page (Err NoKind) = 13

-- the bytes afterwards: the page of the record that the call handed back, or as they were on a refusal
abbrev pub performed_page : List EventRow → List ℕ → Parsed → List ℕ
performed_page rows page (Ok c) = if_accepted (read_of rows page).answer (kept_page rows (outcome_on rows page c) page) page
performed_page rows page (Err NoKind) = page

-- document 02, A2: the letter of the move that the call made; '.. none, and so does a call that is refused ..', by the reader too
abbrev pub performed_letter : List EventRow → List ℕ → Parsed → Letter
performed_letter rows page (Ok c) = if_accepted (read_of rows page).answer (outcome_on rows page c).letter None
performed_letter rows page (Err NoKind) = None

-- a command on the record of a page
unfoldable pub call_number : List EventRow → List ℕ → Command → ℕ
call_number rows page r = performed_number rows page (call_of r)

-- the page that it leaves
unfoldable pub call_page : List EventRow → List ℕ → Command → List ℕ
call_page rows page r = performed_page rows page (call_of r)

-- the letter's byte
unfoldable pub call_letter : List EventRow → List ℕ → Command → ℕ
call_letter rows page r = letter_byte (performed_letter rows page (call_of r))

-- what a call answers and leaves in the page and in the byte for the letter
pub record Called (rows : List EventRow) (page : List ℕ) (r : Command) (number : ℕ) (after : List ℕ) (letter : ℕ) : Type 0 where
  pub answers : number ≡ call_number rows page r
  pub leaves : after ≡ call_page rows page r
  pub stores : letter ≡ call_letter rows page r

-- 'reader | 9 | length not 558', now the page's length, '10 | a pair differs', '11 | the record would not be sound, or Exceeded above 1'
abbrev pub check_number : List EventRow → List ℕ → ℕ
check_number rows page = answer_number (read_of rows page).answer
