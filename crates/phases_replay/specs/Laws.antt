-- What holds of the records of a three-phase input and of its run: what a reader wants beside the definitions.
use Rattle.std.specs.Prelude.{◌≡◌, true, List, ◌∷◌, ℕ, take, Ok}
use Rattle.base.specs.Tests.{every}
use Rattle.codec.specs.Format.{encs, AllHold}
use Rattle.codec.specs.Lawful.{Bytes, Lawful}
use Rattle.events.specs.Table.{EventRow, lawful}
use Rattle.calls.specs.declared.Answer.TheVariants.{Accepted}
use Rattle.phases.specs.declared.ThreePhaseCommand.{ThreePhaseCommand}
use Rattle.phases_meter.specs.State.{three_phase_record_of}
use Rattle.phases_meter.specs.Holding.{three_phase_holding}
use Rattle.phases_page.specs.AccountPage.{three_phase_page_length, three_phase_account_page}
use Rattle.phases_replay.specs.Input.{three_phase_record_format}
use Rattle.phases_replay.specs.Replay.{three_phase_first_in, three_phase_later_in, three_phase_start_of, three_phase_last_meter, three_phase_account_in}
use Rattle.phases_replay.specs.Replay.{three_phase_replay_answer, three_phase_replayed}

-- the page that `replay_three_phase` leaves in the buffer
abbrev pub three_phase_page_in : List EventRow → List ℕ → List ℕ → List ℕ
three_phase_page_in rows s out = take three_phase_page_length (three_phase_replayed rows s out)

-- '.. demand 3 for two lists of its own kind', of two inputs that were taken, each with its event table and its buffer
pub record ThreePhaseComparedInputs (p q : List EventRow) (s t out out' : List ℕ) : Type 0 where
  pub first_page : three_phase_page_in p s out ≡ three_phase_account_page (three_phase_account_in p s)
  pub second_page : three_phase_page_in q t out' ≡ three_phase_account_page (three_phase_account_in q t)
  pub same_account : three_phase_page_in p s out ≡ three_phase_page_in q t out' → three_phase_account_in p s ≡ three_phase_account_in q t
  pub same_page : three_phase_account_in p s ≡ three_phase_account_in q t → three_phase_page_in p s out ≡ three_phase_page_in q t out'

-- of the input's records and of its run
pub record Laws : Type 0 where
  -- a record is a byte and eight numbers of four wide, and what is written as one is read back
  pub record_width : three_phase_record_format.width ≡ 33
  pub record_lawful : Lawful three_phase_record_format
  -- an input's records are read as they were written: the first, and those after it
  pub first_read : (r : ThreePhaseCommand) (rs : List ThreePhaseCommand) → AllHold three_phase_record_format (r ∷ rs)
      → three_phase_first_in (encs three_phase_record_format (r ∷ rs)) ≡ r
  pub later_read : (r : ThreePhaseCommand) (rs : List ThreePhaseCommand) → AllHold three_phase_record_format (r ∷ rs)
      → three_phase_later_in (encs three_phase_record_format (r ∷ rs)) ≡ rs
  -- the meter that the machine reaches record by record, from an accepted fresh, holds the account of the history
  pub account_held : (rows : List EventRow) → every lawful rows ≡ true → (s : List ℕ) → Bytes s
      → (three_phase_start_of (three_phase_first_in s)).answer ≡ Accepted
      → three_phase_last_meter rows s ≡ three_phase_record_of (three_phase_holding (three_phase_account_in rows s))
  -- 'the page after the one equals the page after the other exactly when the accounts of the two histories are equal', from bytes to page
  pub compared : (p q : List EventRow) → every lawful p ≡ true → every lawful q ≡ true → (s t out out' : List ℕ) → Bytes s → Bytes t
      → three_phase_replay_answer s out ≡ Ok tt → three_phase_replay_answer t out' ≡ Ok tt → ThreePhaseComparedInputs p q s t out out'
