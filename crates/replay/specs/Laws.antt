-- What holds of the input's records, of its run and of the listing's lines: what a reader wants beside the definitions.
use Rattle.std.specs.Prelude.{◌≡◌, true, List, [], ◌∷◌, ◌++◌, ℕ, ◌/◌, ◌%◌, ◌^◌, ◌<◌, ◌≤◌, length, take, drop, get_or, Ok}
use Rattle.base.specs.Tests.{every}
use Rattle.codec.specs.Format.{encs, AllHold}
use Rattle.codec.specs.Lawful.{Bytes, Lawful}
use Rattle.events.specs.Table.{EventRow, lawful}
use Rattle.calls.specs.declared.Answer.TheVariants.{Accepted}
use Rattle.calls.specs.declared.Command.{Command}
use Rattle.history.specs.RemoteDisconnect.{HoldsOnePhase}
use Rattle.meter.specs.State.{record_of}
use Rattle.meter.specs.Holding.{holding}
use Rattle.page.specs.AccountPage.{page_length, account_page}
use Rattle.replay.specs.Input.{record_format}
use Rattle.replay.specs.Replay.{first_in, later_in, settings_in, calls_in, start_of, last_meter, account_in, replay_answer, replayed}
use Rattle.replay.specs.Listing.{digit_byte, decimal, value_behind, line_bytes, at_end}

-- the page that `replay` leaves in the buffer
abbrev pub page_in : List EventRow → List ℕ → List ℕ → List ℕ
page_in rows s out = take page_length (replayed rows s out)

-- demand 3 of two inputs that `replay` took, each with its event table and its buffer
pub record ComparedInputs (p q : List EventRow) (s t out out' : List ℕ) : Type 0 where
  pub first_page : page_in p s out ≡ account_page (account_in p s)
  pub second_page : page_in q t out' ≡ account_page (account_in q t)
  pub same_account : page_in p s out ≡ page_in q t out' → account_in p s ≡ account_in q t
  pub same_page : account_in p s ≡ account_in q t → page_in p s out ≡ page_in q t out'

-- the switch that a page says: 'mode 1 byte, switch 1' in its first area, at 36
abbrev pub switch_in : List ℕ → ℕ
switch_in page = get_or page 37 0

-- of the input's records, of its run, and of the listing's digits and lines
pub record Laws : Type 0 where
  -- a record is 21 bytes wide, and what is written as one is read back
  pub record_width : record_format.width ≡ 21
  pub record_lawful : Lawful record_format
  -- an input's records are read as they were written: the first, and those after it
  pub first_read : (r : Command) (rs : List Command) → AllHold record_format (r ∷ rs) → first_in (encs record_format (r ∷ rs)) ≡ r
  pub later_read : (r : Command) (rs : List Command) → AllHold record_format (r ∷ rs) → later_in (encs record_format (r ∷ rs)) ≡ rs
  -- the meter that the machine reaches record by record, from an accepted fresh, holds the account of the history
  pub account_held : (rows : List EventRow) → every lawful rows ≡ true → (s : List ℕ) → Bytes s → (start_of (first_in s)).answer ≡ Accepted
      → last_meter rows s ≡ record_of (holding (account_in rows s))
  -- 'the page after the one equals the page after the other exactly when the accounts of the two histories are equal', from bytes to page
  pub compared : (p q : List EventRow) → every lawful p ≡ true → every lawful q ≡ true → (s t out out' : List ℕ) → Bytes s → Bytes t
      → replay_answer s out ≡ Ok tt → replay_answer t out' ≡ Ok tt → ComparedInputs p q s t out out'
  -- document 02, A7, of the page that `replay` wrote: '.. supply is on at the end ..' where it says Connected
  pub disconnect_holds : (rows : List EventRow) → every lawful rows ≡ true → (s out : List ℕ) → Bytes s → replay_answer s out ≡ Ok tt
      → HoldsOnePhase (0 ∷ 2 ∷ 4 ∷ []) rows (settings_in (first_in s)) (calls_in (later_in s)) (switch_in (page_in rows s out))
  -- the digits of a number: itself below ten; else those of its quotient by ten, and the remainder's behind them
  pub one_digit : (n : ℕ) → n < 10 → decimal n ≡ digit_byte n ∷ []
  pub more_digits : (n : ℕ) → 10 ≤ n → decimal n ≡ decimal (n / 10) ++ (digit_byte (n % 10) ∷ [])
  -- a number is the value of its digits
  pub decimal_value : (n : ℕ) → value_behind 0 (decimal n) ≡ n
  -- the bytes of a line, from its start on, are all of it; and 40 places hold any line
  pub line_shown : (xs : List ℕ) → drop (at_end xs).start (at_end xs).bytes ≡ xs
  pub line_fits : (position refusal switch openings : ℕ) → position < 2 ^ 64 → refusal < 2 ^ 8 → switch < 2 ^ 8 → openings < 2 ^ 32
      → length (line_bytes position refusal switch openings) ≤ 40
