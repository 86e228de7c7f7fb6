-- What the three-phase meter's page is for: a record comes back from its page, and a page from its record.
use Rattle.std.specs.Prelude.{◌≡◌, true, List, [], ◌∷◌, ℕ, ◌<◌, ◌≤◌, length, take, drop, get_or}
use Rattle.codec.specs.Lawful.{Bytes}
use Rattle.events.specs.Table.{EventRow}
use Rattle.logs.specs.Layout.{Sized}
use Rattle.calls.specs.declared.Answer.TheVariants.{Accepted, Refused}
use Rattle.calls.specs.Calls.{Word}
use Rattle.phases_meter.specs.declared.ThreePhaseMeter.{ThreePhaseMeter}
use Rattle.phases_meter.specs.declared.ThreePhaseOutcome.{ThreePhaseOutcome}
use Rattle.phases_meter.specs.State.{sound_three_phase_meter}
use Rattle.phases_meter.specs.Fresh.{three_phase_least_meter}
use Rattle.phases_page.specs.Layout.{three_phase_pairs, three_phase_size, three_phase_page_of, three_phase_write_answer, three_phase_written}
use Rattle.phases_page.specs.Layout.{three_phase_accepted_outcome, three_phase_read_of}

-- the numbers that soundness leaves free are values of their types, and the arrays have their types' lengths
pub record ThreePhaseTyped (m : ThreePhaseMeter) : Type 0 where
  pub openings : Word m.scalars.status.control.openings
  pub clock : Word m.scalars.status.clock
  pub alarms : Word m.scalars.status.alarms.register.bits
  pub alarm_filter : Word m.scalars.status.alarms.register.filter
  pub errors : Word m.scalars.status.errors.bits
  pub error_filter : Word m.scalars.status.errors.filter
  pub logs : Sized m.logs
  pub counts : (i : ℕ) → get_or m.logs.counts i 0 < 256
  pub clocks : (i : ℕ) → Word (get_or m.logs.clocks i 0)
  pub codes : (i : ℕ) → get_or m.logs.codes i 0 < 256

-- what holds of writer and reader with an event table, whatever its rows
pub record LawsOf (rows : List EventRow) : Type 0 where
  -- an accepted writer puts the page into the buffer's first bytes; a refused one leaves every byte
  pub accepted_page : (m : ThreePhaseMeter) (out : List ℕ) → three_phase_write_answer rows m out ≡ Accepted
      → take three_phase_size (three_phase_written rows m out) ≡ three_phase_page_of m
  pub refused_same : (m : ThreePhaseMeter) (out : List ℕ) (n : ℕ) → three_phase_write_answer rows m out ≡ Refused n → three_phase_written rows m out ≡ out
  -- 'The writer leaves bytes past 558', here past this page's length
  pub bytes_behind : (m : ThreePhaseMeter) (out : List ℕ) → drop three_phase_size (three_phase_written rows m out) ≡ drop three_phase_size out
  -- 'reading a written page restores the record': of every record that the writer accepts
  pub read_written : (m : ThreePhaseMeter) (out : List ℕ) → ThreePhaseTyped m → three_phase_write_answer rows m out ≡ Accepted
      → three_phase_read_of rows (take three_phase_size (three_phase_written rows m out)) ≡ three_phase_accepted_outcome m
  -- 'writing an accepted page gives its bytes back': the writer accepts what the reader did
  pub write_accepted : (s out : List ℕ) → three_phase_size ≤ length out → (three_phase_read_of rows s).answer ≡ Accepted
      → three_phase_write_answer rows (three_phase_read_of rows s).meter out ≡ Accepted
  pub written_read : (s out : List ℕ) → Bytes s → three_phase_size ≤ length out → (three_phase_read_of rows s).answer ≡ Accepted
      → take three_phase_size (three_phase_written rows (three_phase_read_of rows s).meter out) ≡ s
  -- 'A refused .. reader returns the meter of mode 0, threshold 0, durations 1, clock 0', whatever the bytes
  pub refused_read : (s : List ℕ) (n : ℕ) → (three_phase_read_of rows s).answer ≡ Refused n → (three_phase_read_of rows s).meter ≡ three_phase_least_meter
  -- an accepted record is sound
  pub accepted_sound : (s : List ℕ) → (three_phase_read_of rows s).answer ≡ Accepted
      → sound_three_phase_meter rows (three_phase_read_of rows s).meter ≡ true

-- 'The page is written by its layout; reading a written page restores the record, and writing an accepted page gives its bytes back.'
pub record Laws : Type 0 where
  -- 'First eight pairs of offset and length (16 bits each), sorted by offset ..'; document 02, A13: 'The limiter area is .. 44 bytes, in a page of 586'; A6:
  -- 'one byte at the end of the alarms area'
  pub document_pairs : three_phase_pairs ≡ (32, 6) ∷ (38, 44) ∷ (82, 4) ∷ (86, 9) ∷ (95, 8) ∷ (103, 161) ∷ (264, 161) ∷ (425, 161) ∷ []
  pub document_size : three_phase_size ≡ 586
  -- the page of a record is that long
  pub page_length_lem : (m : ThreePhaseMeter) → length (three_phase_page_of m) ≡ three_phase_size
  -- two sound records with one page are one record, each sound by its own event table
  pub injective : (rows rows' : List EventRow) (m n : ThreePhaseMeter) → ThreePhaseTyped m → ThreePhaseTyped n
      → sound_three_phase_meter rows m ≡ true → sound_three_phase_meter rows' n ≡ true → three_phase_page_of m ≡ three_phase_page_of n → m ≡ n
  pub by_table : (rows : List EventRow) → LawsOf rows

-- a record that was accepted from a page is one that the writer accepts, and writes as that page
abbrev pub ThreePhaseWrittenBack : List EventRow → ThreePhaseOutcome → List ℕ → Type 0
ThreePhaseWrittenBack rows o s =
    o.answer ≡ Accepted → (out : List ℕ) → three_phase_size ≤ length out
    → (three_phase_write_answer rows o.meter out ≡ Accepted) × (take three_phase_size (three_phase_written rows o.meter out) ≡ s)
