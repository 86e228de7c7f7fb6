-- Many rounds of the same work on the meter of one page, by an event table, as a benchmark runs them.
use Rattle.std.specs.Prelude.{Bool, cond, List, ℕ, zero, suc, ◌+◌, ◌%◌, eqb, ltb, length, set}
use Rattle.events.specs.Table.{EventRow}
use Rattle.calls.specs.declared.Answer.{Answer}
use Rattle.calls.specs.declared.Answer.TheVariants.{Accepted, Refused}
use Rattle.calls.specs.declared.Command.{Command}
use Rattle.calls.specs.Calls.{answer_number}
use Rattle.meter.specs.declared.Meter.{Meter}
use Rattle.meter.specs.Sound.{sound_meter}
use Rattle.page.specs.Layout.{write_answer, written, read_of}
use Rattle.replay.specs.Replay.{records_from, meter_after}

-- ---- rounds of calls

-- the meter after n rounds of all the records
unfoldable pub rounds_from : List EventRow → ℕ → Meter → List Command → Meter
rounds_from rows zero m rs = m
rounds_from rows (suc n) m rs = rounds_from rows n (meter_after rows m rs) rs

-- the reader's refusal, else the number of what the writer answers to the meter m
abbrev pub answer_behind : List EventRow → Answer → Meter → List ℕ → ℕ
answer_behind rows Accepted m page = answer_number (write_answer rows m page)
answer_behind rows (Refused n) m page = n

-- what the writer leaves; a refusal of the reader leaves every byte
abbrev pub page_behind : List EventRow → Answer → Meter → List ℕ → List ℕ
page_behind rows Accepted m page = written rows m page
page_behind rows (Refused n) m page = page

-- n rounds on the meter of a page: the answer
unfoldable pub calls_answer : List EventRow → List ℕ → List ℕ → ℕ → ℕ
calls_answer rows page s n = answer_behind rows (read_of rows page).answer (rounds_from rows n (read_of rows page).meter (records_from 0 s)) page

-- and the page
unfoldable pub calls_page : List EventRow → List ℕ → List ℕ → ℕ → List ℕ
calls_page rows page s n = page_behind rows (read_of rows page).answer (rounds_from rows n (read_of rows page).meter (records_from 0 s)) page

-- ---- rounds of one function

-- how many of the first n rounds pass a test
unfoldable pub passing : ℕ → (ℕ → Bool) → ℕ
passing zero test = 0
passing (suc n) test = passing n test + cond (test n) 1 0

-- an answer whose number is 0
abbrev pub is_accepted : Answer → Bool
is_accepted a = eqb (answer_number a) 0

-- a meter in round i: its clock is the round
abbrev pub in_round : Meter → ℕ → Meter
in_round m i =
    record {
      control = m.control;
      limiter = m.limiter;
      clock = i;
      alarms = m.alarms;
      errors = m.errors;
      logs = m.logs;
      emergency = m.emergency;
    }

-- the soundness test: how often the meter of a page is sound
abbrev pub sound_rounds : List EventRow → List ℕ → ℕ → ℕ
sound_rounds rows page n = passing n (λ i. sound_meter rows (in_round (read_of rows page).meter i))

-- the writer, each time into the bytes that it left, of whose length alone it asks: how often it accepts the meter of a page
abbrev pub write_rounds : List EventRow → List ℕ → ℕ → ℕ
write_rounds rows page n = passing n (λ i. is_accepted (write_answer rows (in_round (read_of rows page).meter i) page))

-- and those bytes
unfoldable pub written_rounds : List EventRow → Meter → List ℕ → ℕ → List ℕ
written_rounds rows m page zero = page
written_rounds rows m page (suc n) = written rows (in_round m n) (written_rounds rows m page n)

-- a page in round i: the last byte of its clock, if there is one, is the round
abbrev pub page_in_round : List ℕ → ℕ → List ℕ
page_in_round page i = cond (ltb 62 (length page)) (set page 62 (i % 256)) page

-- the reader: how often it accepts the page
abbrev pub read_rounds : List EventRow → List ℕ → ℕ → ℕ
read_rounds rows page n = passing n (λ i. is_accepted (read_of rows (page_in_round page i)).answer)

-- and the page after the last round
unfoldable pub page_after_rounds : List ℕ → ℕ → List ℕ
page_after_rounds page zero = page
page_after_rounds page (suc n) = page_in_round page n
