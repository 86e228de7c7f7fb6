-- A request on the meter of a page, from C (document 02, A9): its answer, the bytes that it leaves in the page and in the answer buffer, the length of the
-- response and the letter of a move that it stores.
use Rattle.std.specs.Prelude.{◌≡◌, cond, List, ℕ, ltb, length}
use Rattle.events.specs.Table.{EventRow}
use Rattle.calls.specs.declared.Answer.{Answer}
use Rattle.calls.specs.declared.Answer.TheVariants.{Accepted, Refused}
use Rattle.calls.specs.Calls.{answer_number, letter_byte}
use Rattle.meter.specs.declared.Meter.{Meter}
use Rattle.page.specs.Layout.{write_answer, written, read_of}
use Rattle.server.specs.Service.{Service, refused_with, service_sound, filled_by}
use Rattle.replay.specs.Numbers.{number_or}

-- a page that the reader refuses: its number, and nothing else
abbrev pub read_first : Answer → Meter → Service → Service
read_first Accepted m v = v
read_first (Refused n) m v = refused_with m n

-- '21, answer buffer under 32 bytes; the order is 21, 12, 20', with the reader's 9, 10 and 11 in the place of 12: a record that is read is sound
unfoldable pub service_on : List EventRow → List ℕ → List ℕ → List ℕ → Service
service_on rows page s buffer =
    let m = (read_of rows page).meter in
    cond (ltb (length buffer) 32) (refused_with m 21) (read_first (read_of rows page).answer m (service_sound rows m s buffer))

-- 0, or the number of the refusal; a call that was carried out goes to the writer
unfoldable pub request_number : List EventRow → List ℕ → List ℕ → List ℕ → ℕ
request_number rows page s buffer =
    let v = service_on rows page s buffer in
    number_or v.answer (cond v.carried (answer_number (write_answer rows v.meter page)) 0)

-- the page afterwards: 'a GET and any other answer change nothing'
unfoldable pub request_page : List EventRow → List ℕ → List ℕ → List ℕ → List ℕ
request_page rows page s buffer =
    let v = service_on rows page s buffer in
    cond v.carried (written rows v.meter page) page

-- the buffer afterwards: 'answer-buffer bytes past the answer stay'
unfoldable pub request_buffer : List EventRow → List ℕ → List ℕ → List ℕ → List ℕ
request_buffer rows page s buffer = filled_by (service_on rows page s buffer) buffer

-- the length of the response, 0 where there is none
unfoldable pub request_length : List EventRow → List ℕ → List ℕ → List ℕ → ℕ
request_length rows page s buffer = length (service_on rows page s buffer).bytes

-- the letter's byte, 0 for none
unfoldable pub request_letter : List EventRow → List ℕ → List ℕ → List ℕ → ℕ
request_letter rows page s buffer = letter_byte (service_on rows page s buffer).letter

-- what a request answers and leaves
pub record Requested (rows : List EventRow) (page s buffer : List ℕ) (number : ℕ) (after response : List ℕ) (size letter : ℕ) : Type 0 where
  pub answers : number ≡ request_number rows page s buffer
  pub leaves : after ≡ request_page rows page s buffer
  pub responds : response ≡ request_buffer rows page s buffer
  pub measures : size ≡ request_length rows page s buffer
  pub stores : letter ≡ request_letter rows page s buffer
