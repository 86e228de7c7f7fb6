-- What bytes come to on a record, with a buffer for the response (document 02, A9): '20, bytes that are no whole such request; 21, answer buffer under 32 bytes; the
-- order is 21, 12, 20.'
use Rattle.std.specs.Prelude.{Bool, false, cond, List, [], ◌++◌, ℕ, ltb, length, drop, Ok, Err}
use Rattle.events.specs.Table.{EventRow}
use Rattle.calls.specs.declared.Answer.{Answer}
use Rattle.calls.specs.declared.Answer.TheVariants.{Accepted, Refused}
use Rattle.calls.specs.declared.Letter.{Letter}
use Rattle.calls.specs.declared.Letter.TheVariants.{None as NoLetter}
use Rattle.requests.specs.Requests.{Parsed, request_in}
use Rattle.responses.specs.Responses.{response_bytes}
use Rattle.meter.specs.declared.Meter.{Meter}
use Rattle.meter.specs.Sound.{sound_meter}
use Rattle.server.specs.declared.Responded.{Responded}
use Rattle.server.specs.declared.Served.{Served}
use Rattle.server.specs.Access.{responded_on}

-- the record, whether the bytes were answered, the bytes of the response, the letter of a move, and whether a call was carried out
pub record Service : Type 0 where
  pub meter : Meter
  pub answer : Answer
  pub bytes : List ℕ
  pub letter : Letter
  pub carried : Bool

-- a refusal: no byte, no change, no letter
abbrev pub refused_with : Meter → ℕ → Service
refused_with m n = record { meter = m; answer = Refused n; bytes = []; letter = NoLetter; carried = false }

-- 'Each whole request is answered'
abbrev pub answering : Responded → Service
answering r = record { meter = r.meter; answer = Accepted; bytes = response_bytes r.response; letter = r.letter; carried = r.carried }

-- '20, bytes that are no whole such request'
abbrev pub parsed_on : List EventRow → Meter → Parsed → Service
parsed_on rows m (Ok r) = answering (responded_on rows m r)
parsed_on rows m (Err x) = refused_with m 20

-- of a record that is known to be sound: 21, then 20
unfoldable pub service_sound : List EventRow → Meter → List ℕ → List ℕ → Service
service_sound rows m s buffer = cond (ltb (length buffer) 32) (refused_with m 21) (parsed_on rows m (request_in s))

-- 'the order is 21, 12, 20'
unfoldable pub service : List EventRow → Meter → List ℕ → List ℕ → Service
service rows m s buffer =
    cond (ltb (length buffer) 32) (refused_with m 21)
    (cond (sound_meter rows m) (parsed_on rows m (request_in s)) (refused_with m 12))

-- as `serve` hands it back, with the length of the response
abbrev pub served_by : Service → Served
served_by r = record { meter = r.meter; answer = r.answer; length = length r.bytes; letter = r.letter; carried = r.carried }

-- the buffer afterwards: 'answer-buffer bytes past the answer stay'
abbrev pub filled_by : Service → List ℕ → List ℕ
filled_by r buffer = r.bytes ++ drop (length r.bytes) buffer
