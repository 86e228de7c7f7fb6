-- What holds of every request, record and buffer: what a reader wants beside the definitions.
use Rattle.std.specs.Prelude.{◌≡◌, Bool, true, false, cond, List, [], ◌∷◌, ℕ, ◌+◌, ◌≤◌, ltb, length, get_or, take, drop, Option, Some, None, Ok, Err}
use Rattle.base.specs.Tests.{among, every}
use Rattle.codec.specs.Lawful.{Bytes}
use Rattle.events.specs.Table.{EventRow, lawful}
use Rattle.logs.specs.Layout.{Sized}
use Rattle.calls.specs.declared.Call.{Call}
use Rattle.calls.specs.declared.Answer.TheVariants.{Accepted, Refused}
use Rattle.calls.specs.declared.Letter.TheVariants.{None as NoLetter}
use Rattle.calls.specs.Calls.{answer_number}
use Rattle.requests.specs.declared.Data.{Data}
use Rattle.requests.specs.declared.Descriptor.{Descriptor}
use Rattle.requests.specs.declared.Request.{Request}
use Rattle.requests.specs.declared.Request.TheVariants.{Get, Set, Action}
use Rattle.requests.specs.Requests.{tag_of, Parsed, request_bytes, request_in, RequestInRange}
use Rattle.responses.specs.declared.AccessResult.{AccessResult}
use Rattle.responses.specs.declared.AccessResult.TheVariants.{Success, ReadWriteDenied, ObjectUndefined, TypeUnmatched}
use Rattle.responses.specs.declared.Response.{Response}
use Rattle.responses.specs.declared.Response.TheVariants.{GetData, GetResult, SetResult, ActionResult}
use Rattle.responses.specs.Responses.{is_success}
use Rattle.meter.specs.declared.Meter.{Meter}
use Rattle.meter.specs.Machine.{applied}
use Rattle.meter.specs.Sound.{sound_meter}
use Rattle.meter.specs.State.{scalars_of}
use Rattle.server.specs.declared.Item.{Item}
use Rattle.server.specs.declared.Responded.{Responded}
use Rattle.server.specs.declared.Served.{Served}
use Rattle.server.specs.Objects.{items, item_at}
use Rattle.server.specs.Naming.{number_of, named_from, named_in}
use Rattle.server.specs.Reading.{read_of}
use Rattle.server.specs.Access.{access_on, responded_on}
use Rattle.server.specs.Service.{answering, service, served_by, filled_by}

-- bytes are a whole request
abbrev pub is_whole : Parsed → Bool
is_whole (Ok r) = true
is_whole (Err x) = false

-- the result of a response; the value of a GET comes with success
abbrev pub result_of : Response → AccessResult
result_of (GetData i x) = Success
result_of (GetResult i r) = r
result_of (SetResult i r) = r
result_of (ActionResult i r) = r

-- what `serve` hands back, and the buffer afterwards
abbrev pub served_on : List EventRow → Meter → List ℕ → List ℕ → Served
served_on rows m s l = served_by (service rows m s l)

abbrev pub buffer_after : List EventRow → Meter → List ℕ → List ℕ → List ℕ
buffer_after rows m s l = filled_by (service rows m s l) l

-- the call that a request names on a record: of class 71 with the settings that the record has
abbrev pub named_of : Meter → Request → Option Call
named_of m r = named_in m.limiter.threshold m.limiter.over m.limiter.under r

-- a named call was accepted, and record and letter are those that it hands back
abbrev pub CarriedOut : List EventRow → Meter → Option Call → Responded → Type 0
CarriedOut rows m (Some c) r =
    ((applied rows m c).answer ≡ Accepted) × ((r.meter ≡ (applied rows m c).meter) × (r.letter ≡ (applied rows m c).letter))
CarriedOut rows m None r = ⊥

-- of a value for a row: it is of the row's type
abbrev pub Matches : Item → Option Data → Type 0
Matches a (Some x) = a.tag ≡ tag_of x
Matches a None = ⊥

-- the call that a value for a row names
abbrev pub named_for : Meter → Item → Option Data → Option Call
named_for m a (Some x) = named_from m.limiter.threshold m.limiter.over m.limiter.under a.names (number_of x)
named_for m a None = None

-- of bytes, and of whole requests
pub record LawsOf (rows : List EventRow) : Type 0 where
  -- '20, bytes that are no whole such request; 21, answer buffer under 32 bytes; the order is 21, 12, 20'
  pub number : (m : Meter) (s l : List ℕ)
      → answer_number (served_on rows m s l).answer
      ≡ cond (ltb (length l) 32) 21 (cond (sound_meter rows m) (cond (is_whole (request_in s)) 0 20) 12)
  -- 'Each whole request is answered'
  pub whole : (m : Meter) (r : Request) (l : List ℕ) → RequestInRange r → sound_meter rows m ≡ true → 32 ≤ length l
      → service rows m (request_bytes r) l ≡ answering (responded_on rows m r)
  -- the response stands at the front, 'answer-buffer bytes past the answer stay'
  pub front : (m : Meter) (s l : List ℕ) → take (served_on rows m s l).length (buffer_after rows m s l) ≡ (service rows m s l).bytes
  pub rest : (m : Meter) (s l : List ℕ)
      → drop (served_on rows m s l).length (buffer_after rows m s l) ≡ drop (served_on rows m s l).length l
  pub same_length : (m : Meter) (s l : List ℕ) → length (buffer_after rows m s l) ≡ length l
  -- a response has 4, 5, 6 or 9 bytes
  pub sizes : (m : Meter) (s l : List ℕ) → (served_on rows m s l).answer ≡ Accepted
      → among (4 ∷ 5 ∷ 6 ∷ 9 ∷ []) (served_on rows m s l).length ≡ true
  -- C4 to C0, C5 to C1, C7 to C3; 01; the request's invoke-id-and-priority
  pub first_bytes : (m : Meter) (s l : List ℕ) → Bytes s → (served_on rows m s l).answer ≡ Accepted
      → take 3 (buffer_after rows m s l) ≡ (get_or s 0 0 + 4) ∷ 1 ∷ get_or s 2 0 ∷ []
  -- a refusal leaves record and buffer, and has no response and no letter
  pub refused_same : (m : Meter) (s l : List ℕ) (n : ℕ) → (served_on rows m s l).answer ≡ Refused n
      → (served_on rows m s l ≡ record { meter = m; answer = Refused n; length = 0; letter = NoLetter; carried = false }) × (buffer_after rows m s l ≡ l)
  -- 'a GET and any other answer change nothing', and there is no letter
  pub unchanged : (m : Meter) (r : Request) → (responded_on rows m r).carried ≡ false
      → ((responded_on rows m r).meter ≡ m) × ((responded_on rows m r).letter ≡ NoLetter)
  pub get_not_carried : (m : Meter) (i : ℕ) (d : Descriptor) → (responded_on rows m (Get i d)).carried ≡ false
  pub set_carried : (m : Meter) (i : ℕ) (d : Descriptor) (x : Data)
      → (responded_on rows m (Set i d x)).carried ≡ is_success (result_of (responded_on rows m (Set i d x)).response)
  pub action_carried : (m : Meter) (i : ℕ) (d : Descriptor) (x : Option Data)
      → (responded_on rows m (Action i d x)).carried ≡ is_success (result_of (responded_on rows m (Action i d x)).response)
  -- 'The meter after a success is the meter after the call the frame names', and so is the letter; 01's table accepts that call
  pub carried_out_lem : (m : Meter) (r : Request) → (responded_on rows m r).carried ≡ true → CarriedOut rows m (named_of m r) (responded_on rows m r)
  -- 'in this order: object-undefined for anything else; type-unmatched; read-write-denied if not writable or 01's table refuses; success', of a SET (false) and
  -- of an ACTION (true)
  pub undefined : (m : Meter) (method : Bool) (d : Descriptor) (x : Option Data) → item_at items method d ≡ None
      → (access_on rows m method d x).result ≡ ObjectUndefined
  pub unmatched : (m : Meter) (method : Bool) (d : Descriptor) (x : Option Data) (a : Item) → item_at items method d ≡ Some a
      → (Matches a x → ⊥) → (access_on rows m method d x).result ≡ TypeUnmatched
  pub not_writable : (m : Meter) (method : Bool) (d : Descriptor) (x : Option Data) (a : Item) → item_at items method d ≡ Some a
      → Matches a x → named_for m a x ≡ None → (access_on rows m method d x).result ≡ ReadWriteDenied
  pub refused : (m : Meter) (method : Bool) (d : Descriptor) (x : Option Data) (a : Item) → item_at items method d ≡ Some a
      → Matches a x → (c : Call) (n : ℕ) → named_for m a x ≡ Some c → (applied rows m c).answer ≡ Refused n
      → (access_on rows m method d x).result ≡ ReadWriteDenied
  pub accepted : (m : Meter) (method : Bool) (d : Descriptor) (x : Option Data) (a : Item) → item_at items method d ≡ Some a
      → Matches a x → (c : Call) → named_for m a x ≡ Some c → (applied rows m c).answer ≡ Accepted
      → (access_on rows m method d x).result ≡ Success
  -- a GET gives the value with its type's tag, or object-undefined
  pub get_undefined : (m : Meter) (i : ℕ) (d : Descriptor) → item_at items false d ≡ None
      → (responded_on rows m (Get i d)).response ≡ GetResult i ObjectUndefined
  pub get_value : (m : Meter) (i : ℕ) (d : Descriptor) (a : Item) → item_at items false d ≡ Some a
      → (x : Data) × ((read_of (scalars_of m) a.reads ≡ Some x) × ((tag_of x ≡ a.tag) × ((responded_on rows m (Get i d)).response ≡ GetData i x)))

-- of every list of event rows; and of lawful ones: a request keeps a sound record sound
pub record Laws : Type 0 where
  pub by_table : (rows : List EventRow) → LawsOf rows
  pub kept_sound : (rows : List EventRow) → every lawful rows ≡ true → (m : Meter) (r : Request) → Sized m.logs → RequestInRange r
      → sound_meter rows m ≡ true → sound_meter rows (responded_on rows m r).meter ≡ true
