-- What a whole request comes to on a record (document 02, A9): 'Each whole request is answered, in this order: object-undefined for anything else; type-unmatched;
-- read-write-denied if not writable or 01's table refuses; success.'
use Rattle.std.specs.Prelude.{Bool, true, false, cond, List, ℕ, eqb, Option, Some, None, ok_or, Result, Ok, Err}
use Rattle.events.specs.Table.{EventRow}
use Rattle.calls.specs.declared.Call.{Call}
use Rattle.calls.specs.declared.Answer.{Answer}
use Rattle.calls.specs.declared.Answer.TheVariants.{Accepted, Refused}
use Rattle.calls.specs.declared.Letter.{Letter}
use Rattle.calls.specs.declared.Letter.TheVariants.{None as NoLetter}
use Rattle.limiter.specs.declared.Limiter.{Limiter}
use Rattle.requests.specs.Requests.{tag_of}
use Rattle.requests.specs.declared.Data.{Data}
use Rattle.requests.specs.declared.Descriptor.{Descriptor}
use Rattle.requests.specs.declared.Request.{Request}
use Rattle.requests.specs.declared.Request.TheVariants.{Get, Set, Action}
use Rattle.responses.specs.declared.AccessResult.{AccessResult}
use Rattle.responses.specs.declared.AccessResult.TheVariants.{Success, ReadWriteDenied, ObjectUndefined, TypeUnmatched}
use Rattle.responses.specs.declared.Response.{Response}
use Rattle.responses.specs.declared.Response.TheVariants.{GetData, GetResult, SetResult, ActionResult}
use Rattle.responses.specs.Responses.{is_success}
use Rattle.steps.specs.declared.Scalars.{Scalars}
use Rattle.meter.specs.declared.Meter.{Meter}
use Rattle.meter.specs.State.{scalars_of}
use Rattle.meter.specs.Machine.{applied}
use Rattle.server.specs.declared.Item.{Item}
use Rattle.server.specs.declared.Accessed.{Accessed}
use Rattle.server.specs.declared.Responded.{Responded}
use Rattle.server.specs.Objects.{items, item_at}
use Rattle.server.specs.Reading.{read_of}
use Rattle.server.specs.Naming.{number_of, named_from}

-- '.. any other answer change[s] nothing', and there is no letter
abbrev pub unchanged_with : Meter → AccessResult → Accessed
unchanged_with m r = record { meter = m; result = r; letter = NoLetter }

-- 'read-write-denied if .. 01's table refuses; success. The meter after a success is the meter after the call the frame names'
abbrev pub accessed_by : Meter → Meter → Letter → Answer → Accessed
accessed_by before after x Accepted = record { meter = after; result = Success; letter = x }
accessed_by before after x (Refused n) = unchanged_with before ReadWriteDenied

-- a call on a record
unfoldable pub called_on : List EventRow → Meter → Call → Accessed
called_on rows m c = accessed_by m (applied rows m c).meter (applied rows m c).letter (applied rows m c).answer

-- a value for a row: 'type-unmatched', and of a method 'none at all is type-unmatched'; 'read-write-denied if not writable'; else the call that it names
abbrev pub call_for : Limiter → Item → Option Data → Result Call AccessResult
call_for l a (Some x) =
    cond (eqb a.tag (tag_of x)) (ok_or (named_from l.threshold l.over l.under a.names (number_of x)) ReadWriteDenied)
    (Err TypeUnmatched)
call_for l a None = Err TypeUnmatched

-- 'object-undefined for anything else'
abbrev pub call_at : Limiter → Option Data → Option Item → Result Call AccessResult
call_at l x None = Err ObjectUndefined
call_at l x (Some a) = call_for l a x

-- the call is made; where there is none, the result alone is given
abbrev pub access_by : List EventRow → Meter → Result Call AccessResult → Accessed
access_by rows m (Ok c) = called_on rows m c
access_by rows m (Err r) = unchanged_with m r

-- a SET of an attribute, or an ACTION on a method
unfoldable pub access_on : List EventRow → Meter → Bool → Descriptor → Option Data → Accessed
access_on rows m method d x = access_by rows m (call_at m.limiter x (item_at items method d))

-- a GET: the value, or object-undefined
abbrev pub get_response : ℕ → Option Data → Response
get_response i (Some x) = GetData i x
get_response i None = GetResult i ObjectUndefined

-- what a row reads, where there is one
abbrev pub read_at : Scalars → Option Item → Option Data
read_at s None = None
read_at s (Some a) = read_of s a.reads

-- of a row
abbrev pub get_at : Scalars → ℕ → Option Item → Response
get_at s i o = get_response i (read_at s o)

-- of an attribute
unfoldable pub get_on : Scalars → ℕ → Descriptor → Response
get_on s i d = get_at s i (item_at items false d)

-- the response to a SET or an ACTION; a call was carried out where it is a success
abbrev pub responded_with : Accessed → Response → Responded
responded_with a r = record { meter = a.meter; response = r; letter = a.letter; carried = is_success a.result }

-- a request: 'a GET .. change[s] nothing'
unfoldable pub responded_on : List EventRow → Meter → Request → Responded
responded_on rows m (Get i d) = record { meter = m; response = get_on (scalars_of m) i d; letter = NoLetter; carried = false }
responded_on rows m (Set i d x) =
    let a = access_on rows m false d (Some x) in
    responded_with a (SetResult i a.result)
responded_on rows m (Action i d x) =
    let a = access_on rows m true d x in
    responded_with a (ActionResult i a.result)
