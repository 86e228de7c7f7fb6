-- The call that a SET or an ACTION names (document 02, A9).
use Rattle.std.specs.Prelude.{true, false, cond, ℕ, eqb, ℤ, Option, Some, None}
use Rattle.base.specs.Bits.{inverse}
use Rattle.calls.specs.declared.Call.{Call}
use Rattle.calls.specs.declared.Call.TheVariants as call
use Rattle.calls.specs.Calls.{signed_of}
use Rattle.requests.specs.declared.Data.{Data}
use Rattle.requests.specs.declared.Data.TheVariants.{Boolean, DoubleLong, DoubleLongUnsigned, Integer, Enum}
use Rattle.requests.specs.Requests.{tag_of}
use Rattle.requests.specs.declared.Request.{Request}
use Rattle.requests.specs.declared.Request.TheVariants.{Get, Set, Action}
use Rattle.server.specs.declared.Item.{Item}
use Rattle.server.specs.declared.Operation.{Operation}
use Rattle.server.specs.declared.Operation.TheVariants as operation
use Rattle.server.specs.Objects.{items, item_at}

-- a value's bytes as a number
abbrev pub number_of : Data → ℕ
number_of (Boolean v) = v
number_of (DoubleLong v) = v
number_of (DoubleLongUnsigned v) = v
number_of (Integer v) = v
number_of (Enum v) = v

-- of the limiter's threshold, Over and Under, an operation and a number: 'A SET in class 71 is call 7 with the other two kept; a SET of errors or alarms is call 13
-- or 12, clearing the bits that are zero in the value; a SET of the filter is call 10'. A method's number is 'ignored'
abbrev pub named_by : ℤ → ℕ → ℕ → Operation → ℕ → Call
named_by t o u operation.SetMode n = call.SetMode n
named_by t o u operation.SetThreshold n = call.SetLimiter (signed_of n) o u
named_by t o u operation.SetOverDuration n = call.SetLimiter t n u
named_by t o u operation.SetUnderDuration n = call.SetLimiter t o n
named_by t o u operation.ClearErrors n = call.ClearErrors (inverse n)
named_by t o u operation.ClearAlarms n = call.ClearAlarms (inverse n)
named_by t o u operation.SetAlarmFilter n = call.SetAlarmFilter n
named_by t o u operation.RemoteDisconnect n = call.RemoteDisconnect
named_by t o u operation.RemoteReconnect n = call.RemoteReconnect

-- of a row; an attribute that is not writable names none
abbrev pub named_from : ℤ → ℕ → ℕ → Option Operation → ℕ → Option Call
named_from t o u (Some k) n = Some (named_by t o u k n)
named_from t o u None n = None

-- by a row and a value: of another type, or without one, it names none
abbrev pub named_at : ℤ → ℕ → ℕ → Option Data → Option Item → Option Call
named_at t o u x None = None
named_at t o u (Some x) (Some a) = cond (eqb a.tag (tag_of x)) (named_from t o u a.names (number_of x)) None
named_at t o u None (Some a) = None

-- by a request: a GET names none
abbrev pub named_in : ℤ → ℕ → ℕ → Request → Option Call
named_in t o u (Get i d) = None
named_in t o u (Set i d x) = named_at t o u (Some x) (item_at items false d)
named_in t o u (Action i d x) = named_at t o u x (item_at items true d)
