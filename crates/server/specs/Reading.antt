-- What a GET reads (document 02, A9).
use Rattle.std.specs.Prelude.{cond, ℕ, eqb, Option, Some, None}
use Rattle.calls.specs.Laws.{bits_of}
use Rattle.requests.specs.declared.Data.{Data}
use Rattle.requests.specs.declared.Data.TheVariants.{Boolean, DoubleLong, DoubleLongUnsigned, Enum}
use Rattle.steps.specs.declared.Scalars.{Scalars}
use Rattle.server.specs.declared.Value.{Value}
use Rattle.server.specs.declared.Value.TheVariants as value

-- document 01: 'supply flows only in 1'; 'A boolean true is written 1'
abbrev pub output_state : ℕ → ℕ
output_state state = cond (eqb state 1) 1 0

-- what a GET reads. The threshold is the normal one, whatever profile is active
abbrev pub value_of : Scalars → Value → Data
value_of s value.OutputState = Boolean (output_state s.control.state)
value_of s value.ControlState = Enum s.control.state
value_of s value.ControlMode = Enum s.control.mode
value_of s value.Threshold = DoubleLong (bits_of s.limiter.threshold)
value_of s value.OverDuration = DoubleLongUnsigned s.limiter.over
value_of s value.UnderDuration = DoubleLongUnsigned s.limiter.under
value_of s value.Errors = DoubleLongUnsigned s.errors.bits
value_of s value.Alarms = DoubleLongUnsigned s.alarms.register.bits
value_of s value.AlarmFilter = DoubleLongUnsigned s.alarms.register.filter

-- of a row; a method has no value
abbrev pub read_of : Scalars → Option Value → Option Data
read_of s (Some v) = Some (value_of s v)
read_of s None = None
