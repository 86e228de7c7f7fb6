-- The values of a meter: those of its record without the logs, and each log as a list of lines, oldest first.
use Rattle.std.specs.Prelude.{ℕ, List}
use Rattle.events.specs.Line.{Line}
use Rattle.registers.specs.declared.Register.{Register}
use Rattle.registers.specs.declared.Alarms.{Alarms}
use Rattle.control.specs.declared.Control.{Control}
use Rattle.limiter.specs.declared.Limiter.{Limiter}
use Rattle.emergency.specs.declared.Emergency.{Emergency}

-- without the logs; a limiter for each monitored value, with the same Over and Under in each
pub record Values : Type 0 where
  pub control : Control
  pub limiters : List Limiter
  pub clock : ℕ
  pub alarms : Alarms
  pub errors : Register
  pub emergency : Emergency

-- with the three logs
pub record State : Type 0 where
  pub values : Values
  pub logs : List (List Line)

-- with another control
abbrev pub with_control : Values → Control → Values
with_control v c = record { control = c; limiters = v.limiters; clock = v.clock; alarms = v.alarms; errors = v.errors; emergency = v.emergency }

-- with other limiters
abbrev pub with_limiters : Values → List Limiter → Values
with_limiters v ls = record { control = v.control; limiters = ls; clock = v.clock; alarms = v.alarms; errors = v.errors; emergency = v.emergency }

-- with another clock
abbrev pub with_clock : Values → ℕ → Values
with_clock v t = record { control = v.control; limiters = v.limiters; clock = t; alarms = v.alarms; errors = v.errors; emergency = v.emergency }

-- with another alarm register
abbrev pub with_alarms : Values → Alarms → Values
with_alarms v a = record { control = v.control; limiters = v.limiters; clock = v.clock; alarms = a; errors = v.errors; emergency = v.emergency }

-- with another error register
abbrev pub with_errors : Values → Register → Values
with_errors v r = record { control = v.control; limiters = v.limiters; clock = v.clock; alarms = v.alarms; errors = r; emergency = v.emergency }

-- with another profile or other groups
abbrev pub with_emergency : Values → Emergency → Values
with_emergency v e =
    record { control = v.control; limiters = v.limiters; clock = v.clock; alarms = v.alarms; errors = v.errors; emergency = e }
