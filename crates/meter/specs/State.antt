-- The record and its values.
use Rattle.std.specs.Prelude.{ℕ, List}
use Rattle.logs.specs.Layout.{arrays, laid, lists_of}
use Rattle.machine.specs.Values.{State}
use Rattle.steps.specs.declared.Scalars.{Scalars}
use Rattle.steps.specs.Scalars.{values_of, first_limiter}
use Rattle.meter.specs.declared.Meter.{Meter}

-- the record without its logs
abbrev pub scalars_of : Meter → Scalars
scalars_of m =
    record { control = m.control; limiter = m.limiter; clock = m.clock; alarms = m.alarms; errors = m.errors; emergency = m.emergency }

-- the record of these scalars and the logs in these arrays
abbrev pub with_logs : Scalars → List ℕ → List ℕ → List ℕ → Meter
with_logs s counts clocks codes =
    record {
      control = s.control;
      limiter = s.limiter;
      clock = s.clock;
      alarms = s.alarms;
      errors = s.errors;
      logs = arrays counts clocks codes;
      emergency = s.emergency;
    }

-- read off a record
abbrev pub state_of : Meter → State
state_of m = record { values = values_of (scalars_of m); logs = lists_of m.logs }

-- laid out as a record, 'lines past its count are zero'
abbrev pub record_of : State → Meter
record_of v =
    record {
      control = v.values.control;
      limiter = first_limiter v.values.limiters;
      clock = v.values.clock;
      alarms = v.values.alarms;
      errors = v.values.errors;
      logs = laid v.logs;
      emergency = v.values.emergency;
    }
