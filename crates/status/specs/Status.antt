-- The part of the record that every meter has, its record without limiter, emergency profile and logs, and its values: those of a meter that monitors no
-- value and has no profile.
use Rattle.std.specs.Prelude.{[]}
use Rattle.emergency.specs.Emergency.{no_emergency}
use Rattle.machine.specs.Values.{Values}
use Rattle.status.specs.declared.Status.{Status}

-- its values
abbrev pub status_values : Status → Values
status_values s = record { control = s.control; limiters = []; clock = s.clock; alarms = s.alarms; errors = s.errors; emergency = no_emergency }

-- the part of values that is no limiter and no profile
abbrev pub status_from : Values → Status
status_from v = record { control = v.control; clock = v.clock; alarms = v.alarms; errors = v.errors }
