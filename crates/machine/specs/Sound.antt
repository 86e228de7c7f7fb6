-- 'A record is sound if these ranges hold, mode 0 has switch 1, Run is below Over (not Exceeded) or below Under (Exceeded), each log holds only
-- its own codes ..', of a meter's values; of profile and groups document 02, A3, 'Sound means: ..' (`sound_emergency`). The ranges of
-- 32 bits are held by the fields' types.
use Rattle.std.specs.Prelude.{Bool, ◌&&◌, List}
use Rattle.base.specs.Tests.{every}
use Rattle.events.specs.Table.{EventRow}
use Rattle.registers.specs.Alarms.{sound_alarms}
use Rattle.control.specs.Control.{sound_control}
use Rattle.limiter.specs.Limiter.{sound_limiter}
use Rattle.emergency.specs.Emergency.{sound_emergency}
use Rattle.logs.specs.Lists.{sound_lists}
use Rattle.machine.specs.Values.{Values, State}

-- without the logs: control, limiters, the alarm count (document 02, A6), and profile and groups; the others are of 32 bits by their types
unfoldable pub sound_values : Values → Bool
sound_values v =
    sound_control v.control && (every sound_limiter v.limiters && (sound_alarms v.alarms && sound_emergency v.emergency))

-- with them
unfoldable pub sound_state : List EventRow → State → Bool
sound_state rows s = sound_values s.values && sound_lists rows s.logs
