-- 'A record is sound if these ranges hold, mode 0 has switch 1, Run is below Over (not Exceeded) or below Under (Exceeded), each log holds only
-- its own codes, and lines past its count are zero.' Of profile and groups it is document 02's: A3,
-- 'Sound means: ..' (`sound_emergency`). The ranges of 32 bits are held by the fields' types.
use Rattle.std.specs.Prelude.{Bool, ◌&&◌, List}
use Rattle.events.specs.Table.{EventRow}
use Rattle.logs.specs.Layout.{sound_logs}
use Rattle.steps.specs.Scalars.{sound_scalars}
use Rattle.meter.specs.declared.Meter.{Meter}
use Rattle.meter.specs.State.{scalars_of}

-- of a record
unfoldable pub sound_meter : List EventRow → Meter → Bool
sound_meter rows m = sound_scalars (scalars_of m) && sound_logs rows m.logs
