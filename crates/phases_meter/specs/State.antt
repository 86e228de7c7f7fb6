-- The three-phase meter's record (document 02, A13), its values, and when it is sound.
use Rattle.std.specs.Prelude.{ℕ, Bool, ◌&&◌, List}
use Rattle.events.specs.Table.{EventRow}
use Rattle.logs.specs.Layout.{arrays, laid, lists_of, sound_logs}
use Rattle.machine.specs.Values.{State}
use Rattle.phases_steps.specs.declared.ThreePhaseScalars.{ThreePhaseScalars}
use Rattle.phases_steps.specs.Scalars.{three_phase_values, three_phase_scalars, sound_three_phase_scalars}
use Rattle.phases_meter.specs.declared.ThreePhaseMeter.{ThreePhaseMeter}

-- the record of these scalars and the logs in these arrays
abbrev pub three_phase_with_logs : ThreePhaseScalars → List ℕ → List ℕ → List ℕ → ThreePhaseMeter
three_phase_with_logs s counts clocks codes = record { scalars = s; logs = arrays counts clocks codes }

-- read off a record
abbrev pub three_phase_state_of : ThreePhaseMeter → State
three_phase_state_of m = record { values = three_phase_values m.scalars; logs = lists_of m.logs }

-- laid out as a record, 'lines past its count are zero'
abbrev pub three_phase_record_of : State → ThreePhaseMeter
three_phase_record_of v = record { scalars = three_phase_scalars v.values; logs = laid v.logs }

-- 'A record is sound if these ranges hold, mode 0 has switch 1, Run is below Over (not Exceeded) or below Under (Exceeded), each log holds only
-- its own codes, and lines past its count are zero', Run, Over and Under of each monitored value. The ranges of 32 bits are held by the fields' types
unfoldable pub sound_three_phase_meter : List EventRow → ThreePhaseMeter → Bool
sound_three_phase_meter rows m = sound_three_phase_scalars m.scalars && sound_logs rows m.logs
