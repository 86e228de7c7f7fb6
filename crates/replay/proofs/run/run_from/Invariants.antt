use mathlib.Core.Path.{◌≡◌}
use mathlib.Core.Bool.{true}
use Prim.Native.Nat.{◌-◌}
use Rattle.tables.specs.Index.{table_in}
use Rattle.logs.specs.Layout.{arrays, Sized}
use Rattle.meter.specs.State.{with_logs}
use Rattle.meter.specs.Sound.{sound_meter}
use Rattle.replay.specs.Replay.{records_from, meter_after}
use Rattle.replay.proofs.run.run_from.Given as goal

abbrev pub invariant-loop-i : goal.invariant-loop-i
invariant-loop-i l = (Sized (arrays l.counts l.clocks l.codes) × (sound_meter (table_in l.table) (with_logs l.scalars l.counts l.clocks l.codes) ≡ true))
    × (meter_after (table_in l.table) (with_logs l.scalars l.counts l.clocks l.codes) (records_from l.i l.records)
    ≡ meter_after (table_in l.table) (with_logs l.initial.scalars l.initial.counts l.initial.clocks l.initial.codes) (records_from l.first l.records))

abbrev pub decreases-loop-i : goal.decreases-loop-i
decreases-loop-i l = l.count - l.i
