use mathlib.Core.Path.{◌≡◌}
use Prim.Native.Nat.{◌-◌}
use Rattle.tables.specs.Index.{table_in}
use Rattle.replay.specs.Replay.{records_from, meter_after}
use Rattle.measure.proofs.run_by_method.Given as goal

abbrev pub invariant-loop-i : goal.invariant-loop-i
invariant-loop-i l = meter_after (table_in l.table) l.meter (records_from l.i l.records) ≡ meter_after (table_in l.table) l.initial.meter (records_from 0 l.records)

abbrev pub decreases-loop-i : goal.decreases-loop-i
decreases-loop-i l = l.count - l.i
