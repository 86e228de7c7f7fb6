use Rattle.base.proofs.Prelude.{◌≡◌, true, ◌-◌}
use Rattle.tables.specs.Index.{table_in}
use Rattle.logs.specs.Layout.{arrays, Sized}
use Rattle.phases_meter.specs.State.{three_phase_with_logs, sound_three_phase_meter}
use Rattle.phases_replay.specs.Replay.{three_phase_records_from, three_phase_meter_after}
use Rattle.phases_replay.proofs.run.run_from.Given as goal

abbrev pub invariant-loop-i : goal.invariant-loop-i
invariant-loop-i l = (Sized (arrays l.counts l.clocks l.codes) × (sound_three_phase_meter (table_in l.table) (three_phase_with_logs l.scalars l.counts l.clocks l.codes) ≡ true))
    × (three_phase_meter_after (table_in l.table) (three_phase_with_logs l.scalars l.counts l.clocks l.codes) (three_phase_records_from l.i l.records)
    ≡ three_phase_meter_after (table_in l.table) (three_phase_with_logs l.initial.scalars l.initial.counts l.initial.clocks l.initial.codes) (three_phase_records_from l.first l.records))

abbrev pub decreases-loop-i : goal.decreases-loop-i
decreases-loop-i l = l.count - l.i
