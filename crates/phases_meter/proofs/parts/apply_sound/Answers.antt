use Rattle.base.proofs.Prelude.{◌≤◌, length}
use Rattle.tables.specs.Index.{table_in}
use Rattle.logs.specs.Layout.{arrays}
use Rattle.status.proofs.Records.{part_length}
use Rattle.phases_steps.specs.Step.{three_phase_result}
use Rattle.phases_meter.specs.State.{three_phase_with_logs}
use Rattle.phases_meter.proofs.Tail.{lines_room, finished}
use Rattle.phases_meter.proofs.parts.apply_sound.Goals as goal
use Rattle.phases_meter.proofs.parts.apply_sound.Goals.{After-step-step}

room : (c : After-step-step)
    → (c.step-step.result.count ≤ length c.step-step.result.clocks) × (c.step-step.result.count ≤ length c.step-step.result.codes)
room c =
    let a = c.args in
    lines_room c.step-step.result a.scalars (three_phase_result (table_in a.table.now) a.scalars a.call) c.step-step.ensures.value

pub slice_bounds-line_clocks-end : goal.slice_bounds-line_clocks-end
slice_bounds-line_clocks-end c = (room (goal.at.slice_bounds-line_clocks-end c).After-step-step).0

pub slice_bounds-append_lines-end : goal.slice_bounds-append_lines-end
slice_bounds-append_lines-end c = part_length _ _ (room (goal.at.slice_bounds-append_lines-end c).After-step-step).0

pub slice_bounds-line_codes-end : goal.slice_bounds-line_codes-end
slice_bounds-line_codes-end c = (room (goal.at.slice_bounds-line_codes-end c).After-step-step).1

pub slice_bounds-append_lines-end-2 : goal.slice_bounds-append_lines-end-2
slice_bounds-append_lines-end-2 c = part_length _ _ (room (goal.at.slice_bounds-append_lines-end-2 c).After-step-step).1

pub returns : goal.returns
returns c =
    let a = c.args in
    finished (table_in a.table.now) (three_phase_with_logs a.scalars a.counts.now a.clocks.now a.codes.now) a.call c.step-step.result
    (arrays c.clear_log.new.counts c.clear_log.new.clocks c.clear_log.new.codes)
    (arrays c.append_lines.new.counts c.append_lines.new.clocks c.append_lines.new.codes)
    c.step-step.ensures.value c.clear_log.ensures c.append_lines.ensures.codes_after
