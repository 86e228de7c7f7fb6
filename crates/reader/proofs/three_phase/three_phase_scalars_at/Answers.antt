use Rattle.page.proofs.Common.{rules}
use Rattle.phases_page.specs.Layout.{three_phase_layout}
use Rattle.reader.proofs.ThreePhaseRecord.{passed_thresholds}
use Rattle.reader.proofs.three_phase.three_phase_scalars_at.Goals as goal

pub limiters_at-limiters-requires : goal.limiters_at-limiters-requires
limiters_at-limiters-requires c = (search rules, passed_thresholds c.args.s.now c.requires)

pub returns : goal.returns
unfolding three_phase_layout
returns c =
    rw (c.get_u32.ensures, c.register_at-errors.ensures, c.alarms_at-alarms.ensures, c.limiters_at-limiters.ensures, c.control_at-control.ensures)
