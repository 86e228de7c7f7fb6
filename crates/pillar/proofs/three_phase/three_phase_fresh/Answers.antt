-- `three_phase_fresh` meets its contract: the page of the fresh meter, its thresholds as they came.
use mir.Facts.{to_z-of_z}
use mir.Syntax.{w32}
use Rattle.pillar.proofs.three_phase.three_phase_fresh.Goals as goal

pub returns : goal.returns
returns c =
    rw (
      to_z-of_z {w = w32} {z = c.args.l1} c.ranges.l1,
      to_z-of_z {w = w32} {z = c.args.l2} c.ranges.l2,
      to_z-of_z {w = w32} {z = c.args.l3} c.ranges.l3,
      to_z-of_z {w = w32} {z = c.args.sum} c.ranges.sum,
    ) at
    c.fresh_page.ensures
