-- `pillar_fresh` meets its contract: the outcome of fresh is kept, by the built-in table.
use mir.Facts.{to_z-of_z}
use mir.Syntax.{w32}
use Rattle.pillar.proofs.pillar_fresh.Goals as goal

pub returns : goal.returns
returns c =
    rw (c.built_in-table.ensures, c.fresh.ensures.value, to_z-of_z {w = w32} {z = c.args.threshold} c.ranges.threshold) at
    c.keep.ensures
