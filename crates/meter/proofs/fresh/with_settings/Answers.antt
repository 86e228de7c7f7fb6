use mir.Facts.{to_z-of_z}
use mir.Syntax.{w32}
use Rattle.logs.specs.Layout.{padded, flat, laid}
use Rattle.meter.proofs.fresh.with_settings.Goals as goal

pub returns : goal.returns
unfolding padded flat laid
returns c = rw (to_z-of_z {w = w32} {z = c.args.threshold} c.ranges.threshold)
