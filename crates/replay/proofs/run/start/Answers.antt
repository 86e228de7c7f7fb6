use mir.Facts.{to_z-of_z}
use mir.Syntax.{w32}
use borrow.Author.Rules.{rules}
use Rattle.replay.proofs.run.start.Goals as goal

pub returns : goal.returns
returns c = rw (c.fresh.ensures.value, to_z-of_z {w = w32} {z = c.signed.result} (search rules), c.signed.ensures)
