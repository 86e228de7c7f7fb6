use borrow.Author.Rules.{rules}
use mir.Facts.{to_z-of_z}
use mir.Syntax.{w32}
use Rattle.phases_replay.proofs.run.start.Goals as goal

pub returns : goal.returns
returns c =
    rw (
      c.fresh.ensures.value,
      to_z-of_z {w = w32} {z = c.signed.result} (search rules),
      to_z-of_z {w = w32} {z = c.signed-2.result} (search rules),
      to_z-of_z {w = w32} {z = c.signed-3.result} (search rules),
      to_z-of_z {w = w32} {z = c.signed-4.result} (search rules),
      c.signed.ensures,
      c.signed-2.ensures,
      c.signed-3.ensures,
      c.signed-4.ensures,
    )
