use Rattle.base.proofs.Prelude.{sym}
use Rattle.codec.proofs.Numbers.{num_at_byte, num_at_past}
use Rattle.codec.proofs.get_u8.Goals as goal

pub returns-then-at-s : goal.returns-then-at-s
returns-then-at-s c = sym (num_at_byte _ _)

pub returns-else-at-s : goal.returns-else-at-s
returns-else-at-s c = sym (num_at_past 1 _ _ c.if-at-s.false)
