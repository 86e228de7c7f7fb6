use Rattle.base.proofs.Prelude.{◌+◌, sym}
use Rattle.codec.proofs.Numbers.{num_at_byte, num_at_past, num_at_two}
use Rattle.codec.proofs.get_u16.Goals as goal

pub returns-then-s-at : goal.returns-then-s-at
returns-then-s-at c = sym (num_at_past 2 _ _ c.if-s-at.true)

pub returns : goal.returns
returns c = let a = c.args in cc (num_at_two a.s.now a.at, num_at_byte a.s.now (a.at + 1))
