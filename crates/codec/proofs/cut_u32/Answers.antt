use Rattle.base.proofs.Prelude.{◌+◌, sym}
use Rattle.codec.proofs.Numbers.{num_at_byte, num_at_past, num_at_four}
use Rattle.codec.proofs.cut_u32.Goals as goal

pub returns-then-s-at : goal.returns-then-s-at
returns-then-s-at c = sym (num_at_past 4 _ _ c.if-s-at.true)

pub returns : goal.returns
returns c =
    let s = c.args.s.now in
    let at = c.args.at in
    cc (num_at_four s at, num_at_byte s (at + 1), num_at_byte s (at + 2), num_at_byte s (at + 3))
