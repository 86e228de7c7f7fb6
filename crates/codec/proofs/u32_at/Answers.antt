use Rattle.codec.proofs.Numbers.{num_at_four}
use Rattle.codec.proofs.u32_at.Goals as goal

pub returns : goal.returns
returns c = cc (num_at_four c.args.s.now c.args.at)
