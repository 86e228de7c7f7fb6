use borrow.Author.Rules.{rules}
use Rattle.codec.proofs.Numbers.{be_byte}
use Rattle.codec.proofs.put_u8.Goals as goal

pub returns : goal.returns
returns c = rw (be_byte c.args.v (search rules))
