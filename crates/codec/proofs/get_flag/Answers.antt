use Rattle.codec.proofs.Examples.{examples}
use Rattle.codec.proofs.get_flag.Goals as goal

pub returns : goal.returns
returns c = record {
  value = rw c.get_u8.ensures;
  examples = examples;
}
