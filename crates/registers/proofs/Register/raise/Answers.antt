use mathlib.Core.Path.{refl}
use Rattle.registers.proofs.Bits.{laws}
use Rattle.registers.proofs.Register.raise.Goals as goal

pub returns : goal.returns
returns c =
    record {
      value = refl;
      laws = laws;
    }
