use Prim.Native.Nat.{◌<◌, ◌^◌}
use native.Mathlib.Omega.{arith}
use lib.Count.{ones-le}
use borrow.Author.Rules.{rules}
use Rattle.base.proofs.Bits.{ones_bits}
use Rattle.registers.proofs.Alarms.counting.Goals as goal
use Rattle.registers.proofs.Alarms.counting.Goals.{After-struct_known-1}

bits : (c : After-struct_known-1) → c.args.register.bits < 2 ^ 32
bits c = search rules

pub overflow_cast-result : goal.overflow_cast-result
overflow_cast-result c = record { fits = omega (arith, ones-le 32 c.args.register.bits (bits c)) }

pub returns : goal.returns
returns c = rw (ones_bits c.args.register.bits (bits c))
