use Prim.Native.Nat.{◌<◌, ◌^◌}
use borrow.Author.Rules.{rules}
use Rattle.base.proofs.Bits.{ones_bits}
use Rattle.registers.specs.Alarms.{sound_alarms}
use Rattle.registers.proofs.Alarms.sound.Goals as goal
use Rattle.registers.proofs.Alarms.sound.Goals.{After-struct_known-2-1}

bits : (c : After-struct_known-2-1) → c.args.self.register.bits < 2 ^ 32
bits c = search rules

pub returns : goal.returns
unfolding sound_alarms
returns c = rw (ones_bits c.args.self.register.bits (bits c))
