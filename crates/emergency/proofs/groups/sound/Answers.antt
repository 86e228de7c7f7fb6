use Rattle.base.proofs.Prelude.{◌≡◌, arith}
use Rattle.emergency.proofs.Places.{sound_none, sound_one}
use Rattle.emergency.proofs.groups.sound.Goals as goal

pub loop-i-init : goal.loop-i-init
loop-i-init c = sound_none _ _

pub loop-i-preserved : goal.loop-i-preserved
loop-i-preserved c = rw c.loop-i.invariant (sound_one _ _ _)

pub returns : goal.returns
returns c = let end : c.loop-i.i ≡ 8 = omega arith in rw (c.loop-i.invariant, end, c.from-held.ensures)
