use Rattle.base.proofs.Prelude.{◌≡◌}
use Rattle.emergency.proofs.Places.{sound_below}
use Rattle.emergency.proofs.groups.sound.Given as goal

abbrev pub invariant-loop-i : goal.invariant-loop-i
invariant-loop-i l = l.ok ≡ sound_below l.held l.fn.ids l.i
