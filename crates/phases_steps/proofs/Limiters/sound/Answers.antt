use Rattle.base.specs.Tests.{every}
use mathlib.Core.Bool.{and-true}
use Rattle.phases_steps.proofs.Limiters.sound.Goals as goal

pub returns : goal.returns
unfolding every
returns c =
    rw (and-true, c.sound-4.ensures.value, c.limiter-4.ensures, c.sound-3.ensures.value, c.limiter-3.ensures)
    (rw (c.sound-2.ensures.value, c.limiter-2.ensures, c.sound.ensures.value, c.limiter.ensures))
