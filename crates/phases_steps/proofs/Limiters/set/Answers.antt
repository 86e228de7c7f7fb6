use Rattle.base.specs.Tests.{each_from}
use Rattle.phases.proofs.Sums.{same_32}
use Rattle.phases_steps.proofs.Limiters.set.Goals as goal

pub returns : goal.returns
unfolding each_from
returns c =
    let f = c.ranges in
    rw (c.value_of-4.ensures, c.set-4.ensures, c.limiter-4.ensures, same_32 _ f.sum)
    (rw (c.value_of-3.ensures, c.set-3.ensures, c.limiter-3.ensures, same_32 _ f.l3)
    (rw (c.value_of-2.ensures, c.set-2.ensures, c.limiter-2.ensures, same_32 _ f.l2)
    (rw (c.value_of.ensures, c.set.ensures, c.limiter.ensures, same_32 _ f.l1))))
