use Rattle.phases_steps.proofs.Limiters.arm.Goals as goal

pub returns : goal.returns
returns c =
    rw (c.value_of-4.ensures, c.arm-4.ensures.value, c.limiter-4.ensures)
    (rw (c.value_of-3.ensures, c.arm-3.ensures.value, c.limiter-3.ensures)
    (rw (c.value_of-2.ensures, c.arm-2.ensures.value, c.limiter-2.ensures)
    (rw (c.value_of.ensures, c.arm.ensures.value, c.limiter.ensures))))
