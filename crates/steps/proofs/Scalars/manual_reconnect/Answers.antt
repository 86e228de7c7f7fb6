use Rattle.steps.proofs.Steps.{moved_step, unmoved_step}
use borrow.Enum.Refused.{opened}
use Rattle.steps.proofs.Scalars.manual_reconnect.Goals as goal

pub returns-in_default : goal.returns-in_default
returns-in_default c =
    let made = rw c.status.ensures at c.request-step.ensures.value in
    rw (c.with.ensures, made) (unmoved_step c.args.self (rw made at (opened c.in_default.in_default-own.keys2)))

pub returns : goal.returns
returns c =
    let made = rw c.status.ensures at c.request-step.ensures.value in
    rw (c.with-2.ensures, c.arm-self.ensures.value, made) (moved_step c.args.self (rw made at c.in-E.is))
