use Rattle.base.specs.Tests.{each_from}
use Rattle.machine.specs.Machine.{limiter_result}
use Rattle.steps.proofs.Steps.{same_number, judged}
use Rattle.steps.proofs.Scalars.set_limiter.Goals as goal

pub returns-in-Refused : goal.returns-in-Refused
unfolding limiter_result each_from
returns-in-Refused c =
    rw (← judged _ _ _ _ c.ranges.threshold c.judge_limits-answer.ensures, c.in-Refused.is)
    (rw (c.with.ensures, c.refused.ensures, c.status.ensures))

pub returns : goal.returns
unfolding limiter_result each_from
returns c =
    let fits = c.ranges.threshold in
    rw (← judged _ _ _ _ fits c.judge_limits-answer.ensures, c.in_default.is, c.with-2.ensures, c.logged.ensures)
    (rw (c.status-2.ensures, c.set-self.ensures, same_number _ fits))
