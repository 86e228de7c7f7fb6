use mathlib.Core.Path.{◌≡◌, sym, ◌∙◌}
use Rattle.base.specs.Tests.{each_from}
use Rattle.machine.specs.Settings.{limits_answer}
use Rattle.machine.specs.Machine.{limiter_result}
use Rattle.phases.specs.ThreePhase.{in_order}
use Rattle.phases.proofs.Sums.{same_32}
use Rattle.phases_steps.proofs.Steps.{set_step}
use Rattle.phases_steps.proofs.ThreePhaseScalars.set_limiter.Goals as goal
use Rattle.phases_steps.proofs.ThreePhaseScalars.set_limiter.Goals.{After-judge_settings-answer}

-- the thresholds are handed on as their bits
judged : (c : After-judge_settings-answer) → let a = c.args in
    c.judge_settings-answer.result ≡ limits_answer (in_order a.l1 a.l2 a.l3 a.sum) a.over a.under
judged c =
    let f = c.ranges in
    rw (same_32 _ f.l1, same_32 _ f.l2, same_32 _ f.l3, same_32 _ f.sum) at c.judge_settings-answer.ensures

pub returns-in-Refused : goal.returns-in-Refused
unfolding limiter_result each_from
returns-in-Refused c = rw (← judged (goal.at.returns-in-Refused c).After-judge_settings-answer, c.in-Refused.is) (rw (c.with.ensures, c.refused.ensures))

pub returns : goal.returns
unfolding limiter_result each_from
returns c =
    let a = c.args in
    let f = c.ranges in
    c.with-2.ensures
    ∙ set_step a.self (in_order a.l1 a.l2 a.l3 a.sum) a.over a.under (sym (judged (goal.at.returns c).After-judge_settings-answer) ∙ c.in_default.is)
    (rw (same_32 _ f.l1, same_32 _ f.l2, same_32 _ f.l3, same_32 _ f.sum) at c.set-self.ensures) c.logged.ensures
