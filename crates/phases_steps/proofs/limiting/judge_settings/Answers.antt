use mathlib.Core.Bool.{Bool, ◌&&◌, true, false}
use mathlib.Core.Path.{◌≡◌}
use lib.IntN.{pos}
use lib.Signed.{le_z}
use Rattle.base.specs.Tests.{every}
use Rattle.limiter.specs.Limiter.{is_duration}
use Rattle.machine.specs.Settings.{limits_answer}
use Rattle.phases.specs.ThreePhase.{in_order}
use Rattle.phases_steps.proofs.Thresholds.{thresholds_tested}
use Rattle.phases_steps.proofs.limiting.judge_settings.Goals as goal
use Rattle.phases_steps.proofs.limiting.judge_settings.Goals.{After-is_duration-2, Else-l1-l2}

none_negative : (c : Else-l1-l2) → let a = c.args in every (le_z (pos 0)) (in_order a.l1 a.l2 a.l3 a.sum) ≡ true
none_negative c =
    let f = c.ranges in
    thresholds_tested _ _ _ _ f.l1 f.l2 f.l3 f.sum false c.if-l1-l2.false

tested : (c : After-is_duration-2) (b : Bool) → c.is_duration.result && c.is_duration-2.result ≡ b
    → is_duration c.args.over && is_duration c.args.under ≡ b
tested c b e = rw (← c.is_duration.ensures, ← c.is_duration-2.ensures) e

pub returns-then-l1-l2 : goal.returns-then-l1-l2
unfolding limits_answer
returns-then-l1-l2 c = let f = c.ranges in rw (thresholds_tested _ _ _ _ f.l1 f.l2 f.l3 f.sum true c.if-l1-l2.true)

pub returns-then-not-is_duration : goal.returns-then-not-is_duration
unfolding limits_answer
returns-then-not-is_duration c = rw (none_negative (goal.at.returns-then-not-is_duration c).Else-l1-l2, tested (goal.at.returns-then-not-is_duration c).After-is_duration-2 false c.if-not-is_duration.true)

pub returns : goal.returns
unfolding limits_answer
returns c = rw (none_negative (goal.at.returns c).Else-l1-l2, tested (goal.at.returns c).After-is_duration-2 true c.if-not-is_duration.false)
