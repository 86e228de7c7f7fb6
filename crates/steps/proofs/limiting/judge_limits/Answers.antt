use mathlib.Core.Bool.{Bool, ◌&&◌, true, false}
use mathlib.Core.Path.{◌≡◌}
use lib.IntN.{pos}
use lib.Signed.{le_z}
use Rattle.limiter.specs.Limiter.{is_duration}
use Rattle.machine.specs.Settings.{limits_answer}
use Rattle.steps.proofs.Steps.{threshold_sign}
use Rattle.steps.proofs.limiting.judge_limits.Goals as goal
use Rattle.steps.proofs.limiting.judge_limits.Goals.{After-is_duration-2, Else-threshold-lt0}

not_negative : (c : Else-threshold-lt0) → le_z (pos 0) c.args.threshold ≡ true
not_negative c = threshold_sign _ false c.ranges.threshold c.if-threshold-lt0.false

tested : (c : After-is_duration-2) (b : Bool) → c.is_duration.result && c.is_duration-2.result ≡ b
    → is_duration c.args.over && is_duration c.args.under ≡ b
tested c b e = rw (← c.is_duration.ensures, ← c.is_duration-2.ensures) e

pub returns-then-threshold-lt0 : goal.returns-then-threshold-lt0
unfolding limits_answer
returns-then-threshold-lt0 c = rw (threshold_sign _ true c.ranges.threshold c.if-threshold-lt0.true)

pub returns-then-not-is_duration : goal.returns-then-not-is_duration
unfolding limits_answer
returns-then-not-is_duration c = rw (not_negative (goal.at.returns-then-not-is_duration c).Else-threshold-lt0, tested (goal.at.returns-then-not-is_duration c).After-is_duration-2 false c.if-not-is_duration.true)

pub returns : goal.returns
unfolding limits_answer
returns c = rw (not_negative (goal.at.returns c).Else-threshold-lt0, tested (goal.at.returns c).After-is_duration-2 true c.if-not-is_duration.false)
