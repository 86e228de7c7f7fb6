use mathlib.Core.Path.{◌≡◌}
use mathlib.Core.Bool.{true}
use mathlib.Core.List.{[], ◌∷◌}
use lib.Dec.{leb}
use borrow.Author.Tests.{le-leb}
use Rattle.base.proofs.Tests.{tests}
use Rattle.machine.specs.Settings.{limits_answer}
use Rattle.steps.proofs.Steps.{same_number, judged}
use Rattle.meter.specs.Settings.{fresh_answer}
use Rattle.meter.proofs.Accepting.{fresh_laws}
use Rattle.meter.proofs.Meter.fresh.Goals as goal
use Rattle.meter.proofs.Meter.fresh.Goals.{After-judge_limits-judged, Else-mode-gt6}

a_mode : (c : Else-mode-gt6) → leb c.args.mode 6 ≡ true
a_mode c = le-leb _ _ c.if-mode-gt6.false

judged_so : (c : After-judge_limits-judged)
    → c.judge_limits-judged.result ≡ limits_answer (c.args.threshold ∷ []) c.args.over c.args.under
judged_so c = judged _ _ _ _ c.ranges.threshold c.judge_limits-judged.ensures

pub returns-then-mode-gt6 : goal.returns-then-mode-gt6
unfolding fresh_answer
returns-then-mode-gt6 c =
    record {
      value = search tests;
      laws = fresh_laws;
    }

pub returns-in-Refused : goal.returns-in-Refused
unfolding fresh_answer
returns-in-Refused c =
    record {
      value = rw (a_mode (goal.at.returns-in-Refused c).Else-mode-gt6, ← judged_so (goal.at.returns-in-Refused c).After-judge_limits-judged, c.in-Refused.is) c.refused-in-Refused.ensures;
      laws = fresh_laws;
    }

pub returns : goal.returns
unfolding fresh_answer
returns c =
    let number = same_number _ c.ranges.threshold in
    record {
      value = rw (a_mode (goal.at.returns c).Else-mode-gt6, ← judged_so (goal.at.returns c).After-judge_limits-judged, c.in_default.is, c.with_settings-meter.ensures, number);
      laws = fresh_laws;
    }
