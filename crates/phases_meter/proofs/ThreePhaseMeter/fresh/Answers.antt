use Rattle.base.proofs.Prelude.{◌≡◌, true, leb, le-leb}
use Rattle.base.proofs.Tests.{tests}
use Rattle.machine.specs.Settings.{limits_answer}
use Rattle.phases.specs.ThreePhase.{in_order}
use Rattle.phases.proofs.Sums.{same_32}
use Rattle.phases_meter.specs.Settings.{three_phase_fresh_answer}
use Rattle.phases_meter.proofs.Accepting.{fresh_laws}
use Rattle.phases_meter.proofs.ThreePhaseMeter.fresh.Goals as goal
use Rattle.phases_meter.proofs.ThreePhaseMeter.fresh.Goals.{After-judge_settings-judged, Else-mode-gt6}

a_mode : (c : Else-mode-gt6) → leb c.args.mode 6 ≡ true
a_mode c = le-leb _ _ c.if-mode-gt6.false

judged_so : (c : After-judge_settings-judged) → (let a = c.args in
    c.judge_settings-judged.result ≡ limits_answer (in_order a.l1 a.l2 a.l3 a.sum) a.over a.under)
judged_so c =
    let a = c.args in
    let fits = c.ranges in
    rw (same_32 a.l1 fits.l1, same_32 a.l2 fits.l2, same_32 a.l3 fits.l3, same_32 a.sum fits.sum) at c.judge_settings-judged.ensures

pub returns-then-mode-gt6 : goal.returns-then-mode-gt6
unfolding three_phase_fresh_answer
returns-then-mode-gt6 c =
    record {
      value = search tests;
      laws = fresh_laws;
    }

pub returns-in-Refused : goal.returns-in-Refused
unfolding three_phase_fresh_answer
returns-in-Refused c =
    record {
      value = rw (a_mode (goal.at.returns-in-Refused c).Else-mode-gt6, ← judged_so (goal.at.returns-in-Refused c).After-judge_settings-judged, c.in-Refused.is) c.refused-in-Refused.ensures;
      laws = fresh_laws;
    }

pub returns : goal.returns
unfolding three_phase_fresh_answer
returns c =
    let a = c.args in
    let fits = c.ranges in record {
      value = rw (
        a_mode (goal.at.returns c).Else-mode-gt6,
        ← judged_so (goal.at.returns c).After-judge_settings-judged,
        c.in_default.is,
        c.with_settings-meter.ensures,
        same_32 a.l1 fits.l1,
        same_32 a.l2 fits.l2,
        same_32 a.l3 fits.l3,
        same_32 a.sum fits.sum,
      );
      laws = fresh_laws;
    }
