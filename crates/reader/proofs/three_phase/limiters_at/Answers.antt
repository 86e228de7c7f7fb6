use Rattle.page.proofs.Common.{add_assoc, rules}
use Rattle.reader.proofs.ThreePhaseRecord.{thresholds_at}
use Rattle.reader.proofs.three_phase.limiters_at.Goals as goal

pub monitored_at-l1-requires : goal.monitored_at-l1-requires
monitored_at-l1-requires c = (search rules, (thresholds_at c.args.s.now c.args.at c.requires.1).0)

pub monitored_at-l2-requires : goal.monitored_at-l2-requires
monitored_at-l2-requires c = (search rules, (thresholds_at c.args.s.now c.args.at c.requires.1).1.0)

pub monitored_at-l3-requires : goal.monitored_at-l3-requires
monitored_at-l3-requires c = (search rules, (thresholds_at c.args.s.now c.args.at c.requires.1).1.1.0)

pub monitored_at-sum-requires : goal.monitored_at-sum-requires
monitored_at-sum-requires c = (search rules, (thresholds_at c.args.s.now c.args.at c.requires.1).1.1.1)

pub returns : goal.returns
returns c =
    rw (c.get_u32-2.ensures, c.get_u32.ensures, c.monitored_at-sum.ensures, c.monitored_at-l3.ensures)
    (rw (c.monitored_at-l2.ensures, c.monitored_at-l1.ensures) (simp add_assoc))
