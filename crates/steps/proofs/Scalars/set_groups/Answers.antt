use borrow.Author.Tests.{le-leb, lt-leb}
use Rattle.machine.specs.Machine.{groups_result}
use Rattle.steps.proofs.Scalars.set_groups.Goals as goal

pub returns-then-count-gt8 : goal.returns-then-count-gt8
unfolding groups_result
returns-then-count-gt8 c = rw (c.with.ensures, c.refused.ensures, c.status.ensures, lt-leb _ 8 c.if-count-gt8.true)

pub returns : goal.returns
unfolding groups_result
returns c = rw (c.with-2.ensures, c.accepted.ensures, c.status-2.ensures, c.set_groups-self.ensures, le-leb _ 8 c.if-count-gt8.false)
