use Rattle.base.proofs.Tests.{tests}
use Rattle.machine.specs.Machine.{mode_result}
use Rattle.status.proofs.Status.set_mode.Goals as goal

pub returns-then-mode-gt6 : goal.returns-then-mode-gt6
unfolding mode_result
returns-then-mode-gt6 c = search tests

pub returns : goal.returns
unfolding mode_result
returns c = search (tests, c.switched.ensures, c.set_mode-self.ensures, c.decide_mode-decision.ensures)
