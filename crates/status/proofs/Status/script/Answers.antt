use Rattle.base.proofs.Tests.{tests}
use Rattle.machine.specs.Machine.{script_result}
use Rattle.status.proofs.Status.script.Goals as goal

pub returns-in-1 : goal.returns-in-1
unfolding script_result
returns-in-1 c = rw c.in-1.is c.request.ensures.value

pub returns-in-2 : goal.returns-in-2
unfolding script_result
returns-in-2 c = rw c.in-2.is c.request-in-2.ensures.value

pub returns-in_default : goal.returns-in_default
unfolding script_result
returns-in_default c = search tests
