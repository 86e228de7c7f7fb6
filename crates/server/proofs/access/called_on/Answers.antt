use Rattle.server.specs.Access.{called_on}
use Rattle.server.proofs.access.called_on.Goals as goal

pub returns-in-Accepted : goal.returns-in-Accepted
unfolding called_on
returns-in-Accepted c = rw (← c.apply-outcome.ensures.value, c.in-Accepted.is)

pub returns-in-Refused : goal.returns-in-Refused
unfolding called_on
returns-in-Refused c = rw (← c.apply-outcome.ensures.value, c.in-Refused.is) c.unchanged.ensures
