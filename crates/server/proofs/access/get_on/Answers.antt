use Rattle.server.specs.Access.{get_on}
use Rattle.server.proofs.access.get_on.Goals as goal

pub returns-in-Some : goal.returns-in-Some
unfolding get_on
returns-in-Some c = rw (← c.in-Some.ensures)

pub returns-in-None : goal.returns-in-None
unfolding get_on
returns-in-None c = rw (← c.in-None.ensures)
