use Rattle.server.specs.Access.{access_on}
use Rattle.server.proofs.access.access_on.Goals as goal

pub returns-in-Ok : goal.returns-in-Ok
unfolding access_on
returns-in-Ok c = rw (← c.in-Ok.ensures) c.called_on.ensures

pub returns-in-Err : goal.returns-in-Err
unfolding access_on
returns-in-Err c = rw (← c.in-Err.ensures) c.unchanged.ensures
