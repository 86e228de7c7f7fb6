use Rattle.status.proofs.Status.switched.Goals as goal

pub returns-in-Move : goal.returns-in-Move
returns-in-Move c = rw (c.in-Move.is, c.logged.ensures, c.moved.ensures)

pub returns-in-Stay : goal.returns-in-Stay
returns-in-Stay c = rw c.in-Stay.is c.accepted.ensures

pub returns-in-NotListed : goal.returns-in-NotListed
returns-in-NotListed c = rw c.in-NotListed.is c.accepted-in-NotListed.ensures
