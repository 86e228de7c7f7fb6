use mathlib.Core.Path.{◌≡◌}
use Rattle.machine.specs.Machine.{decided}
use Rattle.steps.specs.Scalars.{values_of}
use Rattle.steps.proofs.Scalars.fired.Goals as goal
use Rattle.steps.proofs.Scalars.fired.Goals.{After-decide}

decision : (c : After-decide) → c.decide.result ≡ decided (values_of c.args.self) c.args.request
decision c = rw c.status-status.ensures at c.decide.ensures

pub returns-in-Move : goal.returns-in-Move
returns-in-Move c =
    rw (← decision (goal.at.returns-in-Move c).After-decide, c.in-Move.is, c.with.ensures, c.logged_two.ensures)
    (rw (c.moved.ensures, c.status-status.ensures))

pub returns-in-Stay : goal.returns-in-Stay
returns-in-Stay c = rw (← decision (goal.at.returns-in-Stay c).After-decide, c.in-Stay.is, c.with-in-Stay.ensures, c.logged.ensures, c.status-status.ensures)

pub returns-in-NotListed : goal.returns-in-NotListed
returns-in-NotListed c = rw (← decision (goal.at.returns-in-NotListed c).After-decide, c.in-NotListed.is, c.with-in-NotListed.ensures, c.logged-in-NotListed.ensures, c.status-status.ensures)
