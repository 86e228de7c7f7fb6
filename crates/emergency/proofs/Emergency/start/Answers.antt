use Rattle.emergency.proofs.Life.{laws}
use Rattle.emergency.proofs.Emergency.start.Goals as goal

pub returns-then-self-ne1-clause-laws : goal.returns-then-self-ne1-clause-laws
returns-then-self-ne1-clause-laws c = laws

pub returns-then-clock-self-clause-laws : goal.returns-then-clock-self-clause-laws
returns-then-clock-self-clause-laws c = laws

pub returns-clause-laws : goal.returns-clause-laws
returns-clause-laws c = laws
