use Rattle.limiter.proofs.Watching.{laws}
use Rattle.limiter.proofs.Limiter.sample.Goals as goal

pub returns-clause-laws : goal.returns-clause-laws
returns-clause-laws c = laws
