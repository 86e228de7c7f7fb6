use Rattle.limiter.proofs.Watching.{armed_laws}
use Rattle.limiter.proofs.Limiter.arm.Goals as goal

pub returns-clause-laws : goal.returns-clause-laws
returns-clause-laws c = armed_laws
