use Rattle.limiter.proofs.NearMisses.{near_misses}
use Rattle.limiter.proofs.Limiter.sound.Goals as goal

pub returns-clause-near_misses : goal.returns-clause-near_misses
returns-clause-near_misses c = near_misses
