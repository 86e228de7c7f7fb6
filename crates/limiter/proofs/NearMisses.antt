-- The near misses, each by computing it.
use mathlib.Core.Path.{refl}
use Rattle.limiter.specs.Limiter.{sound_limiter}
use Rattle.limiter.specs.NearMisses.{NearMisses}

pub near_misses : NearMisses
unfolding sound_limiter
near_misses = record { thresholds = refl; overs = refl; unders = refl; runs = refl; exceeded_runs = refl }
