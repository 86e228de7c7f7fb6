-- Each case is computed.
use mathlib.Core.Path.{refl}
use Rattle.base.specs.Tests.{any}
use Rattle.berths.specs.Allotments.{sum, allotted, refusal, filled}
use Rattle.berths.specs.NearMisses.{NearMisses}

pub near_misses : NearMisses
unfolding any sum allotted refusal filled
near_misses = record {
  counts = refl;
  count_first = refl;
  limits = refl;
  first_berths = refl;
  last_berths = refl;
  demands = refl;
  guarantees_summed = refl;
  fault_first = refl;
  large_sums = refl;
  by_hand = refl;
}
