-- Each case is computed.
use mathlib.Core.Path.{refl}
use Rattle.energy.specs.Days.{total, measured}
use Rattle.energy.specs.Joins.{joined, joined_days}
use Rattle.energy.specs.NearMisses.{NearMisses}

pub near_misses : NearMisses
unfolding total measured joined joined_days
near_misses = record {
  numbers = refl;
  by_hand = refl;
  lowest_power = refl;
  remainders = refl;
  other_remainders = refl;
  imports = refl;
  exports = refl;
  remainder_first = refl;
  one_direction = refl;
  carry = refl;
}
