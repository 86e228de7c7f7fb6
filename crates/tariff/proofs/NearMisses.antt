-- Each case is computed.
use mathlib.Core.Path.{refl}
use Rattle.base.specs.Tests.{below}
use Rattle.tariff.specs.Charges.{sum_below}
use Rattle.tariff.specs.Bills.{billed}
use Rattle.tariff.specs.NearMisses.{NearMisses}

pub near_misses : NearMisses
unfolding below sum_below billed
near_misses = record { prices = refl; rests = refl; watthours = refl; wattseconds = refl; price_first = refl; rest_second = refl; by_hand = refl; largest = refl }
