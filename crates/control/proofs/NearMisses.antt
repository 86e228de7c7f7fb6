-- The near misses, each by computing it.
use mathlib.Core.Path.{refl}
use Rattle.control.specs.Control.{sound_control}
use Rattle.control.specs.NearMisses.{NearMisses}

pub near_misses : NearMisses
unfolding sound_control
near_misses = record { modes = refl; switches = refl; mode_zero = refl }
