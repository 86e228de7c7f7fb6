-- The near misses, each by computing it.
use mathlib.Core.Path.{refl}
use Rattle.base.specs.Tests.{below}
use Rattle.emergency.specs.Emergency.{sound_emergency}
use Rattle.emergency.specs.NearMisses.{NearMisses}

pub near_misses : NearMisses
unfolding sound_emergency below
near_misses =
    record {
      no_profile = refl;
      waiting_left = refl;
      active_left = refl;
      waiting_thresholds = refl;
      active_thresholds = refl;
      waiting_durations = refl;
      active_durations = refl;
      states = refl;
      empty_states = refl;
      counts = refl;
      ids = refl;
      first_ids = refl;
    }
