-- The near misses of reader and writer, each by computing it.
use Rattle.page.proofs.Common.{refl, flat_map, be, among, below, num_at, built_in, lookup, sound_limiter, own_codes, zero_past, sound_log, sound_arrays, padded}
use Rattle.page.proofs.Common.{flat, laid, sound_logs, sound_meter, sound_scalars}
use Rattle.base.specs.Bits.{bit, how_many}
use Rattle.base.specs.Tests.{any}
use Rattle.registers.specs.Alarms.{sound_alarms}
use Rattle.emergency.specs.Emergency.{sound_emergency}
use Rattle.events.specs.Codes.{besides, may_hold}
use Rattle.control.specs.Control.{sound_control}
use Rattle.page.specs.Layout.{of_areas, layout, write_answer, has_pairs, holds_sound, read_of}
use Rattle.page.specs.NearMisses.{NearMisses}

pub near_misses : NearMisses
unfolding read_of has_pairs holds_sound layout of_areas write_answer num_at flat_map sound_meter sound_scalars sound_control sound_limiter sound_logs sound_arrays
    sound_alarms bit how_many sound_emergency be sound_log own_codes zero_past padded flat laid among any below built_in lookup besides may_hold
near_misses =
    record {
      unchanged = refl;
      by_table = refl;
      lengths = refl;
      reader_order = refl;
      pairs_bytes = refl;
      modes = refl;
      switches = refl;
      thresholds = refl;
      exceeded = refl;
      runs = refl;
      alarm_counts = refl;
      count = refl;
      counts = refl;
      codes = refl;
      past = refl;
      no_profile = refl;
      states = refl;
      waiting = refl;
      active = refl;
      durations = refl;
      emergency_thresholds = refl;
      group_counts = refl;
      ids_past = refl;
      unsound_written = refl;
      buffers = refl;
    }
