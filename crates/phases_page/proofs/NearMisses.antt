-- The near misses of reader and writer, each by computing it.
use Rattle.page.proofs.Common.{refl, every, flat_map, be, among, below, num_at, built_in, lookup, sound_limiter, own_codes, zero_past, sound_log, sound_arrays, padded}
use Rattle.page.proofs.Common.{flat, laid, sound_logs}
use Rattle.base.specs.Bits.{bit, how_many}
use Rattle.base.specs.Tests.{any}
use Rattle.registers.specs.Alarms.{sound_alarms}
use Rattle.events.specs.Codes.{besides, may_hold}
use Rattle.control.specs.Control.{sound_control}
use Rattle.page.specs.Layout.{of_areas}
use Rattle.phases_steps.specs.Scalars.{sound_three_phase_scalars}
use Rattle.phases_meter.specs.State.{sound_three_phase_meter}
use Rattle.phases_page.specs.Layout.{three_phase_layout, three_phase_write_answer, three_phase_has_pairs, three_phase_holds_sound, three_phase_read_of}
use Rattle.phases_page.specs.NearMisses.{NearMisses}

pub near_misses : NearMisses
unfolding three_phase_read_of three_phase_has_pairs three_phase_holds_sound three_phase_layout of_areas three_phase_write_answer num_at flat_map sound_three_phase_meter
    sound_three_phase_scalars sound_control sound_limiter sound_logs sound_arrays sound_alarms bit how_many be sound_log own_codes zero_past padded flat laid every among
    any below built_in lookup besides may_hold
near_misses =
    record {
      unchanged = refl;
      lengths = refl;
      pairs_bytes = refl;
      first_fault = refl;
      controls = refl;
      alarm_counts = refl;
      log_counts = refl;
      thresholds = refl;
      exceeded = refl;
      runs = refl;
      durations = refl;
      by_table = refl;
      unsound_written = refl;
      buffers = refl;
    }
