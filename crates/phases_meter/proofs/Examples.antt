-- The near misses, each by computing it.
use Rattle.base.proofs.Prelude.{refl, every, below}
use Rattle.base.specs.Bits.{bit, how_many}
use Rattle.control.specs.Control.{sound_control}
use Rattle.limiter.specs.Limiter.{sound_limiter}
use Rattle.registers.specs.Alarms.{sound_alarms}
use Rattle.logs.specs.Arrays.{own_codes, zero_past, sound_log, sound_arrays}
use Rattle.logs.specs.Layout.{sound_logs}
use Rattle.machine.specs.Settings.{limits_answer}
use Rattle.phases.specs.Calls.{three_phase_call_of}
use Rattle.phases_steps.specs.Scalars.{sound_three_phase_scalars}
use Rattle.phases_meter.specs.State.{sound_three_phase_meter}
use Rattle.phases_meter.specs.Machine.{three_phase_applied, three_phase_commanded}
use Rattle.phases_meter.specs.Settings.{three_phase_fresh_answer}
use Rattle.phases_meter.specs.NearMisses.{NearMisses}

pub near_misses : NearMisses
unfolding three_phase_call_of three_phase_commanded three_phase_applied sound_three_phase_meter sound_three_phase_scalars sound_control sound_limiter every sound_alarms bit how_many sound_logs sound_arrays sound_log
    own_codes zero_past below three_phase_fresh_answer limits_answer
near_misses =
    record {
      threshold_negative = refl;
      threshold_zero = refl;
      threshold_highest = refl;
      threshold_above = refl;
      run_below = refl;
      run_reached = refl;
      exceeded_run_below = refl;
      exceeded_run_reached = refl;
      kind_first = refl;
      record_first = refl;
      fresh_order = refl;
      overs = refl;
      unders = refl;
    }
