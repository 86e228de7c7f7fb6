-- The examples and the near misses, each by computing it.
use mathlib.Core.Path.{◌≡◌, refl}
use mathlib.Core.List.{[], ◌∷◌, map}
use Rattle.base.specs.Tests.{among, every, any, below, gathered, each_from}
use Rattle.events.specs.Line.{newest}
use Rattle.events.specs.Table.{built_in, lookup}
use Rattle.events.specs.Codes.{besides, may_hold}
use Rattle.control.specs.Table.{switch_table}
use Rattle.control.specs.Control.{decision, mode_decision, sound_control}
use Rattle.limiter.specs.Limiter.{watched, sound_limiter}
use Rattle.base.specs.Bits.{bit, how_many}
use Rattle.registers.specs.Alarms.{sound_alarms}
use Rattle.emergency.specs.Emergency.{sound_emergency}
use Rattle.logs.specs.Lists.{changed}
use Rattle.logs.specs.Arrays.{own_codes, zero_past, sound_log, sound_arrays}
use Rattle.logs.specs.Layout.{padded, flat, laid, lists_of, sound_logs}
use Rattle.machine.specs.Settings.{limits_answer}
use Rattle.machine.specs.Machine.{request_result, sample_result, mode_result, limiter_result, event_result, script_result}
use Rattle.steps.specs.Scalars.{sound_scalars}
use Rattle.meter.specs.Sound.{sound_meter}
use Rattle.calls.specs.Calls.{call_of}
use Rattle.meter.specs.Settings.{fresh_answer}
use Rattle.meter.specs.Machine.{applied, commanded, record_after}
use Rattle.meter.specs.Examples.{line_numbers_from, Examples}
use Rattle.meter.specs.NearMisses.{disconnected, NearMisses}

pub examples : Examples
unfolding line_numbers_from record_after applied sound_meter sound_scalars sound_control sound_limiter sound_alarms bit how_many sound_emergency sound_logs
    sound_arrays sound_log own_codes zero_past
    padded flat laid lists_of changed newest among every any below gathered each_from built_in lookup besides may_hold switch_table decision mode_decision
    watched request_result sample_result mode_result limits_answer limiter_result event_result script_result
examples = record { lines = refl; log = refl; power = refl; taken = refl; refused = refl; full = refl; dropped = refl }

unreached : map disconnected (0 ∷ 1 ∷ 2 ∷ []) ≡ (0, 0) ∷ (0, 1) ∷ (0, 0) ∷ []
unfolding applied sound_meter sound_scalars sound_control sound_limiter sound_alarms bit how_many sound_emergency sound_logs sound_arrays sound_log own_codes zero_past
    padded flat laid lists_of changed newest among any below gathered built_in lookup besides may_hold switch_table decision request_result
unreached = refl

pub near_misses : NearMisses
unfolding applied sound_meter sound_scalars sound_control sound_limiter sound_alarms bit how_many sound_emergency sound_logs sound_arrays sound_log own_codes zero_past
    among any below built_in lookup besides may_hold commanded call_of fresh_answer limits_answer every
near_misses =
    record {
      codes_each = refl;
      unreached = unreached;
      record_first = refl;
      kind_first = refl;
      fresh_order = refl;
      modes = refl;
      switches = refl;
      mode_zero = refl;
      thresholds = refl;
      overs = refl;
      unders = refl;
      runs = refl;
      exceeded_runs = refl;
      alarm_counts = refl;
      samples_left = refl;
      standard_codes = refl;
      fraud_codes = refl;
      disconnect_codes = refl;
      counts = refl;
      clocks_past = refl;
      codes_past = refl;
    }
