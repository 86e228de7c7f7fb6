-- The examples, computed.
use mathlib.Core.Path.{refl}
use Rattle.codec.specs.BigEndian.{be}
use Rattle.codec.specs.Format.{num_at}
use Rattle.phases.specs.Calls.{three_phase_call_of}
use Rattle.phases_meter.specs.Settings.{three_phase_fresh_answer}
use Rattle.phases_replay.specs.Replay.{three_phase_calls_in, three_phase_replay_answer}
use Rattle.phases_replay.specs.Examples.{Examples}

pub examples : Examples
unfolding three_phase_calls_in three_phase_call_of three_phase_replay_answer be num_at three_phase_fresh_answer
examples =
    record {
      settings = refl;
      calls = refl;
      no_kind = refl;
      empty = refl;
      first_cut = refl;
      bad = refl;
      mode_refused = refl;
      threshold_refused = refl;
      duration_refused = refl;
      cut = refl;
      small_buffer = refl;
      taken = refl;
    }
