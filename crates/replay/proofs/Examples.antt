-- The examples, computed.
use mathlib.Core.Path.{refl}
use Rattle.codec.specs.BigEndian.{be}
use Rattle.codec.specs.Format.{num_at}
use Rattle.calls.specs.Calls.{call_of}
use Rattle.meter.specs.Settings.{fresh_answer}
use Rattle.replay.specs.Replay.{calls_in, replay_answer}
use Rattle.replay.specs.Listing.{digits, decimal, field, line_bytes}
use Rattle.replay.specs.Examples.{Examples}

pub examples : Examples
unfolding calls_in call_of decimal digits field line_bytes replay_answer be num_at fresh_answer
examples =
    record {
      settings = refl;
      first_bytes = refl;
      settings_signed = refl;
      calls = refl;
      no_kind = refl;
      zero = refl;
      largest = refl;
      line = refl;
      empty = refl;
      first_cut = refl;
      bad = refl;
      refused = refl;
      cut = refl;
      small_buffer = refl;
      taken = refl;
    }
