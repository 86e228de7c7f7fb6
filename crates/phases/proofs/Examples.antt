-- The histories, each by computing it.
use mathlib.Core.Path.{refl}
use Rattle.history.specs.Effects.{reading}
use Rattle.base.specs.Tests.{every}
use Rattle.phases.specs.Examples.{account_from, letter_from, Examples}

pub examples : Examples
unfolding account_from letter_from reading every
examples =
    record {
      three_over_lem = refl;
      three_over_opens = refl;
      three_over_letter = refl;
      one_remains_lem = refl;
      one_remains_open = refl;
      one_remains_letter = refl;
      none_remains = refl;
      none_remains_closes = refl;
      none_remains_letter = refl;
      over_and_under_lem = refl;
      over_and_under_opens = refl;
      over_and_under_letter = refl;
      sum_alone_over = refl;
      sum_alone_opens = refl;
      sum_alone_letter = refl;
      sum_alone_remains = refl;
      sum_alone_remains_open = refl;
      sum_above = refl;
      sum_below = refl;
      sum_signed = refl;
      own_runs = refl;
      armed = refl;
      armed_runs = refl;
      armed_letter = refl;
      set_once = refl;
      set_runs = refl;
      set_exceeded = refl;
      set_thresholds = refl;
      thresholds_refused = refl;
      without_reconnect = refl;
      without_disconnect = refl;
      line_order = refl;
      set_durations = refl;
      registers = refl;
      switches = refl;
      switches_end = refl;
      switches_letters = refl;
      lines = refl;
    }
