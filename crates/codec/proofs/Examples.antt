-- The examples, each by computing it.
use mathlib.Core.Path.{refl}
use Rattle.codec.specs.{BigEndian.be, Format.num_at}
use Rattle.codec.specs.Examples.{Examples}

pub examples : Examples
unfolding be num_at
examples = record {
  highest_first = refl;
  read_inside = refl;
  read_cut = refl;
  read_past = refl;
  flag_byte = refl;
  no_flag = (refl, refl);
  pair_bytes = refl;
  times_read = refl;
  pair_tested = refl;
  times_tested = refl;
}
