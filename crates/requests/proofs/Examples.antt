-- The examples are computed.
use mathlib.Core.Path.{refl}
use Rattle.codec.specs.Format.{num_at}
use Rattle.requests.specs.Requests.{data_in, descriptor_in, request_in}
use Rattle.requests.specs.Examples.{Examples}

pub examples : Examples
unfolding request_in data_in descriptor_in num_at
examples =
    record {
      get = refl;
      set = refl;
      action = refl;
      no_parameter = refl;
      boolean = refl;
      double_long = refl;
      double_long_unsigned = refl;
      nothing = refl;
      cut_head = refl;
      other_tag = refl;
      with_list = refl;
      get_selection = refl;
      set_selection = refl;
      action_flag = refl;
      get_longer = refl;
      set_longer = refl;
      action_longer = refl;
      set_nothing = refl;
      set_cut = refl;
      action_nothing = refl;
      other_type = refl;
      other_width = refl;
    }
