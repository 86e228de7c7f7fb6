-- The laws of responses: their lengths, and examples that are computed.
use mathlib.Core.Path.{refl}
use Rattle.codec.specs.BigEndian.{be}
use Rattle.responses.specs.Responses.{response_bytes}
use Rattle.responses.specs.Laws.{Laws}
use Rattle.responses.proofs.Lengths.{size, size_small}

pub laws : Laws
unfolding response_bytes be
laws =
    record {
      sizes = size;
      at_most_nine = size_small;
      connected = refl;
      watts = refl;
      unknown = refl;
      denied = refl;
      unmatched = refl;
      acted = refl;
      set_done = refl;
      action_denied = refl;
      action_unknown = refl;
      action_unmatched = refl;
    }
