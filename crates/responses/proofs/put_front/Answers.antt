use Rattle.codec.proofs.Stores.{sets_cat}
use Rattle.codec.proofs.Numbers.{length_be}
use native.Mathlib.Nat.{add_assoc, zero-add}
use Rattle.responses.proofs.put_front.Goals as goal

pub returns : goal.returns
returns c =
    rw (c.put_u8-4.ensures, c.put_u8-3.ensures, c.put_u8-2.ensures, c.put_u8.ensures)
    (simp (sets_cat, length_be, add_assoc, zero-add))
