use native.Mathlib.Omega.{arith}
use Rattle.codec.proofs.Stores.{sets_cat}
use Rattle.codec.proofs.Numbers.{length_be}
use Rattle.responses.proofs.Lengths.{short_length, long_length, short_bytes, long_bytes}
use Rattle.responses.proofs.put_data.Goals as goal

pub returns-in-Boolean : goal.returns-in-Boolean
returns-in-Boolean c =
    let e = short_bytes c.args.value _ c.in-Boolean.is in
    rw (e, c.put_u8-in-Boolean.ensures, c.put_u8.ensures, c.tag.ensures) (omega arith, (short_length _ _, simp (sets_cat, length_be)))

pub returns-in-DoubleLong : goal.returns-in-DoubleLong
returns-in-DoubleLong c =
    let e = long_bytes c.args.value _ c.in-DoubleLong.is in
    rw (e, c.put_u32.ensures, c.put_u8.ensures, c.tag.ensures) (omega arith, (long_length _ _, simp (sets_cat, length_be)))
