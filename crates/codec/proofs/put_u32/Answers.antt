use Rattle.base.proofs.Prelude.{◌≡◌, ◌+◌, suc, arith}
use native.Mathlib.Nat.{div-one}
use Rattle.codec.specs.BigEndian.{be}
use Rattle.codec.proofs.put_u32.Goals as goal

pub returns : goal.returns
unfolding be
returns c =
    let at = c.args.at in
    let e1 : at + 1 ≡ suc at = omega arith in
    let e2 : at + 2 ≡ suc (suc at) = omega arith in
    let e3 : at + 3 ≡ suc (suc (suc at)) = omega arith in
    rw (c.to_be_bytes.ensures, div-one, e1, e2, e3)
