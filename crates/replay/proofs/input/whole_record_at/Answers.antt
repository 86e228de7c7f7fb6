use native.Mathlib.Omega.{arith}
use Rattle.codec.proofs.Numbers.{num_at_byte}
use Rattle.replay.proofs.Records.{record_numbers}
use Rattle.replay.proofs.input.whole_record_at.Goals as goal

pub overflow_cast-kind : goal.overflow_cast-kind
overflow_cast-kind c = record { fits = omega (arith, c.shared_slice_known-2-1.given c.args.at) }

pub returns : goal.returns
returns c =
    let a = c.args in
    cc (record_numbers a.bytes.now a.at, num_at_byte a.bytes.now a.at)
