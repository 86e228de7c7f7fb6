use mathlib.Core.Path.{sym}
use Rattle.replay.proofs.Records.{record_numbers, record_past}
use Rattle.replay.proofs.input.record_at.Goals as goal

pub returns-then-bytes-at : goal.returns-then-bytes-at
returns-then-bytes-at c = sym (record_past _ _ c.if-bytes-at.true)

pub returns : goal.returns
returns c =
    let a = c.args in
    cc (record_numbers a.bytes.now a.at)
