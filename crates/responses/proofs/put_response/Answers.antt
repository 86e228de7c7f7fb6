use mathlib.Core.Path.{sym}
use Rattle.responses.specs.Responses.{response_bytes}
use Rattle.responses.proofs.Lengths.{front_length, behind, behind_length, byte_length}
use Rattle.responses.proofs.Laws.{laws}
use Rattle.responses.proofs.put_response.Goals as goal

pub returns-in-GetData : goal.returns-in-GetData
unfolding response_bytes
returns-in-GetData c =
    rw c.in-GetData.is
    (record { value = (behind_length 196 _ 0 _ _ c.put_data-n.ensures.1.0, behind _ _ _ 196 _ 0 _ c.put_front.ensures c.put_data-n.ensures.1.1); laws = laws })

pub returns-in-GetResult : goal.returns-in-GetResult
unfolding response_bytes
returns-in-GetResult c =
    rw (c.in-GetResult.is, ← c.number.ensures)
    (record { value = (behind_length 196 _ 1 _ 1 (byte_length _), behind _ _ _ 196 _ 1 _ c.put_front-in-GetResult.ensures c.put_u8.ensures); laws = laws })

pub returns-in-SetResult : goal.returns-in-SetResult
unfolding response_bytes
returns-in-SetResult c =
    rw (c.in-SetResult.is, ← c.number-in-SetResult.ensures)
    (record { value = (sym (front_length 197 _ _), c.put_front-in-SetResult.ensures); laws = laws })

pub returns-in-ActionResult : goal.returns-in-ActionResult
unfolding response_bytes
returns-in-ActionResult c =
    rw (c.in-ActionResult.is, ← c.number-in-ActionResult.ensures)
    (record { value = (behind_length 199 _ _ _ 1 (byte_length _), behind _ _ _ 199 _ _ _ c.put_front-in-ActionResult.ensures c.put_u8-in-ActionResult.ensures); laws = laws })
