use Rattle.requests.proofs.Bytes.{descriptor_bytes}
use Rattle.requests.proofs.described.descriptor_in.Goals as goal

pub returns : goal.returns
returns c =
    rw (c.from-low.ensures, c.u32_at.ensures, c.from-high.ensures, c.get_u16.ensures, c.get_u16-class.ensures)
    (descriptor_bytes _)
