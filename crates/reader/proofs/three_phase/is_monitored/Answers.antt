use Rattle.page.proofs.Common.{◌+◌, and-true, arith, leb, le-leb, num_at}
use Rattle.reader.proofs.three_phase.is_monitored.Goals as goal

pub returns : goal.returns
returns c =
    let a = c.args in
    let n = num_at 4 a.s.now a.at in
    rw (c.get_u8.ensures, c.get_u32.ensures, le-leb 0 n (omega arith), and-true (leb (num_at 1 a.s.now (a.at + 4)) 1))
