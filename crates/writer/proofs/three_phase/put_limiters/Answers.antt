use Rattle.writer.proofs.ThreePhaseStored.{limiters_stored}
use Rattle.writer.proofs.three_phase.put_limiters.Goals as goal

pub returns : goal.returns
returns c =
    let a = c.args in
    rw (c.put_monitored-4.ensures, c.put_monitored-3.ensures, c.put_monitored-2.ensures, c.put_monitored.ensures)
    (rw (c.put_u32-2.ensures, c.put_u32.ensures) (limiters_stored a.out.now a.at a.l))
