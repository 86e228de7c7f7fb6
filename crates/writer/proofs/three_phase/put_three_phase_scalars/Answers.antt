use Rattle.writer.proofs.ThreePhaseStored.{scalars_stored}
use Rattle.writer.proofs.three_phase.put_three_phase_scalars.Goals as goal

pub returns : goal.returns
returns c =
    let a = c.args in
    rw (c.put_register.ensures, c.put_alarms.ensures, c.put_u32.ensures, c.put_limiters.ensures, c.put_control.ensures)
    (rw c.put_three_phase_directory.ensures (scalars_stored a.out.now a.m))
