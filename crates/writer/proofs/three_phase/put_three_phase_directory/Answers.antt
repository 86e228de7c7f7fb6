use Rattle.writer.proofs.ThreePhaseStored.{three_phase_directory_stored}
use Rattle.writer.proofs.three_phase.put_three_phase_directory.Goals as goal

pub returns : goal.returns
returns c =
    rw (c.put_pair-8.ensures, c.put_pair-7.ensures, c.put_pair-6.ensures, c.put_pair-5.ensures)
    (rw (c.put_pair-4.ensures, c.put_pair-3.ensures, c.put_pair-2.ensures, c.put_pair.ensures) (three_phase_directory_stored _))
