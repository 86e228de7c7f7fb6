use Rattle.reader.proofs.ThreePhaseRecord.{tests_are}
use Rattle.reader.proofs.three_phase.three_phase_is_record.Goals as goal

pub returns : goal.returns
returns c =
    rw (c.is_monitored-4.ensures, c.is_monitored-3.ensures, c.is_monitored-2.ensures, c.is_monitored.ensures)
    (tests_are c.args.s.now)
