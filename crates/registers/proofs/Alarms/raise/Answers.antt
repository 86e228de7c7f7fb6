use Rattle.registers.proofs.Counts.{alarm_laws}
use Rattle.registers.proofs.Alarms.raise.Goals as goal

pub returns : goal.returns
returns c =
    record {
      value = rw (c.counting.ensures, c.raise.ensures.value);
      laws = alarm_laws;
    }
