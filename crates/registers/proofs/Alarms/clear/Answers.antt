use Rattle.registers.proofs.Alarms.clear.Goals as goal

pub returns : goal.returns
returns c = rw (c.counting.ensures, c.clear.ensures)
