use Rattle.registers.proofs.Alarms.set_filter.Goals as goal

pub returns : goal.returns
returns c = rw c.set_filter-self.ensures
