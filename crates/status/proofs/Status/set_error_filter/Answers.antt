use Rattle.status.proofs.Status.set_error_filter.Goals as goal

pub returns : goal.returns
returns c = rw (c.accepted.ensures, c.set_filter-self.ensures)
