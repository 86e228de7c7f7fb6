use Rattle.status.proofs.Status.set_clock.Goals as goal

pub returns : goal.returns
returns c = rw (c.logged_two.ensures, c.clear-self.ensures)
