use Rattle.status.proofs.Status.moved.Goals as goal

pub returns : goal.returns
returns c = rw c.moved-self.ensures
