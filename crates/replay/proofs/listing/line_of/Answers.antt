use Rattle.replay.proofs.listing.line_of.Goals as goal

pub returns : goal.returns
returns c = rw (← c.number.ensures) c.line_with.ensures
