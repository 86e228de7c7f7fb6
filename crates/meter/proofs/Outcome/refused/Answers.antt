use Rattle.meter.proofs.Outcome.refused.Goals as goal

pub returns : goal.returns
returns c = rw c.with_settings-meter.ensures
