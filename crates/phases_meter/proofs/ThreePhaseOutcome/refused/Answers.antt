use Rattle.phases_meter.proofs.ThreePhaseOutcome.refused.Goals as goal

pub returns : goal.returns
returns c = rw c.with_settings-meter.ensures
