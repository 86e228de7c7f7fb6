use Rattle.phases_steps.specs.Scalars.{sound_three_phase_scalars}
use Rattle.phases_steps.proofs.ThreePhaseScalars.sound.Goals as goal

pub returns : goal.returns
unfolding sound_three_phase_scalars
returns c = rw (c.sound-3.ensures, c.sound-2.ensures, c.sound.ensures.value)
