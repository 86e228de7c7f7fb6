-- What holds of the three-phase meter's scalars and their values.
use Rattle.std.specs.Prelude.{◌≡◌}
use Rattle.phases_steps.specs.declared.ThreePhaseScalars.{ThreePhaseScalars}
use Rattle.phases_steps.specs.Scalars.{three_phase_values, three_phase_scalars}

-- of scalars and of their values
pub record Laws : Type 0 where
  -- the scalars are read off their values again: '.. with a threshold and Run each ..', each monitored value has its own threshold, Exceeded and Run
  pub scalars_back : (s : ThreePhaseScalars) → three_phase_scalars (three_phase_values s) ≡ s
