-- The parts of sound scalars.
use mathlib.Core.Path.{◌≡◌}
use mathlib.Core.Bool.{Bool, true, ◌&&◌}
use Rattle.base.proofs.Bools.{and_left, and_right}
use Rattle.registers.specs.Alarms.{sound_alarms}
use Rattle.control.specs.Control.{sound_control}
use Rattle.limiter.specs.Limiter.{sound_limiter}
use Rattle.emergency.specs.Emergency.{sound_emergency}
use Rattle.steps.specs.declared.Scalars.{Scalars}
use Rattle.steps.specs.Scalars.{sound_scalars}

module _ (s : Scalars) (h : sound_scalars s ≡ true) where
  abbrev tail : Bool
  tail = sound_alarms s.alarms && sound_emergency s.emergency

  pub control_sound : sound_control s.control ≡ true
  unfolding sound_scalars
  control_sound = and_left (sound_control s.control) (sound_limiter s.limiter && tail) h

  rest_sound : sound_limiter s.limiter && tail ≡ true
  unfolding sound_scalars
  rest_sound = and_right (sound_control s.control) (sound_limiter s.limiter && tail) h

  pub limiter_sound : sound_limiter s.limiter ≡ true
  limiter_sound = and_left (sound_limiter s.limiter) tail rest_sound

  pub alarms_sound : sound_alarms s.alarms ≡ true
  alarms_sound = and_left (sound_alarms s.alarms) (sound_emergency s.emergency) (and_right (sound_limiter s.limiter) tail rest_sound)

  pub emergency_sound : sound_emergency s.emergency ≡ true
  emergency_sound = and_right (sound_alarms s.alarms) (sound_emergency s.emergency) (and_right (sound_limiter s.limiter) tail rest_sound)
