-- Records of the three-phase meter and values: of what is sound, each is read off the other.
use Rattle.base.proofs.Prelude.{◌≡◌, true, and-true, List, below, and_left, and_right}
use Rattle.events.specs.Table.{EventRow}
use Rattle.emergency.specs.Emergency.{sound_emergency}
use Rattle.logs.specs.Lists.{sound_lists}
use Rattle.logs.specs.Layout.{Sized, sound_logs}
use Rattle.logs.proofs.Places.{Short}
use Rattle.logs.proofs.Sized.{laid_sized}
use Rattle.logs.proofs.Read.{laid_lists}
use Rattle.logs.proofs.Inverse.{lists_laid, laid_sound, lists_sound}
use Rattle.logs.proofs.Kept.{lists_length, lists_short}
use Rattle.registers.specs.Alarms.{sound_alarms}
use Rattle.machine.specs.Values.{Values, State}
use Rattle.machine.specs.Sound.{sound_values, sound_state}
use Rattle.phases_steps.specs.declared.ThreePhaseScalars.{ThreePhaseScalars}
use Rattle.phases_steps.specs.Scalars.{three_phase_values, three_phase_scalars, sound_three_phase_scalars}
use Rattle.phases_meter.specs.declared.ThreePhaseMeter.{ThreePhaseMeter}
use Rattle.phases_meter.specs.State.{three_phase_state_of, three_phase_record_of, sound_three_phase_meter}

-- ---- the scalars are sound if their values are
pub same_soundness : (s : ThreePhaseScalars) → sound_values (three_phase_values s) ≡ sound_three_phase_scalars s
unfolding sound_values sound_three_phase_scalars sound_emergency below
same_soundness s = rw (and-true (sound_alarms s.status.alarms))

-- ---- of a sound record
module _ (rows : List EventRow) (m : ThreePhaseMeter) (z : Sized m.logs) (e : sound_three_phase_meter rows m ≡ true) where
  arrays_sound : sound_logs rows m.logs ≡ true
  unfolding sound_three_phase_meter
  arrays_sound = and_right (sound_three_phase_scalars m.scalars) (sound_logs rows m.logs) e

  pub record_of_state : three_phase_record_of (three_phase_state_of m) ≡ m
  record_of_state = λ i. record { scalars = m.scalars; logs = laid_lists rows m.logs z arrays_sound i }

  pub state_sound : sound_state rows (three_phase_state_of m) ≡ true
  unfolding sound_three_phase_meter sound_state
  state_sound =
      rw (same_soundness m.scalars, and_left (sound_three_phase_scalars m.scalars) (sound_logs rows m.logs) e)
      (lists_sound rows m.logs z arrays_sound)

-- ---- values that a record can hold: four limiters with the same Over and Under, and no profile
abbrev pub Recorded : Values → Type 0
Recorded v = three_phase_values (three_phase_scalars v) ≡ v

-- ---- of sound ones
module _ (rows : List EventRow) (v : State) (same : Recorded v.values) (e : sound_state rows v ≡ true) where
  pub logs_sound : sound_lists rows v.logs ≡ true
  unfolding sound_state
  logs_sound = and_right (sound_values v.values) (sound_lists rows v.logs) e

  short : Short v.logs
  short = lists_short rows v.logs logs_sound

  pub state_of_record : three_phase_state_of (three_phase_record_of v) ≡ v
  state_of_record = λ i. record { values = same i; logs = lists_laid v.logs short i }

  scalars_sound : sound_three_phase_scalars (three_phase_scalars v.values) ≡ true
  unfolding sound_state
  scalars_sound =
      rw (← same_soundness (three_phase_scalars v.values), same) (and_left (sound_values v.values) (sound_lists rows v.logs) e)

  pub record_sound : sound_three_phase_meter rows (three_phase_record_of v) ≡ true
  unfolding sound_three_phase_meter
  record_sound = rw scalars_sound (laid_sound rows v.logs short logs_sound)

  pub record_sized : Sized (three_phase_record_of v).logs
  record_sized = laid_sized v.logs (lists_length rows v.logs logs_sound) short
