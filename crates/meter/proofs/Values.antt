-- Records and values: of what is sound, each is read off the other.
use mathlib.Core.Path.{◌≡◌, refl}
use mathlib.Core.Bool.{true, and-true}
use mathlib.Core.List.{List, [], ◌∷◌}
use native.Mathlib.Omega.{arith}
use lib.ListN.{length}
use Rattle.base.proofs.Bools.{and_left, and_right}
use Rattle.events.specs.Table.{EventRow}
use Rattle.logs.specs.Lists.{sound_lists}
use Rattle.logs.specs.Layout.{Sized, sound_logs}
use Rattle.logs.proofs.Places.{Short}
use Rattle.logs.proofs.Sized.{laid_sized}
use Rattle.logs.proofs.Read.{laid_lists}
use Rattle.logs.proofs.Inverse.{lists_laid, laid_sound, lists_sound}
use Rattle.logs.proofs.Kept.{lists_length, lists_short}
use Rattle.base.specs.Tests.{every}
use Rattle.limiter.specs.declared.Limiter.{Limiter}
use Rattle.limiter.specs.Limiter.{sound_limiter}
use Rattle.machine.specs.Values.{State}
use Rattle.machine.specs.Sound.{sound_values, sound_state}
use Rattle.steps.specs.declared.Scalars.{Scalars}
use Rattle.steps.specs.Scalars.{values_of, first_limiter, sound_scalars}
use Rattle.meter.specs.declared.Meter.{Meter}
use Rattle.meter.specs.State.{state_of, scalars_of, record_of}
use Rattle.meter.specs.Sound.{sound_meter}

-- ---- the scalars are sound if their values are
pub same_soundness : (s : Scalars) → sound_values (values_of s) ≡ sound_scalars s
unfolding sound_values sound_scalars every
same_soundness s = rw (and-true (sound_limiter s.limiter))

-- ---- of a sound record
module _ (rows : List EventRow) (m : Meter) (z : Sized m.logs) (e : sound_meter rows m ≡ true) where
  arrays_sound : sound_logs rows m.logs ≡ true
  unfolding sound_meter
  arrays_sound = and_right (sound_scalars (scalars_of m)) (sound_logs rows m.logs) e

  pub record_of_state : record_of (state_of m) ≡ m
  record_of_state = λ i. record {
    control = m.control;
    limiter = m.limiter;
    clock = m.clock;
    alarms = m.alarms;
    errors = m.errors;
    logs = laid_lists rows m.logs z arrays_sound i;
    emergency = m.emergency;
  }

  pub state_sound : sound_state rows (state_of m) ≡ true
  unfolding sound_meter sound_state
  state_sound =
      rw (same_soundness (scalars_of m), and_left (sound_scalars (scalars_of m)) (sound_logs rows m.logs) e)
      (lists_sound rows m.logs z arrays_sound)

-- ---- of sound values with one limiter
one_limiter : (ls : List Limiter) → length ls ≡ 1 → first_limiter ls ∷ [] ≡ ls
one_limiter [] e = absurd (omega arith)
one_limiter (l ∷ []) e = refl
one_limiter (l ∷ k ∷ ls) e = absurd (omega arith)

module _ (rows : List EventRow) (v : State) (one : length v.values.limiters ≡ 1) (e : sound_state rows v ≡ true) where
  same_values : values_of (scalars_of (record_of v)) ≡ v.values
  same_values =
      let w = v.values in
      λ i. record { control = w.control; limiters = one_limiter w.limiters one i; clock = w.clock; alarms = w.alarms; errors = w.errors; emergency = w.emergency }

  pub logs_sound : sound_lists rows v.logs ≡ true
  unfolding sound_state
  logs_sound = and_right (sound_values v.values) (sound_lists rows v.logs) e

  short : Short v.logs
  short = lists_short rows v.logs logs_sound

  pub state_of_record : state_of (record_of v) ≡ v
  state_of_record = λ i. record { values = same_values i; logs = lists_laid v.logs short i }

  scalars_sound : sound_scalars (scalars_of (record_of v)) ≡ true
  unfolding sound_state
  scalars_sound = rw (← same_soundness (scalars_of (record_of v)), same_values) (and_left (sound_values v.values) (sound_lists rows v.logs) e)

  pub record_sound : sound_meter rows (record_of v) ≡ true
  unfolding sound_meter
  record_sound = rw scalars_sound (laid_sound rows v.logs short logs_sound)

  pub record_sized : Sized (record_of v).logs
  record_sized = laid_sized v.logs (lists_length rows v.logs logs_sound) short
