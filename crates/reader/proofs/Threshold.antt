-- The reader's test of the bytes: bytes that pass hold thresholds that their fields can hold, and the record of bytes that do not is not sound.
use Rattle.page.proofs.Common.{◌≡◌, refl, sym, ◌∙◌, Bool, true, false, ◌&&◌, and-true, List, ℕ, ◌≤◌, arith, leb, ltb, leb-true, le-leb, and_left, and_right}
use Rattle.page.proofs.Common.{num_at, is_threshold, is_duration, awaited, sound_settings, sound_limiter, sound_logs, Meter, scalars_of, sound_meter}
use Rattle.page.proofs.Common.{sound_scalars}
use Rattle.base.specs.Tests.{within}
use Rattle.events.specs.Table.{EventRow}
use Rattle.emergency.specs.declared.Emergency.{Emergency}
use Rattle.emergency.specs.Emergency.{in_ranges, sound_emergency}
use Rattle.emergency.proofs.Kept.{Which, empty, waits, runs, which, profile_part}
use Rattle.limiter.specs.declared.Limiter.{Limiter}
use Rattle.steps.proofs.Sound.{limiter_sound, emergency_sound}
use Rattle.page.specs.Layout.{layout, start, meter_in, is_record, holds_sound}

-- a sound limiter has a threshold of its range
pub limiter_threshold : (l : Limiter) → sound_limiter l ≡ true → is_threshold l.threshold ≡ true
unfolding sound_limiter
limiter_threshold l e =
    let settings = and_left (sound_settings l) (ltb l.run (awaited l)) e in
    and_left (is_threshold l.threshold) (is_duration l.over)
    (and_left (is_threshold l.threshold && is_duration l.over) (is_duration l.under) settings)

-- and so has a sound emergency profile, and none at all
profile_threshold : (e : Emergency) → sound_emergency e ≡ true → is_threshold e.threshold ≡ true
profile_threshold e h = by_state (which e (profile_part e h))
  where
    ranged : in_ranges e ≡ true → is_threshold e.threshold ≡ true
    ranged r = and_right (within 1 604800 e.duration) (is_threshold e.threshold) r

    by_state : Which e → is_threshold e.threshold ≡ true
    by_state (empty n) = rw n.threshold
    by_state (waits s r l) = ranged r
    by_state (runs s r l) = ranged r

-- the two thresholds of a record are in their range
abbrev thresholds : Meter → Bool
thresholds m = is_threshold m.limiter.threshold && is_threshold m.emergency.threshold

thresholds_sound : (rows : List EventRow) (m : Meter) → sound_meter rows m ≡ true → thresholds m ≡ true
unfolding sound_meter
thresholds_sound rows m e =
    let scalars = and_left (sound_scalars (scalars_of m)) (sound_logs rows m.logs) e in
    rw (limiter_threshold m.limiter (limiter_sound (scalars_of m) scalars))
    (profile_threshold m.emergency (emergency_sound (scalars_of m) scalars))

-- ---- the reader's test of the bytes

-- where a sound record has thresholds of their ranges, bytes that fail the test of these hold none
pub lacking : (v t m : Bool) → (m ≡ true → t ≡ true) → v && t ≡ false → v && m ≡ false
lacking true t true h e = sym (h refl) ∙ e
lacking true t false h e = refl
lacking false t m h e = refl

valid_is : (s : List ℕ) → layout.valid s start ≡ leb (num_at 1 s 54) 1
unfolding layout
valid_is s = rw (and-true, and-true)

thresholds_are : (s : List ℕ) → thresholds (meter_in s) ≡ leb (num_at 4 s 42) 2147483647 && leb (num_at 4 s 565) 2147483647
unfolding layout
thresholds_are s = rw (le-leb 0 (num_at 4 s 42) (omega arith), le-leb 0 (num_at 4 s 565) (omega arith))

pub tests_are : (s : List ℕ) → leb (num_at 1 s 54) 1 && (leb (num_at 4 s 42) 2147483647 && leb (num_at 4 s 565) 2147483647) ≡ is_record s
tests_are s = rw (valid_is s, thresholds_are s)

module _ (s : List ℕ) where
  -- bytes that pass hold thresholds that their fields can hold
  pub passed_thresholds : is_record s ≡ true → (num_at 4 s 42 ≤ 2147483647) × (num_at 4 s 565 ≤ 2147483647)
  passed_thresholds e =
      let both = sym (thresholds_are s) ∙ and_right (layout.valid s start) (thresholds (meter_in s)) e in (
        leb-true (num_at 4 s 42) 2147483647 (and_left (leb (num_at 4 s 42) 2147483647) (leb (num_at 4 s 565) 2147483647) both),
        leb-true (num_at 4 s 565) 2147483647 (and_right (leb (num_at 4 s 42) 2147483647) (leb (num_at 4 s 565) 2147483647) both),
      )

module _ (rows : List EventRow) (s : List ℕ) where
  -- bytes that do not pass hold no record that is sound, by whatever event table
  pub failed : is_record s ≡ false → holds_sound rows s ≡ false
  unfolding holds_sound
  failed e = lacking (layout.valid s start) (thresholds (meter_in s)) (sound_meter rows (meter_in s)) (thresholds_sound rows (meter_in s)) e

  -- of bytes that pass, the record decides
  pub passed_sound : is_record s ≡ true → holds_sound rows s ≡ sound_meter rows (meter_in s)
  unfolding holds_sound
  passed_sound e = rw (and_left (layout.valid s start) (thresholds (meter_in s)) e)
