-- The record in the bytes of the three-phase meter's page: bytes that pass the reader's test hold thresholds that their fields can hold, and the record of
-- bytes that do not is not sound; the scalars and the arrays of the logs, read apart, make the record, and their tests are its test.
use mathlib.Core.Bool.{and_assoc}
use Rattle.page.proofs.Common.{◌≡◌, refl, ap, ◌∙◌, Bool, true, false, ◌&&◌, and-true, List, [], ◌∷◌, ℕ, ◌+◌, ◌≤◌, add_assoc, leb, leb-true, and_left}
use Rattle.page.proofs.Common.{and_right, every, every_first, every_rest, num_at, pos, is_threshold, sound_limiter, sound_arrays, sound_logs}
use Rattle.events.specs.Table.{EventRow}
use Rattle.registers.specs.Alarms.{sound_alarms}
use Rattle.control.specs.Control.{sound_control}
use Rattle.limiter.specs.declared.Limiter.{Limiter}
use Rattle.page.specs.Layout.{logs_area}
use Rattle.phases_steps.specs.declared.ThreePhaseScalars.{ThreePhaseScalars}
use Rattle.phases_steps.specs.Scalars.{limiters_in, sound_three_phase_scalars}
use Rattle.phases_meter.specs.declared.ThreePhaseMeter.{ThreePhaseMeter}
use Rattle.phases_meter.specs.State.{three_phase_with_logs, sound_three_phase_meter}
use Rattle.phases_meter.proofs.Tail.{sound_is}
use Rattle.phases_page.specs.Layout.{monitored_area, limiters_area, three_phase_layout, three_phase_start, three_phase_meter_in, are_thresholds, three_phase_is_record}
use Rattle.phases_page.specs.Layout.{three_phase_holds_sound}
use Rattle.reader.proofs.Threshold.{limiter_threshold, lacking}

-- ---- the thresholds of a sound record

limiters_thresholds : (a b c d : Limiter) → every sound_limiter (a ∷ b ∷ c ∷ d ∷ []) ≡ true
    → is_threshold a.threshold && (is_threshold b.threshold && (is_threshold c.threshold && is_threshold d.threshold)) ≡ true
limiters_thresholds a b c d e =
    let second = every_rest sound_limiter a (b ∷ c ∷ d ∷ []) e in
    let third = every_rest sound_limiter b (c ∷ d ∷ []) second in
    rw (
      limiter_threshold a (every_first sound_limiter a (b ∷ c ∷ d ∷ []) e),
      limiter_threshold b (every_first sound_limiter b (c ∷ d ∷ []) second),
      limiter_threshold c (every_first sound_limiter c (d ∷ []) third),
    )
    (limiter_threshold d (every_first sound_limiter d [] (every_rest sound_limiter c (d ∷ []) third)))

thresholds_sound : (rows : List EventRow) (m : ThreePhaseMeter) → sound_three_phase_meter rows m ≡ true → are_thresholds m.scalars.limiters ≡ true
unfolding sound_three_phase_meter sound_three_phase_scalars
thresholds_sound rows m e =
    let s = m.scalars in
    let limiters = every sound_limiter (limiters_in s.limiters) in
    let scalars = and_left (sound_three_phase_scalars s) (sound_logs rows m.logs) e in
    let rest = and_right (sound_control s.status.control) (limiters && sound_alarms s.status.alarms) scalars in
    limiters_thresholds _ _ _ _ (and_left limiters (sound_alarms s.status.alarms) rest)

-- ---- the reader's test of the bytes

-- what is tested of a monitored value: that its bytes are those of one, and its threshold
abbrev test : List ℕ → ℕ → Bool
test s at = monitored_area.valid s at && is_threshold (monitored_area.dec s at).threshold

valid_is : (s : List ℕ) → three_phase_layout.valid s three_phase_start ≡ limiters_area.valid s 38
unfolding three_phase_layout
valid_is s = and-true (limiters_area.valid s 38)

swapped : (a p b q : Bool) → (a && p) && (b && q) ≡ (a && b) && (p && q)
swapped true true b q = refl
swapped true false true q = refl
swapped true false false q = refl
swapped false p b q = refl

four : (a b c d p q r t : Bool) → (a && p) && ((b && q) && ((c && r) && (d && t))) ≡ (a && (b && (c && d))) && (p && (q && (r && t)))
four a b c d p q r t = rw (swapped c r d t, swapped b q (c && d) (r && t)) (swapped a p (b && (c && d)) (q && (r && t)))

flat : (a b c d : Bool) → ((a && b) && c) && d ≡ a && (b && (c && d))
flat a b c d = simp and_assoc

pub tests_are : (s : List ℕ) → ((test s 46 && test s 55) && test s 64) && test s 73 ≡ three_phase_is_record s
unfolding three_phase_layout
tests_are s =
    let v : ℕ → Bool = monitored_area.valid s in
    let t : ℕ → Bool = λ at. is_threshold (monitored_area.dec s at).threshold in
    flat (test s 46) (test s 55) (test s 64) (test s 73)
    ∙ rw (valid_is s) (four (v 46) (v 55) (v 64) (v 73) (t 46) (t 55) (t 64) (t 73))

pub passed_thresholds : (s : List ℕ) → three_phase_is_record s ≡ true → are_thresholds (limiters_area.dec s 38) ≡ true
unfolding three_phase_layout
passed_thresholds s e = and_right (three_phase_layout.valid s three_phase_start) (are_thresholds (limiters_area.dec s 38)) e

-- a threshold in its range, by its number of watts
watts : (n : ℕ) → is_threshold (pos n) ≡ true → n ≤ 2147483647
watts n e = leb-true n 2147483647 (and_right (leb 0 n) (leb n 2147483647) e)

four_watts_lem : (k l m n : ℕ) → is_threshold (pos k) && (is_threshold (pos l) && (is_threshold (pos m) && is_threshold (pos n))) ≡ true
    → (k ≤ 2147483647) × ((l ≤ 2147483647) × ((m ≤ 2147483647) × (n ≤ 2147483647)))
four_watts_lem k l m n e =
    let is : ℕ → Bool = λ x. is_threshold (pos x) in
    let second = and_right (is k) (is l && (is m && is n)) e in
    let third = and_right (is l) (is m && is n) second in
    (watts k (and_left (is k) _ e), (watts l (and_left (is l) _ second), (watts m (and_left (is m) _ third), watts n (and_right (is m) _ third))))

pub thresholds_at : (s : List ℕ) (at : ℕ) → are_thresholds (limiters_area.dec s at) ≡ true
    → (num_at 4 s (at + 8) ≤ 2147483647) × ((num_at 4 s (at + 8 + 9) ≤ 2147483647)
    × ((num_at 4 s (at + 8 + 18) ≤ 2147483647) × (num_at 4 s (at + 8 + 27) ≤ 2147483647)))
thresholds_at s at e =
    simp add_assoc (four_watts_lem (num_at 4 s (at + 8)) (num_at 4 s (at + 17)) (num_at 4 s (at + 26)) (num_at 4 s (at + 35)) (simp add_assoc at e))

module _ (rows : List EventRow) (s : List ℕ) where
  -- bytes that do not pass hold no record that is sound, by whatever event table
  pub failed : three_phase_is_record s ≡ false → three_phase_holds_sound rows s ≡ false
  unfolding three_phase_holds_sound
  failed e =
      lacking (three_phase_layout.valid s three_phase_start) (are_thresholds (three_phase_meter_in s).scalars.limiters)
      (sound_three_phase_meter rows (three_phase_meter_in s)) (thresholds_sound rows (three_phase_meter_in s)) e

  -- of bytes that pass, the record decides
  pub passed_sound : three_phase_is_record s ≡ true → three_phase_holds_sound rows s ≡ sound_three_phase_meter rows (three_phase_meter_in s)
  unfolding three_phase_holds_sound
  passed_sound e =
      rw (and_left (three_phase_layout.valid s three_phase_start) (are_thresholds (three_phase_meter_in s).scalars.limiters) e)

-- ---- the record in its parts

module _ (rows : List EventRow) (s : List ℕ) {x : ThreePhaseScalars} {counts clocks codes : List ℕ} (scalars : x ≡ (three_phase_meter_in s).scalars)
    (ks : counts ≡ (logs_area.dec s 103).counts) (ts : clocks ≡ (logs_area.dec s 103).clocks) (cs : codes ≡ (logs_area.dec s 103).codes) where
  pub parts_make : three_phase_with_logs x counts clocks codes ≡ three_phase_meter_in s
  unfolding three_phase_layout
  parts_make = λ i. three_phase_with_logs (scalars i) (ks i) (ts i) (cs i)

  pub parts_sound : (a b : Bool) → a ≡ sound_three_phase_scalars x → b ≡ sound_arrays rows counts clocks codes
      → a && b ≡ sound_three_phase_meter rows (three_phase_meter_in s)
  parts_sound a b p q = sound_is rows (three_phase_with_logs x counts clocks codes) a b p q ∙ ap (sound_three_phase_meter rows) parts_make
