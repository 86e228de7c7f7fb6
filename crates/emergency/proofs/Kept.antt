-- A sound area is in one of three states, its ids past the count are zero, and every step keeps it sound.
use Rattle.base.proofs.Prelude.{◌≡◌, refl, true, ◌&&◌, List, ℕ, ◌-◌, ◌<◌, ◌≤◌, arith, eqb, leb, ℤ}
use Rattle.base.proofs.Prelude.{pos, length, get_or, length-take, le-leb, le-ltb, eq-eqb, eqb-true, leb-true}
use Rattle.base.proofs.Prelude.{leb-false, within, by_test, and_left, and_right}
use Rattle.base.proofs.Below.{below_at}
use Rattle.base.proofs.Signed.{number_same}
use Rattle.base.specs.Tests.{eq_z}
use Rattle.limiter.specs.Limiter.{is_threshold}
use Rattle.emergency.specs.declared.Emergency.{Emergency}
use Rattle.emergency.specs.Emergency.{is_empty, is_duration, in_ranges, sound_profile, sound_groups, sound_emergency, EightIds, groups_in, padded, with_fields}
use Rattle.emergency.specs.Emergency.{with_groups, with_profile, without_profile, started, ended}
pub use Rattle.emergency.proofs.Places.{padded_eight, taken_back}
use Rattle.emergency.proofs.Places.{padded_sound, places_back}

-- no profile: 'with state 0 the first five are zero'
pub record Empty (e : Emergency) : Type 0 where
  pub state : e.state ≡ 0
  pub id : e.id ≡ 0
  pub threshold : e.threshold ≡ pos 0
  pub activation : e.activation ≡ 0
  pub duration : e.duration ≡ 0
  pub left : e.left ≡ 0

pub data Which (e : Emergency) : Type 0 where
  empty : Empty e → Which e
  waits : e.state ≡ 1 → in_ranges e ≡ true → e.left ≡ e.duration → Which e
  runs : e.state ≡ 2 → in_ranges e ≡ true → within 1 e.duration e.left ≡ true → Which e

empty_fields : (e : Emergency) → e.state ≡ 0 → is_empty e ≡ true → Empty e
empty_fields e s five =
    let four = and_right (eqb e.id 0) _ five in
    let three = and_right (eq_z e.threshold (pos 0)) _ four in
    let two = and_right (eqb e.activation 0) _ three in
    record {
      state = s;
      id = eqb-true e.id 0 (and_left _ _ five);
      threshold = number_same e.threshold (pos 0) (and_left _ _ four);
      activation = eqb-true e.activation 0 (and_left _ _ three);
      duration = eqb-true e.duration 0 (and_left _ _ two);
      left = eqb-true e.left 0 (and_right (eqb e.duration 0) _ two);
    }

pub which : (e : Emergency) → sound_profile e ≡ true → Which e
which e h =
    by_test (eqb e.state 0) (λ p. empty (empty_fields e (eqb-true e.state 0 p) (rw p at h)))
    (λ p. by_test (eqb e.state 1)
    (λ q.
    let r = rw (p, q) at h in
    waits (eqb-true e.state 1 q) (and_right (eqb e.left e.duration) _ r) (eqb-true e.left e.duration (and_left _ _ r)))
    (λ q.
    let r = rw (p, q) at h in
    let s = and_right (eqb e.state 2) _ r in
    runs (eqb-true e.state 2 (and_left _ _ r)) (and_right (within 1 e.duration e.left) _ s) (and_left _ _ s)))

-- the group ids, and the eight places from them
module _ (e : Emergency) (z : EightIds e) (h : sound_groups e ≡ true) where
  pub count_back : length (groups_in e) ≡ e.count
  count_back = omega (arith, length-take e.count e.ids, z, leb-true e.count 8 (and_left _ _ h))

  pub ids_back : padded (groups_in e) ≡ e.ids
  ids_back = places_back e.count e.ids z (λ j l b. eqb-true (get_or e.ids j 0) 0 (past j l b))
    where
      past : (j : ℕ) → e.count ≤ j → j < 8 → eqb (get_or e.ids j 0) 0 ≡ true
      past j l b = rw (le-ltb j e.count l) at (below_at _ j 8 b (and_right (leb e.count 8) _ h))

-- both parts of soundness
module _ (e : Emergency) where
  pub profile_part : sound_emergency e ≡ true → sound_profile e ≡ true
  unfolding sound_emergency
  profile_part h = and_left (sound_profile e) (sound_groups e) h

  pub groups_part : sound_emergency e ≡ true → sound_groups e ≡ true
  unfolding sound_emergency
  groups_part h = and_right (sound_profile e) (sound_groups e) h

  pub both_parts : sound_profile e ≡ true → sound_groups e ≡ true → sound_emergency e ≡ true
  unfolding sound_emergency
  both_parts p g = rw (p, g)

-- every step keeps it sound
module _ (e : Emergency) where
  pub groups_sound : (gs : List ℕ) → length gs ≤ 8 → sound_emergency e ≡ true → sound_emergency (with_groups e gs) ≡ true
  groups_sound gs l h = both_parts (with_groups e gs) (profile_part e h) (padded_sound gs l)

  pub waiting_sound : (i : ℕ) (t : ℤ) (a d : ℕ) → is_duration d && is_threshold t ≡ true → sound_emergency e ≡ true
      → sound_emergency (with_profile e i t a d) ≡ true
  waiting_sound i t a d r h = both_parts (with_profile e i t a d) (rw (eq-eqb d d refl, r)) (groups_part e h)

  active_sound : (n : ℕ) → in_ranges e ≡ true → 1 ≤ n → n ≤ e.duration → sound_emergency e ≡ true
      → sound_emergency (with_fields e e.id e.threshold e.activation e.duration n 2) ≡ true
  active_sound n r l m h =
      both_parts (with_fields e e.id e.threshold e.activation e.duration n 2) (rw (le-leb 1 n l, le-leb n e.duration m, r)) (groups_part e h)

pub started_sound : (clock : ℕ) (e : Emergency) → sound_emergency e ≡ true → sound_emergency (started clock e) ≡ true
started_sound clock e h =
    by_test (eqb e.state 1 && leb e.activation clock) (λ q. rw q (go (eqb-true e.state 1 (and_left _ _ q)) (which e (profile_part e h)))) (λ q. rw q h)
  where
    go : e.state ≡ 1 → Which e → sound_emergency (with_fields e e.id e.threshold e.activation e.duration e.left 2) ≡ true
    go s (empty n) = absurd (omega (arith, s, n.state))
    go s (waits k r l) =
        active_sound e e.left r (omega (arith, l, leb-true 1 e.duration (and_left _ _ (and_left _ _ r)))) (omega (arith, l)) h
    go s (runs k r l) = absurd (omega (arith, s, k))

pub ended_sound : (e : Emergency) → sound_emergency e ≡ true → sound_emergency (ended e) ≡ true
ended_sound e h =
    by_test (eqb e.state 2)
    (λ p. by_test (leb e.left 1) (λ q. rw (p, q) (both_parts (without_profile e) refl (groups_part e h)))
    (λ q. rw (p, q) (go (eqb-true e.state 2 p) (leb-false e.left 1 q) (which e (profile_part e h)))))
    (λ p. rw p h)
  where
    go : e.state ≡ 2 → 1 < e.left → Which e
        → sound_emergency (with_fields e e.id e.threshold e.activation e.duration (e.left - 1) e.state) ≡ true
    go s m (empty n) = absurd (omega (arith, s, n.state))
    go s m (waits k r l) = absurd (omega (arith, s, k))
    go s m (runs k r l) =
        rw s (active_sound e (e.left - 1) r (omega (arith, m)) (omega (arith, leb-true e.left e.duration (and_right (leb 1 e.left) _ l))) h)
