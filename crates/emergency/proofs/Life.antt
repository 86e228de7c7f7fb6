-- A profile's life: it waits, governs its samples and is gone, and the group ids stay.
use Rattle.base.proofs.Prelude.{◌≡◌, refl, ◌&&◌, cond, List, ℕ, zero, suc, ◌-◌, ◌<◌, ◌≤◌, arith, eqb, leb, ltb, ℤ, lt-ltb, le-ltb}
use Rattle.base.proofs.Prelude.{le-leb, lt-leb, leb-true, leb-false, ltb-true, ltb-false, by_test}
use Rattle.emergency.specs.declared.Emergency.{Emergency}
use Rattle.emergency.specs.Emergency.{groups_in, with_fields, with_groups, with_profile, without_profile, started, ended, in_force}
use Rattle.emergency.specs.Laws.{after_governed, Laws}
use Rattle.emergency.proofs.Kept.{groups_sound, waiting_sound, started_sound, ended_sound, taken_back}

module _ (e : Emergency) (i : ℕ) (t : ℤ) (a d : ℕ) where
  stays_gone : (k : ℕ) → after_governed k (without_profile e) ≡ without_profile e
  unfolding after_governed
  stays_gone zero = refl
  stays_gone (suc k) = stays_gone k

  -- active with n samples left, after k more
  after : (k n : ℕ) → 1 ≤ n → after_governed k (with_fields e i t a d n 2) ≡ cond (ltb k n) (with_fields e i t a d (n - k) 2) (without_profile e)
  unfolding after_governed
  after zero n h =
      let none : n - 0 ≡ n = omega arith in
      rw (lt-ltb 0 n h, none)
  after (suc k) n h =
      by_test (leb n 1) (λ q. rw (q, le-ltb (suc k) n (omega (arith, leb-true n 1 q))) (stays_gone k))
      (λ q.
      let more = leb-false n 1 q in
      let less : n - 1 - k ≡ n - suc k = omega arith in
      rw (q, after k (n - 1) (omega (arith, more)), less)
      (by_test (ltb k (n - 1)) (λ p. rw (p, lt-ltb (suc k) n (omega (arith, ltb-true k (n - 1) p))))
      (λ p. rw (p, le-ltb (suc k) n (omega (arith, more, ltb-false k (n - 1) p))))))

  waits : (normal : ℤ) → in_force (with_profile e i t a d) normal ≡ normal
  waits normal = refl

  not_governed : ended (with_profile e i t a d) ≡ with_profile e i t a d
  not_governed = refl

  module _ (clock : ℕ) where
    before_activation : clock < a → started clock (with_profile e i t a d) ≡ with_profile e i t a d
    before_activation h = rw (lt-leb a clock h)

    governs : (k : ℕ) (normal : ℤ) → a ≤ clock → 1 ≤ d → in_force (after_governed k (started clock (with_profile e i t a d))) normal ≡ cond (ltb k d) t normal
    governs k normal h l = rw (le-leb a clock h, after k d l) (by_test (ltb k d) (λ q. rw q) (λ q. rw q))

    gone : a ≤ clock → 1 ≤ d → after_governed d (started clock (with_profile e i t a d)) ≡ without_profile e
    gone h l = rw (le-leb a clock h, after d d l, le-ltb d d (omega arith))

module _ (e : Emergency) where
  only_state : (clock : ℕ) → started clock e ≡ with_fields e e.id e.threshold e.activation e.duration e.left (started clock e).state
  only_state clock = by_test (eqb e.state 1 && leb e.activation clock) (λ q. rw q) (λ q. rw q)

  start_groups : (clock : ℕ) → groups_in (started clock e) ≡ groups_in e
  start_groups clock = by_test (eqb e.state 1 && leb e.activation clock) (λ q. rw q) (λ q. rw q)

  end_groups : groups_in (ended e) ≡ groups_in e
  end_groups = by_test (eqb e.state 2) (λ p. by_test (leb e.left 1) (λ q. rw (p, q)) (λ q. rw (p, q))) (λ p. rw p)

  groups_then_start : (gs : List ℕ) (clock : ℕ) → started clock (with_groups e gs) ≡ with_groups (started clock e) gs
  groups_then_start gs clock = by_test (eqb e.state 1 && leb e.activation clock) (λ q. rw q) (λ q. rw q)

  groups_then_end : (gs : List ℕ) → ended (with_groups e gs) ≡ with_groups (ended e) gs
  groups_then_end gs = by_test (eqb e.state 2) (λ p. by_test (leb e.left 1) (λ q. rw (p, q)) (λ q. rw (p, q))) (λ p. rw p)

pub laws : Laws
laws e =
    record {
      start_sound = λ clock. started_sound clock e;
      end_sound = ended_sound e;
      profile_sound = waiting_sound e;
      groups_sound = groups_sound e;
      waits = waits e;
      before_activation = before_activation e;
      not_governed = not_governed e;
      governs = governs e;
      gone = gone e;
      only_state = only_state e;
      start_groups = start_groups e;
      end_groups = end_groups e;
      profile_groups = λ i t a d. refl;
      new_groups = taken_back;
      groups_then_start = groups_then_start e;
      groups_then_end = groups_then_end e;
    }
