-- Document 02, A3: on the fields that hold the account's groups and profile, the machine's steps are the account's, and so are the threshold in force and the
-- lines 67.
use Prim.Native.Nat.{ℕ, zero, suc, min, ◌+◌, ◌-◌, ◌≤◌}
use native.Mathlib.Nat.{min-zero}
use native.Mathlib.Omega.{arith}
use mathlib.Core.Path.{◌≡◌, refl, ap, ap₂, sym, ◌∙◌}
use mathlib.Core.Bool.{Bool, true, false, not, cond}
use mathlib.Core.List.{List, [], ◌∷◌, ◌++◌, map}
use mathlib.Core.Option.{Option, none, some}
use lib.Dec.{leb, ltb}
use lib.IntN.{ℤ}
use lib.ListN.{length}
use borrow.Author.Tests.{leb-true, leb-false, ltb-true, ltb-false, lt-ltb, le-ltb}
use Rattle.base.specs.Numbers.{held}
use Rattle.base.specs.Tests.{any, eq_z}
use Rattle.emergency.specs.declared.Emergency.{Emergency}
use Rattle.emergency.specs.Emergency.{groups_in, with_fields, with_profile, without_profile, started, ended, in_force}
use Rattle.emergency.proofs.Kept.{taken_back}
use Rattle.history.specs.Effects.{AnyFresh, Profile, sampled, profile_set}
use Rattle.history.specs.Last.{History, last, samples_since, threshold_of, clock_of}
use Rattle.history.specs.Profile.{groups_of, profile_of, clocks_since, governed, ProfileState, no_profile, waiting, active, state_by, state_at, profile_state}
use Rattle.history.specs.Profile.{threshold_by, threshold_in_force, threshold_with, threshold_at}
use Rattle.history.specs.Limiter.{monitored_values}
use Rattle.history.specs.Logs.{when, change_lines as owed_change}
use Rattle.history.proofs.Governed.{advanced, governed_more, governed_most}
use Rattle.history.proofs.Profiles.{normal_at_once}
use Rattle.machine.specs.Values.{Values}
use Rattle.machine.specs.Machine.{line_now, same_threshold, change_lines}
use Rattle.machine.specs.Holding.{emergency_of}
use Rattle.machine.proofs.Lists.{map_ext, map_map, any_map}
use Rattle.machine.proofs.Ranges.{Kept, profile_range}
use Rattle.machine.proofs.Effects.{AllProper, held_emergency, held_limiter, held_limiters}

-- the profile at a sample, and after it
abbrev pub started_state : ℕ → ProfileState → ProfileState
started_state now no_profile = no_profile
started_state now (waiting w) = cond (leb w.activation now) (active w w.duration) (waiting w)
started_state now (active w n) = active w n

abbrev pub ended_state : ProfileState → ProfileState
ended_state no_profile = no_profile
ended_state (waiting w) = waiting w
ended_state (active w n) = cond (leb n 1) no_profile (active w (n - 1))

module _ (gs : List ℕ) where
  started_laid : (t : ℕ) (x : ProfileState) → started t (emergency_of gs x) ≡ emergency_of gs (started_state t x)
  started_laid t no_profile = refl
  started_laid t (waiting w) = go (leb w.activation t)
    where
      go : (b : Bool)
          → cond b (with_fields (emergency_of gs (waiting w)) w.id w.threshold w.activation w.duration w.duration 2) (emergency_of gs (waiting w))
          ≡ emergency_of gs (cond b (active w w.duration) (waiting w))
      go true = refl
      go false = refl
  started_laid t (active w n) = refl

  ended_laid : (x : ProfileState) → ended (emergency_of gs x) ≡ emergency_of gs (ended_state x)
  ended_laid no_profile = refl
  ended_laid (waiting w) = refl
  ended_laid (active w n) = go (leb n 1)
    where
      go : (b : Bool)
          → cond b (without_profile (emergency_of gs (active w n)))
          (with_fields (emergency_of gs (active w n)) w.id w.threshold w.activation w.duration (n - 1) 2)
          ≡ emergency_of gs (cond b no_profile (active w (n - 1)))
      go true = refl
      go false = refl

  in_force_laid : (normal : ℤ) (x : ProfileState) → in_force (emergency_of gs x) normal ≡ threshold_by normal x
  in_force_laid normal no_profile = refl
  in_force_laid normal (waiting w) = refl
  in_force_laid normal (active w n) = refl

  pub groups_back : (x : ProfileState) → groups_in (emergency_of gs x) ≡ gs
  groups_back no_profile = taken_back gs
  groups_back (waiting w) = taken_back gs
  groups_back (active w n) = taken_back gs

-- at a sample with advanced clock t, after n governed samples
threshold_at_lem : (normal : ℤ) (w : Profile) (t n : ℕ) → 1 ≤ w.duration → n ≤ w.duration
    → threshold_by normal (started_state t (state_by w n)) ≡ cond (ltb n (min w.duration (advanced w.activation t n))) w.threshold normal
threshold_at_lem normal w t zero d m = go (leb w.activation t)
  where
    go : (x : Bool) → threshold_by normal (cond x (active w w.duration) (waiting w)) ≡ cond (ltb 0 (min w.duration (cond x 1 0))) w.threshold normal
    go true = rw (lt-ltb 0 (min w.duration 1) (omega (arith, d)))
    go false = rw (le-ltb 0 (min w.duration 0) (omega arith))
threshold_at_lem normal w t (suc n) d m = go (ltb (suc n) w.duration) refl
  where
    go : (x : Bool) → ltb (suc n) w.duration ≡ x
        → threshold_by normal (started_state t (cond x (active w (w.duration - suc n)) no_profile)) ≡ cond (ltb (suc n) (min w.duration (suc (suc n)))) w.threshold normal
    go true p = rw (lt-ltb (suc n) (min w.duration (suc (suc n))) (omega (arith, ltb-true (suc n) w.duration p)))
    go false p = rw (le-ltb (suc n) (min w.duration (suc (suc n))) (omega (arith, ltb-false (suc n) w.duration p)))

-- the profile after a sample with advanced clock t, after n governed samples
state_after_lem : (w : Profile) (t n : ℕ) → 1 ≤ w.duration → n ≤ w.duration → ended_state (started_state t (state_by w n)) ≡ state_by w (min w.duration (advanced w.activation t n))
state_after_lem w t zero d m = go (leb w.activation t)
  where
    one : (y : Bool) → leb w.duration 1 ≡ y → (z : Bool) → ltb 1 w.duration ≡ z → cond y no_profile (active w (w.duration - 1)) ≡ cond z (active w (w.duration - 1)) no_profile
    one true p false q = refl
    one false p true q = refl
    one true p true q = absurd (omega (arith, leb-true w.duration 1 p, ltb-true 1 w.duration q))
    one false p false q = absurd (omega (arith, leb-false w.duration 1 p, ltb-false 1 w.duration q))

    least : min w.duration 1 ≡ 1
    least = omega (arith, d)

    go : (x : Bool) → ended_state (cond x (active w w.duration) (waiting w)) ≡ state_by w (min w.duration (cond x 1 0))
    go true = rw least (one (leb w.duration 1) refl (ltb 1 w.duration) refl)
    go false = rw (min-zero w.duration)
state_after_lem w t (suc n) d m = go (ltb (suc n) w.duration) refl
  where
    last_one : (y : Bool) → leb (w.duration - suc n) 1 ≡ y → (z : Bool) → ltb (suc (suc n)) w.duration ≡ z
        → cond y no_profile (active w (w.duration - suc n - 1)) ≡ cond z (active w (w.duration - suc (suc n))) no_profile
    last_one true p false q = refl
    last_one false p true q = ap (active w) (omega arith)
    last_one true p true q = absurd (omega (arith, leb-true (w.duration - suc n) 1 p, ltb-true (suc (suc n)) w.duration q))
    last_one false p false q = absurd (omega (arith, leb-false (w.duration - suc n) 1 p, ltb-false (suc (suc n)) w.duration q))

    more : ltb (suc n) w.duration ≡ true → min w.duration (suc (suc n)) ≡ suc (suc n)
    more p = omega (arith, ltb-true (suc n) w.duration p)

    full : ltb (suc n) w.duration ≡ false → min w.duration (suc (suc n)) ≡ suc n
    full p = omega (arith, ltb-false (suc n) w.duration p, m)

    go : (x : Bool) → ltb (suc n) w.duration ≡ x → ended_state (started_state t (cond x (active w (w.duration - suc n)) no_profile)) ≡ state_by w (min w.duration (suc (suc n)))
    go true p = rw (more p) (last_one (leb (w.duration - suc n) 1) refl (ltb (suc (suc n)) w.duration) refl)
    go false p = rw (full p, p)

-- ---- at a sample
abbrev pub now_of : AnyFresh → History → ℕ
now_of f h = held (clock_of f h + 1)

-- the profile while the sample is judged
abbrev pub during_of : AnyFresh → History → Emergency
during_of f h = started (now_of f h) (held_emergency f h)

now_is : (f : AnyFresh) (h : History) (ps : List ℤ) → now_of f h ≡ clock_of f (sampled ps ∷ h)
unfolding last samples_since
now_is f h ps = omega arith

state_sampled : (f : AnyFresh) (h : History) (ps : List ℤ) → AllProper f h
    → ended_state (started_state (now_of f h) (profile_state f h)) ≡ profile_state f (sampled ps ∷ h)
unfolding last clocks_since
state_sampled f h ps all = go (profile_of h) (profile_range f h all)
  where
    ts : List ℕ
    ts = clocks_since f h

    go : (o : Option Profile) → Kept o
        → ended_state (started_state (now_of f h) (state_at o ts)) ≡ state_at o (ts ++ (clock_of f (sampled ps ∷ h) ∷ []))
    go none d = refl
    go (some w) d =
        state_after_lem w (now_of f h) (length (governed w ts)) d.0 (governed_most w ts)
        ∙ ap (λ (t : ℕ). state_by w (min w.duration (advanced w.activation t (length (governed w ts))))) (now_is f h ps)
        ∙ ap (state_by w) (sym (governed_more w ts (clock_of f (sampled ps ∷ h)) d.0))

during_is : (f : AnyFresh) (h : History) → during_of f h ≡ emergency_of (groups_of h) (started_state (now_of f h) (profile_state f h))
during_is f h = started_laid (groups_of h) (now_of f h) (profile_state f h)

pub profile_sampled : (f : AnyFresh) (h : History) (ps : List ℤ) → AllProper f h → ended (during_of f h) ≡ held_emergency f (sampled ps ∷ h)
unfolding last
profile_sampled f h ps all =
    ap ended (during_is f h)
    ∙ ended_laid (groups_of h) (started_state (now_of f h) (profile_state f h))
    ∙ ap (emergency_of (groups_of h)) (state_sampled f h ps all)

-- the threshold in force for monitored value k: before a sample, at it, and after it
pub in_force_before : (f : AnyFresh) (h : History) (k : ℕ) → in_force (held_emergency f h) (threshold_of f k h) ≡ threshold_in_force f k h
in_force_before f h k = in_force_laid (groups_of h) (threshold_of f k h) (profile_state f h)

module _ (f : AnyFresh) (h : History) (ps : List ℤ) (a : AllProper f h) (k : ℕ) where
  pub in_force_at : in_force (during_of f h) (threshold_of f k h) ≡ threshold_at f k ps h
  unfolding clocks_since
  in_force_at =
      ap (λ (e : Emergency). in_force e (threshold_of f k h)) (during_is f h)
      ∙ in_force_laid (groups_of h) (threshold_of f k h) (started_state (now_of f h) (profile_state f h))
      ∙ go (profile_of h) (profile_range f h a)
    where
      ts : List ℕ
      ts = clocks_since f h

      t : ℕ
      t = clock_of f (sampled ps ∷ h)

      go : (o : Option Profile) → Kept o
          → threshold_by (threshold_of f k h) (started_state (now_of f h) (state_at o ts)) ≡ threshold_with (threshold_of f k h) o ts (ts ++ (t ∷ []))
      go none d = refl
      go (some w) d =
          let n = length (governed w ts) in
          threshold_at_lem (threshold_of f k h) w (now_of f h) n d.0 (governed_most w ts)
          ∙ ap (λ (t : ℕ). cond (ltb n (min w.duration (advanced w.activation t n))) w.threshold (threshold_of f k h)) (now_is f h ps)
          ∙ ap (λ (m : ℕ). cond (ltb n m) w.threshold (threshold_of f k h)) (sym (governed_more w ts t d.0))

  pub in_force_after : in_force (ended (during_of f h)) (threshold_of f k h) ≡ threshold_in_force f k (sampled ps ∷ h)
  unfolding last
  in_force_after =
      ap (λ (e : Emergency). in_force e (threshold_of f k h)) (profile_sampled f h ps a)
      ∙ in_force_laid (groups_of h) (threshold_of f k h) (profile_state f (sampled ps ∷ h))

-- ---- a profile over another
abbrev pub replacing : AnyFresh → History → Profile → Emergency
replacing f h w = with_profile (held_emergency f h) w.id w.threshold w.activation w.duration

pub in_force_replaced : (f : AnyFresh) (h : History) (w : Profile) (k : ℕ)
    → in_force (replacing f h w) (threshold_of f k h) ≡ threshold_in_force f k (profile_set w ∷ h)
in_force_replaced f h w k = sym (normal_at_once f k h w)

-- ---- the lines 67 of a change
module _ (f : AnyFresh) (h : History) (x y : Emergency) (t u : ℕ → ℤ) (p : (k : ℕ) → in_force x (threshold_of f k h) ≡ t k)
    (q : (k : ℕ) → in_force y (threshold_of f k h) ≡ u k) where
  same_thresholds : map (same_threshold x y) (held_limiters f h) ≡ map (λ k. eq_z (t k) (u k)) (monitored_values f)
  same_thresholds =
      map_map (same_threshold x y) (held_limiter f h) (monitored_values f)
      ∙ map_ext _ (λ k. eq_z (t k) (u k)) (monitored_values f) (λ k. ap₂ eq_z (p k) (q k))

  pub changed_lines : (v : Values) → change_lines v (map (same_threshold x y) (held_limiters f h)) ≡ owed_change f v.clock t u
  changed_lines v =
      ap (change_lines v) same_thresholds
      ∙ ap (λ (b : Bool). cond b (line_now v 67 ∷ []) []) (any_map not (λ k. eq_z (t k) (u k)) (monitored_values f))
      ∙ either (any (λ k. not (eq_z (t k) (u k))) (monitored_values f))
    where
      either : (b : Bool) → cond b (line_now v 67 ∷ []) [] ≡ when b (line_now v 67 ∷ [])
      either true = refl
      either false = refl
