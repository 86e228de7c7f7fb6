-- Kind 17, by what the code learns on its way: the group found, the ranges, and whether the threshold in force is the normal one.
use Prim.Native.Nat.{ℕ}
use mathlib.Core.Path.{◌≡◌, refl, ap, ap₂, sym, ◌∙◌}
use mathlib.Core.Bool.{Bool, true, false, ◌&&◌, cond}
use mathlib.Core.List.{List, [], ◌∷◌}
use lib.IntN.{ℤ, pos}
use lib.Signed.{le_z}
use mir.Syntax.{w32}
use mir.Val.{to_z, of_z, SFits}
use Rattle.base.specs.Tests.{within, among, any, eq_z}
use Rattle.limiter.specs.declared.Limiter.{Limiter}
use Rattle.emergency.specs.declared.Emergency.{Emergency}
use Rattle.std.specs.Prelude.{Option, Some, None}
use Rattle.emergency.specs.Emergency.{groups_in, listed_of, with_profile, in_force}
use Rattle.history.specs.OnePhase.{profile_with}
use Rattle.machine.specs.Values.{with_limiters, with_emergency}
use Rattle.machine.specs.Machine.{refusing, owing, line_now, restarted_by, change_lines, profile_result}
use Rattle.status.specs.Status.{status_values}
use Rattle.status.specs.Step.{status_step_for}
use Rattle.steps.specs.declared.Scalars.{Scalars}
use Rattle.steps.specs.declared.Step.{Step}
use Rattle.steps.specs.Scalars.{values_of, status_of}
use Rattle.steps.specs.Step.{step_for, step_of, step_with}
use Rattle.steps.proofs.Steps.{same_number}

-- what the lookup tells
pub not_in_group : {x : Option ℕ} (gs : List ℕ) (i : ℕ) → x ≡ listed_of gs i → x ≡ None → among gs i ≡ false
not_in_group gs i found told = go (among gs i) (sym told ∙ found)
  where
    go : (b : Bool) → None ≡ cond b (Some i) None → b ≡ false
    go true e = cc
    go false e = refl

pub in_group : {x : Option ℕ} {j : ℕ} (gs : List ℕ) (i : ℕ) → x ≡ listed_of gs i → x ≡ Some j → (among gs i ≡ true) × (j ≡ i)
in_group {j = j} gs i found told = go (among gs i) (sym told ∙ found)
  where
    go : (b : Bool) → Some j ≡ cond b (Some i) None → (b ≡ true) × (j ≡ i)
    go true e = (refl, cc)
    go false e = (cc, cc)

-- the ranges, the threshold handed on as its bits
pub ranges : (x y : Bool) (d : ℕ) (t : ℤ) → x ≡ within 1 604800 d → SFits w32 t → x && le_z (pos 0) (to_z w32 (of_z w32 t)) ≡ y
    → within 1 604800 d && le_z (pos 0) t ≡ y
ranges x y d t e h r = ap₂ (λ (a : Bool) (z : ℤ). a && le_z (pos 0) z) (sym e) (sym (same_number t h)) ∙ r

module _ (s : Scalars) (i : ℕ) (t : ℤ) (a d : ℕ) where
  pub no_group : among (groups_in s.emergency) i ≡ false → step_of s (refusing 15) ≡ step_of s (profile_result (values_of s) (profile_with i t a d))
  unfolding profile_result
  no_group e = rw e

  pub no_range : among (groups_in s.emergency) i ≡ true → within 1 604800 d && le_z (pos 0) t ≡ false
      → step_of s (refusing 16) ≡ step_of s (profile_result (values_of s) (profile_with i t a d))
  unfolding profile_result
  no_range e r = rw (e, r)

  -- the next scalars without a line, and with one
  abbrev pub unlogged : Limiter → Emergency → Step
  unlogged l e = step_with l e (status_step_for (owing (status_values (status_of s)) 3 []))

  abbrev pub logged : Limiter → Emergency → Step
  logged l e = step_with l e (status_step_for (owing (status_values (status_of s)) 3 (line_now (status_values (status_of s)) 67 ∷ [])))

  pub profile_set_lem : {same : Bool} {l : Limiter} {e : Emergency} → among (groups_in s.emergency) i ≡ true → within 1 604800 d && le_z (pos 0) t ≡ true
      → same ≡ eq_z (in_force s.emergency s.limiter.threshold) s.limiter.threshold → l ≡ restarted_by same s.limiter
      → e ≡ with_profile s.emergency i t a d
      → cond same (unlogged l e) (logged l e) ≡ step_of s (profile_result (values_of s) (profile_with i t a d))
  unfolding profile_result any
  profile_set_lem {same} {l} {e} listed range same-is l_is e-is =
      ap₂ (λ (l : Limiter) (e : Emergency). cond same (unlogged l e) (logged l e)) l_is e-is
      ∙ ap (λ (b : Bool). cond b (unlogged (restarted_by b s.limiter) next) (logged (restarted_by b s.limiter) next)) same-is
      ∙ rw (listed, range) (go (eq_z (in_force s.emergency s.limiter.threshold) s.limiter.threshold))
    where
      next : Emergency
      next = with_profile s.emergency i t a d

      go : (b : Bool) → let v = values_of s in
          cond b (unlogged (restarted_by b s.limiter) next) (logged (restarted_by b s.limiter) next)
          ≡ step_for (owing (with_emergency (with_limiters v (restarted_by b s.limiter ∷ [])) next) 3 (change_lines v (b ∷ [])))
      go true = refl
      go false = refl
