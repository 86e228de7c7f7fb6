-- The lines that the machine writes on an accepted call, and the log that it clears, are the account's.
use Prim.Native.Nat.{ℕ}
use native.Mathlib.Omega.{arith}
use mathlib.Core.Path.{◌≡◌, refl, sym, ◌∙◌, subst}
use mathlib.Core.Bool.{Bool, true, false, ◌&&◌, cond}
use mathlib.Core.List.{List, [], ◌∷◌}
use lib.Dec.{eqb}
use borrow.Author.Tests.{ne_eqb}
use Rattle.base.specs.Numbers.{held}
use Rattle.events.specs.Line.{Line, is_log}
use Rattle.calls.specs.declared.Letter.{Letter}
use Rattle.logs.proofs.Numbers.{log_least}
use Rattle.history.specs.Effects.{AnyFresh, alarms, errors, Effect, sampled, requested, mode_set, limits_set, clock_set, occurred, filter_set, bits_cleared}
use Rattle.history.specs.Effects.{log_cleared, groups_set, profile_set, Profile}
use Rattle.history.specs.Last.{History, last, samples_since, mode_of, clock_of}
use Rattle.history.specs.Profile.{threshold_in_force}
use Rattle.history.specs.Logs.{when, moves, change_lines, owed_by, clears_log}
use Rattle.machine.specs.Values.{Values}
use Rattle.machine.specs.Machine.{owing, lettered, profiled}
use Rattle.machine.specs.Ranges.{AnySettings}
use Rattle.machine.proofs.Effects.{effect_result, Proper, AllProper, held_emergency, held_values}
use Rattle.machine.proofs.Profile.{replacing, in_force_before, in_force_replaced, changed_lines}
use Rattle.machine.proofs.Clock.{clock_part}
use Rattle.machine.proofs.Switch.{requested_result, mode_result_lem, sampled_result}
use Rattle.machine.proofs.Lines.{Owing}

-- lines that are owed under a test, as the machine and as the account have them
when_one : (a : Bool) (xs : List Line) → cond a xs [] ≡ when a xs
when_one true xs = refl
when_one false xs = refl

when_both : (a b : Bool) (xs : List Line) → cond a (when b xs) [] ≡ when (a && b) xs
when_both true b xs = refl
when_both false b xs = refl

when_none : (a : Bool) → ◌≡◌ {A = List Line} (cond a [] []) []
when_none true = refl
when_none false = refl

not_zero : (n : ℕ) → is_log n ≡ true → eqb n 0 ≡ false
not_zero n l = ne_eqb n 0 (λ e. omega (arith, log_least n l))

module _ (f : AnyFresh) (e : Effect) (h : History) where
  -- a call that clears no log
  owing_lines : (s : Values) (x : Letter) (n : ℕ) (xs : List Line) → ((k : ℕ) → clears_log k e ≡ false) → ((k : ℕ) → cond (eqb k n) xs [] ≡ owed_by f k e h)
      → Owing f e h (lettered x (owing s n xs))
  owing_lines s x n xs c o = record { lines = λ k l. o k; cleared = λ k l. not_zero k l ∙ sym (c k) }

-- a profile over another
profiled_lines : (f : AnyFresh) (h : History) (m : ℕ) (w : Profile)
    → (profiled (held_values f h (held m)) w).lines
    ≡ change_lines f (clock_of f (profile_set w ∷ h)) (λ k. threshold_in_force f k h) (λ k. threshold_in_force f k (profile_set w ∷ h))
unfolding last samples_since
profiled_lines f h m w =
    changed_lines f h (held_emergency f h) (replacing f h w) (λ k. threshold_in_force f k h) (λ k. threshold_in_force f k (profile_set w ∷ h))
    (in_force_before f h) (in_force_replaced f h w) (held_values f h (held m))

module _ (f : AnyFresh) (h : History) (m : ℕ) (t : AnySettings f) (all : AllProper f h) where
  pub owing_after : (e : Effect) → Proper (mode_of f h) e → Owing f e h (effect_result (held_values f h (held m)) e)
  unfolding last samples_since
  owing_after (sampled p) g =
      let now = clock_part f h (held_values f h (held m)) refl (sampled p) g in
      subst (Owing f (sampled p) h) (sym (sampled_result f h p m t all))
      (owing_lines f (sampled p) h _ _ 3 _ (λ k. refl) (λ k. rw now (when_one (eqb k 3) _)))
  owing_after (requested q) g =
      subst (Owing f (requested q) h) (sym (requested_result f h q m g))
      (owing_lines f (requested q) h _ _ 3 _ (λ k. refl) (λ k. when_both (eqb k 3) (moves f (requested q) h) _))
  owing_after (mode_set n) g =
      subst (Owing f (mode_set n) h) (sym (mode_result_lem f h n m))
      (owing_lines f (mode_set n) h _ _ 3 _ (λ k. refl) (λ k. when_both (eqb k 3) (moves f (mode_set n) h) _))
  owing_after (limits_set w o u) g = owing_lines f (limits_set w o u) h _ _ 3 _ (λ k. refl) (λ k. when_one (eqb k 3) _)
  owing_after (clock_set n) g =
      let now = clock_part f h (held_values f h (held m)) refl (clock_set n) g in
      owing_lines f (clock_set n) h _ _ 1 _ (λ k. refl) (λ k. rw (← now) (when_one (eqb k 1) _))
  owing_after (occurred r) g = owing_lines f (occurred r) h _ _ r.log _ (λ k. refl) (λ k. when_one (eqb k r.log) _)
  owing_after (filter_set alarms n) g = owing_lines f (filter_set alarms n) h _ _ 0 [] (λ k. refl) (λ k. when_none (eqb k 0))
  owing_after (filter_set errors n) g = owing_lines f (filter_set errors n) h _ _ 0 [] (λ k. refl) (λ k. when_none (eqb k 0))
  owing_after (bits_cleared alarms n) g = owing_lines f (bits_cleared alarms n) h _ _ 1 _ (λ k. refl) (λ k. when_one (eqb k 1) _)
  owing_after (bits_cleared errors n) g = owing_lines f (bits_cleared errors n) h _ _ 1 _ (λ k. refl) (λ k. when_one (eqb k 1) _)
  owing_after (log_cleared n) g = record { lines = λ k l. when_one (eqb k n) _; cleared = λ k l. refl }
  owing_after (groups_set ids) g = owing_lines f (groups_set ids) h _ _ 0 [] (λ k. refl) (λ k. when_none (eqb k 0))
  owing_after (profile_set w) g = owing_lines f (profile_set w) h _ _ 3 _ (λ k. refl) (λ k. rw (profiled_lines f h m w) (when_one (eqb k 3) _))
