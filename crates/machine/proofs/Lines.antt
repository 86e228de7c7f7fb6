-- The logs: lines put behind those kept, the oldest dropped, are the newest 32 of all lines owed. One argument over the log's number.
use Prim.Native.Nat.{ℕ, zero, suc}
use native.Mathlib.Omega.{arith}
use mathlib.Core.Path.{◌≡◌, refl, sym, ap, ap₂, ◌∙◌}
use mathlib.Core.Bool.{Bool, true, false, not, cond}
use mathlib.Core.List.{List, [], ◌∷◌, ◌++◌, map, append-nil}
use lib.Dec.{eqb}
use borrow.Author.Tests.{le-leb, lt-leb, ne_eqb}
use Rattle.events.specs.Line.{Line, is_log, newest}
use Rattle.events.proofs.Newest.{newest_again}
use Rattle.logs.specs.Lists.{changed, appended, emptied}
use Rattle.history.specs.Effects.{AnyFresh, Effect}
use Rattle.history.specs.Last.{History}
use Rattle.history.specs.Logs.{when, owed_by, clears_log, owed, log_of}
use Rattle.machine.specs.Machine.{Change}

-- what a result owes to each log, and which log it clears, are the account's
pub record Owing (f : AnyFresh) (e : Effect) (h : History) (r : Change) : Type 0 where
  pub lines : (n : ℕ) → is_log n ≡ true → cond (eqb n r.log) r.lines [] ≡ owed_by f n e h
  pub cleared : (n : ℕ) → is_log n ≡ true → eqb n r.cleared ≡ clears_log n e

-- a value for each log
abbrev pub of_each : {A : Type 0} → (ℕ → A) → List A
of_each g = map g (1 ∷ 2 ∷ 3 ∷ [])

each_ext : {A : Type 0} (g k : ℕ → A) → ((n : ℕ) → is_log n ≡ true → g n ≡ k n) → of_each g ≡ of_each k
each_ext g k e = λ i. e 1 refl i ∷ e 2 refl i ∷ e 3 refl i ∷ []

-- a change to log n is one to that log alone
changed_each : {A : Type 0} (n : ℕ) (t : List A → List A) (g : ℕ → List A) → changed n t (of_each g) ≡ of_each (λ k. cond (eqb k n) (t (g k)) (g k))
unfolding changed
changed_each zero t g = refl
changed_each (suc zero) t g = refl
changed_each (suc (suc zero)) t g = refl
changed_each (suc (suc (suc zero))) t g = refl
changed_each (suc (suc (suc (suc n)))) t g =
    let m = suc (suc (suc (suc n))) in
    rw (le-leb 1 m (omega arith), lt-leb m 3 (omega arith), ne_eqb 1 m (λ e. omega arith), ne_eqb 2 m (λ e. omega arith), ne_eqb 3 m (λ e. omega arith))

-- if the lines kept are the newest of xs, then after a clear (c) and further lines (a) they are the newest of what is then owed
newest_owed : (c a : Bool) (xs ys : List Line)
    → cond a (newest (cond c [] (newest xs) ++ ys)) (cond c [] (newest xs)) ≡ newest (when (not c) xs ++ cond a ys [])
unfolding newest
newest_owed true true xs ys = refl
newest_owed true false xs ys = refl
newest_owed false true xs ys = newest_again xs ys
newest_owed false false xs ys = ap newest (sym (append-nil xs))

module _ (f : AnyFresh) (e : Effect) (h : History) (r : Change) (o : Owing f e h r) where
  -- log n after the clear
  abbrev emptied_log : ℕ → List Line
  emptied_log n = cond (eqb n r.cleared) [] (log_of f n h)

  log_after : (n : ℕ) → is_log n ≡ true → cond (eqb n r.log) (newest (emptied_log n ++ r.lines)) (emptied_log n) ≡ log_of f n (e ∷ h)
  unfolding owed
  log_after n l =
      newest_owed (eqb n r.cleared) (eqb n r.log) (owed f n h) r.lines
      ∙ ap₂ (λ (c : Bool) (ys : List Line). newest (when (not c) (owed f n h) ++ ys)) (o.cleared n l) (o.lines n l)

  pub logs_after : appended r.log r.lines (emptied r.cleared (of_each (λ n. log_of f n h))) ≡ of_each (λ n. log_of f n (e ∷ h))
  logs_after =
      ap (appended r.log r.lines) (changed_each r.cleared (λ xs. []) (λ n. log_of f n h))
      ∙ changed_each r.log (λ xs. newest (xs ++ r.lines)) emptied_log
      ∙ each_ext _ _ log_after
