-- What the records of every meter share: a step's lines in their places, and the tests that accepted settings have passed.
use Rattle.base.proofs.Prelude.{◌≡◌, refl, sym, Bool, true, false, ◌&&◌, cond, List, ◌++◌, map, ℕ, ◌≤◌, arith, leb, ℤ, pos, length, take, length-append}
use Rattle.base.proofs.Prelude.{length-map, take_at, length-take-le, every, and_left, and_right}
use lib.Signed.{le_z}
use Rattle.events.specs.Line.{Line}
use Rattle.limiter.specs.Limiter.{is_duration}
use Rattle.calls.specs.declared.Answer.TheVariants.{Accepted, Refused}
use Rattle.machine.specs.Settings.{limits_answer}

-- ---- the clocks or the codes of lines, with more behind them
module _ (f : Line → ℕ) (xs : List Line) (ys : List ℕ) where
  pub lines_fit : length xs ≤ length (map f xs ++ ys)
  lines_fit = simp (length-append, length-map) (omega arith)

  pub lines_first : take (length xs) (map f xs ++ ys) ≡ map f xs
  lines_first = take_at (map f xs) ys (length xs) (length-map xs f)

-- a part is as long as the count says
pub part_length : (n : ℕ) (xs : List ℕ) → n ≤ length xs → n ≡ length (take n xs)
part_length n xs h = sym (length-take-le n xs h)

-- ---- what is accepted has passed three tests
never : {n : ℕ} → Refused n ≡ Accepted → ⊥
never a = let z : ◌≡◌ {A = ℕ} 0 1 = cc in omega arith

passed : (a b c : Bool) → cond a (cond b (cond c Accepted (Refused 5)) (Refused 4)) (Refused 1) ≡ Accepted → (a ≡ true) × ((b ≡ true) × (c ≡ true))
passed true true true h = (refl, (refl, refl))
passed true true false h = absurd (never h)
passed true false c h = absurd (never h)
passed false b c h = absurd (never h)

-- settings of fresh: the mode, then the thresholds, then Over and Under
pub settings_passed : (m : ℕ) (ts : List ℤ) (o u : ℕ) → cond (leb m 6) (limits_answer ts o u) (Refused 1) ≡ Accepted
    → (leb m 6 ≡ true) × ((every (le_z (pos 0)) ts ≡ true) × ((is_duration o ≡ true) × (is_duration u ≡ true)))
unfolding limits_answer
settings_passed m ts o u h =
    let tests = passed (leb m 6) (every (le_z (pos 0)) ts) (is_duration o && is_duration u) h in
    let both = tests.1.1 in
    (tests.0, (tests.1.0, (and_left (is_duration o) (is_duration u) both, and_right (is_duration o) (is_duration u) both)))
