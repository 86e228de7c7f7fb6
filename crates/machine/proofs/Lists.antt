-- Lists that are given for each line of the limiter: what is done to each entry by its number is done to each number.
use Prim.Native.Nat.{ℕ, zero, suc}
use mathlib.Core.Path.{◌≡◌, refl, ap, ap₂, sym, ◌∙◌}
use mathlib.Core.Bool.{Bool, true, ◌||◌}
use mathlib.Core.List.{List, [], ◌∷◌, ◌++◌, map}
use lib.IntN.{ℤ, pos}
use lib.ListN.{length}
use Rattle.base.specs.Tests.{every, any, numbers_from, numbers, gathered, each_from}
use Rattle.base.proofs.Bools.{and_left, and_right}
use Rattle.history.specs.Last.{number_at}

module _ {A B : Type 0} where
  pub map_ext : (g k : A → B) (xs : List A) → ((x : A) → g x ≡ k x) → map g xs ≡ map k xs
  map_ext g k [] e = refl
  map_ext g k (x ∷ xs) e = ap₂ (λ (y : B) (ys : List B). y ∷ ys) (e x) (map_ext g k xs e)

  pub each_numbered : (k n : ℕ) (g : ℕ → A → B) (before : ℕ → A) (after : ℕ → B) → ((j : ℕ) → g j (before j) ≡ after j)
      → each_from k g (map before (numbers_from k n)) ≡ map after (numbers_from k n)
  unfolding numbers_from each_from
  each_numbered k zero g before after e = refl
  each_numbered k (suc n) g before after e = ap₂ (λ (y : B) (ys : List B). y ∷ ys) (e k) (each_numbered (suc k) n g before after e)

  pub gathered_ext : (g k : A → List B) (xs : List A) → ((x : A) → g x ≡ k x) → gathered g xs ≡ gathered k xs
  unfolding gathered
  gathered_ext g k [] e = refl
  gathered_ext g k (x ∷ xs) e = ap₂ (λ (ys zs : List B). ys ++ zs) (e x) (gathered_ext g k xs e)

module _ {A : Type 0} where
  pub any_ext : (t u : A → Bool) (xs : List A) → ((x : A) → t x ≡ u x) → any t xs ≡ any u xs
  unfolding any
  any_ext t u [] e = refl
  any_ext t u (x ∷ xs) e = ap₂ (λ (a b : Bool). a || b) (e x) (any_ext t u xs e)

module _ {A B C : Type 0} where
  pub map_map : (g : B → C) (k : A → B) (xs : List A) → map g (map k xs) ≡ map (λ x. g (k x)) xs
  map_map g k [] = refl
  map_map g k (x ∷ xs) = ap (λ (ys : List C). g (k x) ∷ ys) (map_map g k xs)

  pub gathered_map : (g : B → List C) (k : A → B) (xs : List A) → gathered g (map k xs) ≡ gathered (λ x. g (k x)) xs
  unfolding gathered
  gathered_map g k [] = refl
  gathered_map g k (x ∷ xs) = ap (λ (ys : List C). g (k x) ++ ys) (gathered_map g k xs)

module _ {A B : Type 0} where
  pub any_map : (t : B → Bool) (k : A → B) (xs : List A) → any t (map k xs) ≡ any (λ x. t (k x)) xs
  unfolding any
  any_map t k [] = refl
  any_map t k (x ∷ xs) = ap (λ (b : Bool). t (k x) || b) (any_map t k xs)

-- numbers one further on
numbers_on : {B : Type 0} (g : ℕ → B) (k n : ℕ) → map g (numbers_from (suc k) n) ≡ map (λ j. g (suc j)) (numbers_from k n)
unfolding numbers_from
numbers_on g k zero = refl
numbers_on {B} g k (suc n) = ap (λ (ys : List B). g (suc k) ∷ ys) (numbers_on g (suc k) n)

-- each threshold is that of its line
pub by_number : {B : Type 0} (g : ℤ → B) (ts : List ℤ) → map g ts ≡ map (λ k. g (number_at ts k)) (numbers (length ts))
unfolding numbers_from
by_number g [] = refl
by_number {B} g (t ∷ ts) = ap (λ (ys : List B). g t ∷ ys) (by_number g ts ∙ sym (numbers_on (λ k. g (number_at (t ∷ ts) k)) 0 (length ts)))

-- a test that each of a list passes, and 0, is passed by each line's
pub every_number : (t : ℤ → Bool) (ts : List ℤ) (k : ℕ) → t (pos 0) ≡ true → every t ts ≡ true → t (number_at ts k) ≡ true
unfolding every
every_number t [] k z e = z
every_number t (x ∷ xs) zero z e = and_left (t x) (every t xs) e
every_number t (x ∷ xs) (suc k) z e = every_number t xs k z (and_right (t x) (every t xs) e)
