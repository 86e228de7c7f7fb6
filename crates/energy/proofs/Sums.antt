-- The watt-seconds of samples, summed.
use Rattle.base.proofs.Prelude.{◌≡◌, refl, sym, ap, ap₂, ◌∙◌, List, [], ◌∷◌, ◌++◌, ℕ, ◌+◌, ◌<◌, add-one, arith, ℤ, pos, negsuc, length, get_or, take}
use lib.IntN.{neg_ℤ, ◌+ℤ◌, ◌-ℤ◌, +ℤ_idl, +ℤ_idr, +ℤ_assoc, +ℤ_comm, neg_ℤ-+ℤ, pos-+ℤ-pos}
use lib.Seq.{take-suc}
use Rattle.base.specs.Numbers.{positive_part, negative_part}
use Rattle.energy.specs.Days.{total}
use Rattle.energy.specs.Laws.{net}

module _ (f : ℤ → ℕ) where
  pub total_append : (xs ys : List ℤ) → total f (xs ++ ys) ≡ total f xs + total f ys
  unfolding total
  total_append [] ys = omega arith
  total_append (x ∷ xs) ys = omega (arith, total_append xs ys)

  one : (x : ℤ) → total f (x ∷ []) ≡ f x
  unfolding total
  one x = omega arith

  -- one sample more
  pub total_next : (xs : List ℤ) (i : ℕ) → i < length xs → total f (take (i + 1) xs) ≡ total f (take i xs) + f (get_or xs i (pos 0))
  total_next xs i h = rw (add-one, take-suc xs i (pos 0) h, total_append) (rw (one (get_or xs i (pos 0))))

  -- a sample that counts nothing
  pub total_none : (x : ℤ) (xs : List ℤ) → f x ≡ 0 → total f (x ∷ xs) ≡ total f xs
  unfolding total
  total_none x xs e = omega arith

-- import less export, over a list
parted : (x : ℤ) → pos (positive_part x) -ℤ pos (negative_part x) ≡ x
parted (pos n) = +ℤ_idr (pos n)
parted (negsuc n) = +ℤ_idl (negsuc n)

regrouped : (a b c d : ℤ) → (a +ℤ b) +ℤ (c +ℤ d) ≡ (a +ℤ c) +ℤ (b +ℤ d)
regrouped a b c d =
    +ℤ_assoc a b (c +ℤ d)
    ∙ ap (λ (k : ℤ). a +ℤ k) (sym (+ℤ_assoc b c d) ∙ ap (λ (k : ℤ). k +ℤ d) (+ℤ_comm b c) ∙ +ℤ_assoc c b d)
    ∙ sym (+ℤ_assoc a c (b +ℤ d))

pub balance : (xs : List ℤ) → pos (total positive_part xs) -ℤ pos (total negative_part xs) ≡ net xs
unfolding total net
balance [] = refl
balance (x ∷ xs) =
    let p = pos (positive_part x) in
    let n = pos (negative_part x) in
    let ps = pos (total positive_part xs) in
    let ns = pos (total negative_part xs) in
    ap₂ (λ (a b : ℤ). a -ℤ b) (sym (pos-+ℤ-pos (positive_part x) (total positive_part xs))) (sym (pos-+ℤ-pos (negative_part x) (total negative_part xs)))
    ∙ ap (λ (k : ℤ). (p +ℤ ps) +ℤ k) (neg_ℤ-+ℤ n ns)
    ∙ regrouped p ps (neg_ℤ n) (neg_ℤ ns)
    ∙ ap₂ (λ (a b : ℤ). a +ℤ b) (parted x) (balance xs)
