-- The samples that a profile has governed, when one sample more comes.
use Prim.Native.Nat.{ℕ, zero, suc, min, ◌≤◌}
use native.Mathlib.Omega.{arith}
use native.Mathlib.Nat.{min-zero, suc-min-suc}
use mathlib.Core.Path.{◌≡◌, refl, ap, sym, ◌∙◌}
use mathlib.Core.Bool.{Bool, true, false, cond}
use mathlib.Core.List.{List, [], ◌∷◌, ◌++◌}
use lib.Dec.{leb}
use lib.ListN.{length, length-append, length-take}
use Rattle.history.specs.Effects.{Profile}
use Rattle.history.specs.Profile.{from_reached, governed}

-- the number of samples from the first that reached activation on, with one more of clock t
abbrev pub advanced : ℕ → ℕ → ℕ → ℕ
advanced activation t zero = cond (leb activation t) 1 0
advanced activation t (suc n) = suc (suc n)

pub reached_more : (a t : ℕ) (ts : List ℕ) → length (from_reached a (ts ++ (t ∷ []))) ≡ advanced a t (length (from_reached a ts))
unfolding from_reached
reached_more a t [] = go (leb a t)
  where
    go : (x : Bool) → length (cond x (t ∷ []) []) ≡ cond x 1 0
    go true = refl
    go false = refl
reached_more a t (s ∷ ts) = go (leb a s) (reached_more a t ts)
  where
    go : (x : Bool) → length (from_reached a (ts ++ (t ∷ []))) ≡ advanced a t (length (from_reached a ts)) → length (cond x (s ∷ (ts ++ (t ∷ []))) (from_reached a (ts ++ (t ∷ [])))) ≡ advanced a t (length (cond x (s ∷ ts) (from_reached a ts)))
    go true i = omega (arith, length-append ts (t ∷ []))
    go false i = i

-- held at the duration before or after: the same
both_held : (d a t n : ℕ) → 1 ≤ d → min d (advanced a t n) ≡ min d (advanced a t (min d n))
both_held zero a t n p = absurd (omega (arith, p))
both_held (suc d) a t zero p = rw (min-zero (suc d))
both_held (suc d) a t (suc n) p = rw (suc-min-suc d n) (omega arith)

-- one sample more
pub governed_more : (w : Profile) (ts : List ℕ) (t : ℕ) → 1 ≤ w.duration → length (governed w (ts ++ (t ∷ []))) ≡ min w.duration (advanced w.activation t (length (governed w ts)))
governed_more w ts t p =
    let a = w.activation in
    length-take w.duration (from_reached a (ts ++ (t ∷ [])))
    ∙ ap (min w.duration) (reached_more a t ts)
    ∙ both_held w.duration a t (length (from_reached a ts)) p
    ∙ ap (λ (n : ℕ). min w.duration (advanced a t n)) (sym (length-take w.duration (from_reached a ts)))

-- never more than the duration
pub governed_most : (w : Profile) (ts : List ℕ) → length (governed w ts) ≤ w.duration
governed_most w ts = omega (arith, length-take w.duration (from_reached w.activation ts))

-- and none of no samples: a profile waits
pub governed_none : (w : Profile) → length (governed w []) ≡ 0
unfolding from_reached
governed_none w = length-take w.duration (from_reached w.activation []) ∙ min-zero w.duration
