-- Four thresholds, of which one is negative or none.
use Rattle.base.proofs.Prelude.{◌≡◌, refl, ap, ◌∙◌, Bool, true, false, not, ◌||◌, ◌&&◌, ℤ, pos, negsuc, arith, le-leb, le-ltb, every}
use lib.Signed.{lt_z, le_z}
use mir.Syntax.{w32}
use mir.Val.{to_z, of_z, SFits}
use Rattle.phases.specs.ThreePhase.{in_order}
use Rattle.phases.proofs.Sums.{same_32}

natural : (z : ℤ) → le_z (pos 0) z ≡ not (lt_z z (pos 0))
natural (pos n) = rw (le-ltb n 0 (omega arith)) (le-leb 0 n (omega arith))
natural (negsuc n) = refl

-- one of them is negative, as the code tests it
abbrev pub one_negative : ℤ → ℤ → ℤ → ℤ → Bool
one_negative a b c d = ((lt_z a (pos 0) || lt_z b (pos 0)) || lt_z c (pos 0)) || lt_z d (pos 0)

none_negative : (a b c d : ℤ) → every (le_z (pos 0)) (in_order a b c d) ≡ not (one_negative a b c d)
unfolding every
none_negative a b c d =
    rw (natural a, natural b, natural c, natural d) (go (lt_z a (pos 0)) (lt_z b (pos 0)) (lt_z c (pos 0)) (lt_z d (pos 0)))
  where
    go : (x y z w : Bool) → not x && (not y && (not z && (not w && true))) ≡ not (((x || y) || z) || w)
    go true y z w = refl
    go false true z w = refl
    go false false true w = refl
    go false false false true = refl
    go false false false false = refl

-- the same of numbers that are handed on as their bits
module _ (a b c d : ℤ) (fa : SFits w32 a) (fb : SFits w32 b) (fc : SFits w32 c) (fd : SFits w32 d) where
  abbrev bits : ℤ → ℤ
  bits z = to_z w32 (of_z w32 z)

  pub thresholds_tested : (x : Bool) → one_negative (bits a) (bits b) (bits c) (bits d) ≡ x → every (le_z (pos 0)) (in_order a b c d) ≡ not x
  thresholds_tested x e = none_negative a b c d ∙ ap not (rw (same_32 a fa, same_32 b fb, same_32 c fc, same_32 d fd) at e)
