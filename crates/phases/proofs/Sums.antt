-- Signed numbers in 64 bits: those of 32 fit, and so does the sum of three.
use Rattle.base.proofs.Prelude.{◌≡◌, refl, cond, Bool, true, false, ℕ, suc, ◌+◌, ◌-◌, ◌≤◌, arith, ltb, ℤ, pos, negsuc}
use lib.IntN.{sub_ℕ, ◌+ℤ◌}
use lib.Signed.{mag}
use mir.Facts.{to_z-of_z}
use mir.Syntax.{w32, w64}
use mir.Val.{SFits, to_z, of_z}

-- the difference of two naturals is no further from zero than the greater
difference : (a b : ℕ) → mag (sub_ℕ a b) ≤ a + b
difference a b = go (ltb a b) refl
  where
    go : (x : Bool) → ltb a b ≡ x → mag (cond x (negsuc (b - suc a)) (pos (a - b))) ≤ a + b
    go true e = omega arith
    go false e = omega arith

sum_size : (a b : ℤ) → mag (a +ℤ b) ≤ mag a + mag b + 1
sum_size (pos a) (pos b) = omega arith
sum_size (pos a) (negsuc b) = let d = difference a (suc b) in omega (arith, d)
sum_size (negsuc a) (pos b) = let d = difference b (suc a) in omega (arith, d)
sum_size (negsuc a) (negsuc b) = omega arith

pub wider : (z : ℤ) → SFits w32 z → SFits w64 z
wider z h = record { sfits = let p = h.sfits in omega (arith, p) }

-- of three
pub three_fit : (a b c : ℤ) → SFits w32 a → SFits w32 b → SFits w32 c → SFits w64 ((a +ℤ b) +ℤ c)
three_fit a b c h k l =
    record {
      sfits =
          let p = h.sfits in
          let q = k.sfits in
          let r = l.sfits in
          let s = sum_size a b in
          let t = sum_size (a +ℤ b) c in
          omega (arith, p, q, r, s, t);
    }

-- a number of 32 bits, handed on as its bits
pub same_32 : (z : ℤ) → SFits w32 z → to_z w32 (of_z w32 z) ≡ z
same_32 z h = to_z-of_z {w = w32} {z = z} h

pub same_64 : (z : ℤ) → SFits w64 z → to_z w64 (of_z w64 z) ≡ z
same_64 z h = to_z-of_z {w = w64} {z = z} h
