-- When two signed numbers are the same.
use mathlib.Core.Path.{◌≡◌, refl, ap}
use mathlib.Core.Bool.{true, false≢true}
use lib.IntN.{ℤ, pos, negsuc}
use borrow.Author.Tests.{eqb-true, eq-eqb}
use Rattle.base.specs.Tests.{eq_z}

pub same_number : (z : ℤ) → eq_z z z ≡ true
same_number (pos n) = eq-eqb n n refl
same_number (negsuc n) = eq-eqb n n refl

pub number_same : (a b : ℤ) → eq_z a b ≡ true → a ≡ b
number_same (pos m) (pos n) e = ap pos (eqb-true m n e)
number_same (pos m) (negsuc n) e = absurd (false≢true e)
number_same (negsuc m) (pos n) e = absurd (false≢true e)
number_same (negsuc m) (negsuc n) e = ap negsuc (eqb-true m n e)
