-- Records of any format, one behind the other: read as they were written, and taken one by one.
use mathlib.Core.Path.{◌≡◌, refl}
use mathlib.Core.Bool.{true}
use mathlib.Core.List.{List, [], ◌∷◌, append-nil, flat_map}
use Prim.Native.Nat.{ℕ, zero, suc, ◌+◌, ◌-◌, ◌*◌, ◌<◌, ◌≤◌}
use native.Mathlib.Nat.{suc-mul}
use native.Mathlib.Numerals.{add-one}
use native.Mathlib.Omega.{arith}
use lib.ListN.{length}
use Rattle.codec.specs.Format.{Format, encs, decs, all_valid, AllHold}
use Rattle.codec.specs.Lawful.{Lawful}
use Rattle.codec.proofs.Formats.{times_lawful}

module _ {A : Type 0} {F : Format A} (L : Lawful F) (a : A) (l : List A) (h : AllHold F (a ∷ l)) where
  pub one_read : F.dec (encs F (a ∷ l)) 0 ≡ a
  unfolding flat_map
  one_read = L.read_written a h.0 [] (encs F l)

  pub rest_read : decs F (length l) (encs F (a ∷ l)) F.width ≡ l
  unfolding flat_map
  rest_read = rw (append-nil, L.length_enc a h.0) at ((times_lawful L (length l)).read_written l (refl, h.1) (F.enc a) [])

module _ {A : Type 0} (F : Format A) where
  -- of n records those from number i on: the one at i, then those from i + 1 on, until there are no more
  pub decs_next : (n : ℕ) (s : List ℕ) (i : ℕ) → i < n
      → decs F (n - i) s (i * F.width) ≡ F.dec s (i * F.width) ∷ decs F (n - (i + 1)) s ((i + 1) * F.width)
  decs_next n s i h =
      let one : n - i ≡ suc (n - (i + 1)) = omega arith in
      rw (one, add-one, suc-mul)

  pub decs_end : (n : ℕ) (s : List ℕ) (i at : ℕ) → n ≤ i → decs F (n - i) s at ≡ []
  decs_end n s i at h =
      let none : n - i ≡ 0 = omega arith in
      rw none

  -- where any bytes are those of a value, they are those of values
  pub all_valid_lem : ((s : List ℕ) (at : ℕ) → F.valid s at ≡ true) → (n : ℕ) (s : List ℕ) (at : ℕ) → all_valid F n s at ≡ true
  all_valid_lem any zero s at = refl
  all_valid_lem any (suc n) s at = rw (any s at) (all_valid_lem any n s (at + F.width))
