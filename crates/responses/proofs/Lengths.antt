-- The lengths of values and responses, and what stands behind the first four bytes.
use mathlib.Core.Path.{◌≡◌, ap, ◌∙◌, sym}
use mathlib.Core.Logic.{◌⊎◌, inl, inr}
use mathlib.Core.List.{List, ◌++◌}
use Prim.Native.Nat.{ℕ, ◌+◌, ◌≤◌, ◌<◌, ◌^◌}
use native.Mathlib.Omega.{arith}
use lib.ListN.{length, length-append}
use lib.Seq.{sets}
use Rattle.codec.specs.BigEndian.{be}
use Rattle.codec.proofs.Numbers.{length_be}
use Rattle.codec.proofs.Stores.{sets_then}
use Rattle.requests.specs.Requests.{short_format, long_format, tag_of, data_bytes}
use Rattle.requests.specs.declared.Data.{Data}
use Rattle.requests.specs.declared.Data.TheVariants.{Boolean, DoubleLong, DoubleLongUnsigned, Integer, Enum}
use Rattle.responses.specs.declared.Response.{Response}
use Rattle.responses.specs.declared.Response.TheVariants.{GetData, GetResult, SetResult, ActionResult}
use Rattle.responses.specs.Responses.{result_number, front, response_bytes}
use Rattle.responses.specs.Laws.{size_of}

pub short_length : (t v : ℕ) → 2 ≡ length (short_format.enc (t, v))
short_length t v = sym (simp (length-append, length_be))

pub long_length : (t v : ℕ) → 5 ≡ length (long_format.enc (t, v))
long_length t v = sym (simp (length-append, length_be))

-- a value of four bytes, and one of one byte, stands behind the tag of its type
pub long_bytes : (x : Data) (v : ℕ) → (x ≡ DoubleLong v) ⊎ (x ≡ DoubleLongUnsigned v) → data_bytes x ≡ long_format.enc (tag_of x, v)
long_bytes x v (inl e) = rw e
long_bytes x v (inr e) = rw e

pub short_bytes : (x : Data) (v : ℕ) → (x ≡ Boolean v) ⊎ ((x ≡ Integer v) ⊎ (x ≡ Enum v)) → data_bytes x ≡ short_format.enc (tag_of x, v)
short_bytes x v (inl e) = rw e
short_bytes x v (inr (inl e)) = rw e
short_bytes x v (inr (inr e)) = rw e

pub front_length : (t i b : ℕ) → length (front t i b) ≡ 4
front_length t i b = simp (length-append, length_be)

-- stores at the front and behind it
pub behind : (o o₁ o₂ : List ℕ) (t i b : ℕ) (xs : List ℕ) → o₁ ≡ sets o 0 (front t i b) → o₂ ≡ sets o₁ 4 xs → o₂ ≡ sets o 0 (front t i b ++ xs)
behind o o₁ o₂ t i b xs p q =
    let e : 4 ≡ 0 + length (front t i b) = omega (arith, front_length t i b) in
    q ∙ ap (λ (l : List ℕ). sets l 4 xs) p ∙ sets_then o 0 (front t i b) xs 4 e

pub behind_length : (t i b : ℕ) (xs : List ℕ) (n : ℕ) → n ≡ length xs → 4 + n ≡ length (front t i b ++ xs)
behind_length t i b xs n e = rw (length-append (front t i b) xs, front_length t i b, e)

pub byte_length : (v : ℕ) → 1 ≡ length (be 1 v)
byte_length v = sym (length_be 1 v)

pub sum_fits : (n : ℕ) → n ≤ 5 → 4 + n < 2 ^ 64
sum_fits n h = omega arith

data_size : (i : ℕ) (x : Data) → length (front 196 i 0 ++ data_bytes x) ≡ size_of (GetData i x)
data_size i (Boolean v) = sym (behind_length 196 i 0 _ 2 (short_length 3 v))
data_size i (DoubleLong v) = sym (behind_length 196 i 0 _ 5 (long_length 5 v))
data_size i (DoubleLongUnsigned v) = sym (behind_length 196 i 0 _ 5 (long_length 6 v))
data_size i (Integer v) = sym (behind_length 196 i 0 _ 2 (short_length 15 v))
data_size i (Enum v) = sym (behind_length 196 i 0 _ 2 (short_length 22 v))

pub size : (r : Response) → length (response_bytes r) ≡ size_of r
unfolding response_bytes
size (GetData i x) = data_size i x
size (GetResult i r) = sym (behind_length 196 i 1 _ 1 (byte_length _))
size (SetResult i r) = front_length 197 i (result_number r)
size (ActionResult i r) = sym (behind_length 199 i (result_number r) _ 1 (byte_length _))

pub size_small : (r : Response) → size_of r ≤ 9
size_small (GetData i (Boolean v)) = omega arith
size_small (GetData i (DoubleLong v)) = omega arith
size_small (GetData i (DoubleLongUnsigned v)) = omega arith
size_small (GetData i (Integer v)) = omega arith
size_small (GetData i (Enum v)) = omega arith
size_small (GetResult i r) = omega arith
size_small (SetResult i r) = omega arith
size_small (ActionResult i r) = omega arith
