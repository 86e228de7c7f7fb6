-- A number in its bytes: what is written is read back, bytes are written back as they were, and a number is its higher and its lower half.
use Rattle.base.proofs.Prelude.{◌≡◌, refl, sym, ap, ◌∙◌, List, [], ◌∷◌, ◌++◌, append_assoc, ℕ, zero, suc, ◌+◌, ◌*◌, ◌/◌, ◌%◌, ◌^◌, ◌<◌, ◌≤◌, zero-add, add-zero}
use Rattle.base.proofs.Prelude.{suc-add, add-suc, add_assoc, pow-succ', div-div-eq-div-mul, add-one, arith, length, get_or, take, drop, length-append, drop-cons}
use native.Mathlib.Nat.{add-mul, mul_assoc, mul_comm, mod-one, div-add-mod'}
use native.Mathlib.Nat.{mul-add-div_right, mul-add-mod_self_right}
use lib.Arith.{digits_div, digits_mod, digits_lt, mod-mul}
use lib.Pow.{pow-add}
use lib.ListN.{get_or-eq_default}
use lib.Seq.{get_or_at}
use Rattle.codec.specs.{BigEndian.be, Format.num_at, Lawful.Bytes}

pub pow_pos : (k : ℕ) → 0 < 256 ^ k
pow_pos zero = omega arith
pow_pos (suc k) = rw pow-succ' (omega (arith, pow_pos k))

pub length_be : (w v : ℕ) → length (be w v) ≡ w
unfolding be
length_be zero v = refl
length_be (suc k) v = ap suc (length_be k _)

snoc_length : (p : List ℕ) (b : ℕ) → length (p ++ (b ∷ [])) ≡ suc (length p)
snoc_length p b = length-append p (b ∷ []) ∙ add-one (length p)

-- what is read where v was written
pub num_at_be : (w v : ℕ) (p r : List ℕ) → num_at w (p ++ (be w v ++ r)) (length p) ≡ v % 256 ^ w
unfolding be num_at
num_at_be zero v p r = sym (mod-one v)
num_at_be (suc k) v p r =
    let x = v / 256 ^ k % 256 in
    let tail = rw (append_assoc, snoc_length) at (num_at_be k v (p ++ (x ∷ [])) r) in
    rw (get_or_at p x (be k v ++ r) 0 (length p) refl, tail, pow-succ') (sym (mod-mul v {m = 256} {c = 256 ^ k} (omega arith) (pow_pos k)))

pub num_at_lt : (w : ℕ) (s : List ℕ) (at : ℕ) → Bytes s → num_at w s at < 256 ^ w
unfolding num_at
num_at_lt zero s at b = omega arith
num_at_lt (suc k) s at b = rw pow-succ' (digits_lt (b at) (num_at_lt k s (suc at) b))

shift : (q b P t : ℕ) → q * (256 * P) + (b * P + t) ≡ (q * 256 + b) * P + t
shift q b P t = simp (add-mul, mul_assoc, add_assoc)

digits_written : (w q : ℕ) (s : List ℕ) (at : ℕ) → Bytes s → at + w ≤ length s → be w (q * 256 ^ w + num_at w s at) ≡ take w (drop at s)
unfolding be num_at
digits_written zero q s at b h = refl
digits_written (suc k) q s at b h =
    let x = get_or s at 0 in
    let lt = num_at_lt k s (suc at) b in
    let inside : at < length s = omega arith in
    rw (pow-succ', shift q x (256 ^ k) (num_at k s (suc at)), digits_div (q * 256 + x) lt, digits_mod q (b at), drop-cons s at 0 inside)
    (ap (λ (l : List ℕ). x ∷ l) (digits_written k (q * 256 + x) s (suc at) b (omega arith)))

no_higher : (P t : ℕ) → 0 * P + t ≡ t
no_higher P t = omega arith

-- the bytes of the number that is read are those that stand there
pub be_num_at : (w : ℕ) (s : List ℕ) (at : ℕ) → Bytes s → at + w ≤ length s → be w (num_at w s at) ≡ take w (drop at s)
be_num_at w s at b h = rw no_higher at (digits_written w 0 s at b h)

pub num_at_byte : (s : List ℕ) (at : ℕ) → num_at 1 s at ≡ get_or s at 0
unfolding num_at
num_at_byte s at = omega arith

pub be_byte : (v : ℕ) → v < 256 → be 1 v ≡ v ∷ []
unfolding be
be_byte v h =
    let e : v / 1 % 256 ≡ v = omega arith in
    rw e

-- past the end every byte reads as zero
pub num_at_past : (w : ℕ) (s : List ℕ) (at : ℕ) → length s ≤ at → num_at w s at ≡ 0
unfolding num_at
num_at_past zero s at h = refl
num_at_past (suc k) s at h = rw (get_or-eq_default s 0 h, num_at_past k s (suc at) (omega arith)) (omega arith)

-- a number of w + k bytes is read as its w higher bytes and its k lower bytes
pub num_at_halves : (w k : ℕ) (s : List ℕ) (at : ℕ) → num_at (w + k) s at ≡ num_at w s at * 256 ^ k + num_at k s (at + w)
unfolding num_at
num_at_halves zero k s at = rw (zero-add, add-zero) (sym (no_higher (256 ^ k) (num_at k s at)))
num_at_halves (suc w) k s at = rw (suc-add, num_at_halves w k s (suc at), pow-add, add-suc, suc-add) (simp (add-mul, mul_assoc, add_assoc))

pub num_at_two : (s : List ℕ) (at : ℕ) → num_at 2 s at ≡ get_or s at 0 * 256 + get_or s (at + 1) 0
num_at_two s at = num_at_halves 1 1 s at ∙ rw (num_at_byte s at, num_at_byte s (at + 1))

pub num_at_four : (s : List ℕ) (at : ℕ)
    → num_at 4 s at ≡ get_or s at 0 * 16777216 + get_or s (at + 1) 0 * 65536 + get_or s (at + 2) 0 * 256 + get_or s (at + 3) 0
num_at_four s at = rw (num_at_halves 2 2 s at, num_at_two s at, num_at_two s (at + 2), add_assoc at 2 1) (omega arith)

-- the higher digits of a number do not show in its k lower bytes
be_lower : (k q t : ℕ) → be k (q * 256 ^ k + t) ≡ be k t
unfolding be
be_lower zero q t = refl
be_lower (suc k) q t =
    rw (pow-succ', ← mul_assoc, mul-add-div_right (pow_pos k) (q * 256) t, mul-add-mod_self_right, be_lower k (q * 256) t)

be_higher : (w k v : ℕ) → be (w + k) v ≡ be w (v / 256 ^ k) ++ be k v
unfolding be
be_higher zero k v = rw zero-add
be_higher (suc w) k v = rw (suc-add, be_higher w k v, div-div-eq-div-mul, pow-add, mul_comm (256 ^ w) (256 ^ k))

-- a number of w + k bytes is written as its w higher bytes and its k lower bytes
pub be_halves : (w k v : ℕ) → be (w + k) v ≡ be w (v / 256 ^ k) ++ be k (v % 256 ^ k)
be_halves w k v =
    let low : be k v ≡ be k (v % 256 ^ k) = rw div-add-mod' at (be_lower k (v / 256 ^ k) (v % 256 ^ k)) in
    be_higher w k v ∙ rw low

-- bytes that are zero are the number zero
pub num_at_zeros : (w : ℕ) (s : List ℕ) (at : ℕ) → ((i : ℕ) → i < w → get_or s (at + i) 0 ≡ 0) → num_at w s at ≡ 0
unfolding num_at
num_at_zeros zero s at z = refl
num_at_zeros (suc k) s at z =
    let first : get_or s at 0 ≡ 0 = rw add-zero at (z 0 (omega arith)) in
    rw (first, num_at_zeros k s (suc at) (λ i h. rw (suc-add, ← add-suc) (z (suc i) (omega arith)))) (no_higher (256 ^ k) 0)
