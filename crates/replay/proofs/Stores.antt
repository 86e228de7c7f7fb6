-- Stores that go on in front of the one before; a number's digits, stored from the last to the first.
use mathlib.Core.Path.{◌≡◌, refl, sym, ap, ◌∙◌}
use mathlib.Core.List.{List, [], ◌∷◌, ◌++◌, append-nil}
use Prim.Native.Nat.{ℕ, zero, suc, ◌+◌, ◌-◌, ◌/◌, ◌%◌, ◌<◌, ◌≤◌}
use native.Mathlib.Omega.{arith}
use lib.ListN.{length, set, take, drop, replicate, length-append, length-set, length-replicate}
use lib.Seq.{sets, set_comm, length-sets, sets-eq}
use Rattle.codec.proofs.Stores.{sets_then}
use Rattle.replay.specs.Listing.{digit_byte, decimal, field, stored_before}
use Rattle.replay.proofs.Digits.{one_digit, more_digits, field_length}

set_sets : (l : List ℕ) (i x j : ℕ) (ys : List ℕ) → i < j → set (sets l j ys) i x ≡ sets (set l i x) j ys
set_sets l i x j [] h = refl
set_sets l i x j (y ∷ ys) h =
    set_sets (set l j y) i x (suc j) ys (omega arith)
    ∙ ap (λ (m : List ℕ). sets m (suc j) ys) (set_comm l j i y x (λ e. omega arith))

-- two stores that do not meet
sets_sets : (l : List ℕ) (i : ℕ) (xs : List ℕ) (j : ℕ) (ys : List ℕ) → i + length xs ≤ j → sets (sets l j ys) i xs ≡ sets (sets l i xs) j ys
sets_sets l i [] j ys h = refl
sets_sets l i (x ∷ xs) j ys h =
    ap (λ (m : List ℕ). sets m (suc i) xs) (set_sets l i x j ys (omega arith))
    ∙ sets_sets (set l i x) (suc i) xs j ys (omega arith)

module _ (l : List ℕ) (end : ℕ) (xs ys : List ℕ) (room : length xs + length ys ≤ end) where
  front_place : end - length ys - length xs ≡ end - length (xs ++ ys)
  front_place = rw length-append (omega arith)

  -- bytes stored in front of others
  pub stored_front : stored_before (stored_before l end ys) (end - length ys) xs ≡ stored_before l end (xs ++ ys)
  stored_front =
      sets_sets l (end - length ys - length xs) xs (end - length ys) ys (omega arith)
      ∙ sets_then l (end - length ys - length xs) xs ys (end - length ys) (omega arith)
      ∙ ap (λ (i : ℕ). sets l i (xs ++ ys)) front_place

-- a number's digits in front of the byte that ends it
pub field_stored : (l : List ℕ) (end n last : ℕ) → length (field n last) ≤ end
    → (end - 1 - length (decimal n) ≡ end - length (field n last)) × (stored_before (set l (end - 1) last) (end - 1) (decimal n) ≡ stored_before l end (field n last))
unfolding field
field_stored l end n last h =
    let room : length (decimal n) + 1 ≤ end = omega (arith, field_length n last) in
    (front_place l end (decimal n) (last ∷ []) room, stored_front l end (decimal n) (last ∷ []) room)

-- digits stored from the last to the first: those still to be stored will bring the bytes to where all n's digits just before `end` would have
pub record Storing (l₀ : List ℕ) (end n : ℕ) (l : List ℕ) (at rest : ℕ) : Type 0 where
  pub room : length (decimal rest) ≤ at
  pub inside : at ≤ length l
  pub size : length l ≡ length l₀
  pub place : at - length (decimal rest) ≡ end - length (decimal n)
  pub bytes : stored_before l at (decimal rest) ≡ stored_before l₀ end (decimal n)

pub first_digit : (l : List ℕ) (end n : ℕ) → length (decimal n) ≤ end → end ≤ length l → Storing l end n l end n
first_digit l end n r i = record { room = r; inside = i; size = refl; place = refl; bytes = refl }

module _ {l₀ : List ℕ} {end n : ℕ} {l : List ℕ} {at rest : ℕ} (s : Storing l₀ end n l at rest) where
  pub next_digit : 10 ≤ rest → Storing l₀ end n (set l (at - 1) (digit_byte (rest % 10))) (at - 1) (rest / 10)
  next_digit h =
      let xs = decimal (rest / 10) in
      let ys = digit_byte (rest % 10) ∷ [] in
      let e = more_digits rest h in
      let count : length (decimal rest) ≡ length xs + 1 = ap length e ∙ length-append xs ys in
      record {
        room = omega (arith, s.room);
        inside = rw length-set (omega (arith, s.inside));
        size = length-set l (at - 1) (digit_byte (rest % 10)) ∙ s.size;
        place = omega (arith, s.place);
        bytes =
            stored_front l at xs ys (omega (arith, s.room))
            ∙ ap (stored_before l at) (sym e)
            ∙ s.bytes;
      }

  pub last_digit : rest < 10 → (at - 1 ≡ end - length (decimal n)) × (set l (at - 1) (digit_byte rest) ≡ stored_before l₀ end (decimal n))
  last_digit h =
      let e = one_digit rest h in
      (rw e at s.place, rw e at s.bytes)

-- bytes l, of which xs were stored just before `end`, from `at` on; the others are those of z
pub record Ending (z : List ℕ) (end : ℕ) (xs l : List ℕ) (at : ℕ) : Type 0 where
  pub place : at ≡ end - length xs
  pub bytes : l ≡ stored_before z end xs

module _ {z : List ℕ} {end : ℕ} {xs l : List ℕ} {at : ℕ} (h : Ending z end xs l at) (ys : List ℕ) (room : length ys + length xs ≤ end) where
  pub fits_in_front : end ≤ length z → (length ys ≤ at) × (at ≤ length l)
  fits_in_front g = (omega (arith, h.place), omega (arith, h.place, ap length h.bytes ∙ length-sets z (end - length xs) xs))

  pub in_front : {m : List ℕ} {r : ℕ} → (r ≡ at - length ys) × (m ≡ stored_before l at ys) → Ending z end (ys ++ xs) m r
  in_front e =
      record {
        place = e.0 ∙ rw h.place (front_place z end ys xs room);
        bytes = e.1 ∙ rw (h.bytes, h.place) (stored_front z end ys xs room);
      }

take_replicate : (a n k : ℕ) → n ≤ k → take n (replicate k a) ≡ replicate n a
take_replicate a zero k h = refl
take_replicate a (suc n) zero h = absurd (omega arith)
take_replicate a (suc n) (suc k) h = ap (λ (l : List ℕ). a ∷ l) (take_replicate a n k (omega arith))

drop_replicate : (a k : ℕ) → drop k (replicate k a) ≡ []
drop_replicate a zero = refl
drop_replicate a (suc k) = drop_replicate a k

-- of k places that hold a, with xs stored at their end, those before xs are left
pub behind : (a k : ℕ) (xs : List ℕ) → length xs ≤ k → stored_before (replicate k a) k xs ≡ replicate (k - length xs) a ++ xs
behind a k xs h =
    let all : k - length xs + length xs ≡ k = omega arith in
    sets-eq xs (replicate k a) (k - length xs) (omega (arith, length-replicate k a))
    ∙ rw (all, take_replicate a (k - length xs) k (omega arith), drop_replicate a k, append-nil)
