-- Stores that follow each other, and loops that write or read one value more at each turn.
use Rattle.base.proofs.Prelude.{◌≡◌, sym, ap, ◌∙◌, List, [], ◌∷◌, ◌++◌, append_assoc, append-nil, flat_map, ℕ, zero, suc, ◌+◌, ◌*◌, ◌<◌, ◌≤◌}
use Rattle.base.proofs.Prelude.{zero-add, add-zero, suc-add, add-suc, zero-mul, suc-mul, add-one, arith, length, get_or, set, take, drop, length-append}
use Rattle.base.proofs.Prelude.{length-drop, sets, sets-eq, drop-drop, length-take-le, take-append_seam, drop-append-add}
use Rattle.codec.specs.{Lawful.Lawful}
use Rattle.codec.specs.Format.{Format, encs, decs, AllHold}
use Rattle.codec.proofs.{Formats.length_encs}

-- ---- stores

-- a store that goes on where the one before it ended
pub sets_cat : (l : List ℕ) (i : ℕ) (xs ys : List ℕ) → sets l i (xs ++ ys) ≡ sets (sets l i xs) (i + length xs) ys
sets_cat l i [] ys = rw add-zero
sets_cat l i (x ∷ xs) ys = rw (add-suc, ← suc-add) (sets_cat (set l i x) (suc i) xs ys)

pub sets_then : (l : List ℕ) (i : ℕ) (xs ys : List ℕ) (j : ℕ) → j ≡ i + length xs → sets (sets l i xs) j ys ≡ sets l i (xs ++ ys)
sets_then l i xs ys j e = rw e (sym (sets_cat l i xs ys))

-- x stored behind p, which took the place of the first elements of o
pub over : (p x o : List ℕ) → length p + length x ≤ length o → sets (p ++ drop (length p) o) (length p) x ≡ (p ++ x) ++ drop (length p + length x) o
over p x o h =
    let room : length p + length x ≤ length (p ++ drop (length p) o) = simp (length-append, length-drop) (omega arith) in
    sets-eq x (p ++ drop (length p) o) (length p) room
    ∙ rw (take-append_seam p (drop (length p) o), drop-append-add p (drop (length p) o) (length x), drop-drop (length x) (length p) o)

-- ---- loops

module _ {A : Type 0} (F : Format A) where
  holds_take : (l : List A) → AllHold F l → (j : ℕ) → AllHold F (take j l)
  holds_take l h zero = tt
  holds_take [] h (suc j) = tt
  holds_take (a ∷ l) h (suc j) = (h.0, holds_take l h.1 j)

  encs_snoc : (l : List A) (j : ℕ) (d : A) → j < length l → encs F (take (suc j) l) ≡ encs F (take j l) ++ F.enc (get_or l j d)
  unfolding flat_map
  encs_snoc [] j d lt = absurd (omega arith)
  encs_snoc (a ∷ l) zero d lt = append-nil (F.enc a)
  encs_snoc (a ∷ l) (suc j) d lt = rw (encs_snoc l j d (omega arith), append_assoc)

  pub decs_append : (m n : ℕ) (s : List ℕ) (at : ℕ) → decs F (m + n) s at ≡ decs F m s at ++ decs F n s (at + m * F.width)
  decs_append zero n s at = rw (zero-add, zero-mul, add-zero)
  decs_append (suc m) n s at =
      let e : at + F.width + m * F.width ≡ at + suc m * F.width = rw suc-mul (omega arith) in
      rw suc-add (ap (λ (l : List A). F.dec s at ∷ l) (decs_append m n s (at + F.width) ∙ rw e))

-- a turn of a loop that writes: j values stand, and the next is put behind them
pub put_more : {A : Type 0} {F : Format A} → Lawful F → (l : List A) → AllHold F l → (j : ℕ) (d : A) → j < length l → (o : List ℕ) (at : ℕ)
    → sets (sets o at (encs F (take j l))) (at + j * F.width) (F.enc (get_or l j d)) ≡ sets o at (encs F (take (j + 1) l))
put_more {F = F} LF l h j d lt o at =
    let written = encs F (take j l) in
    let count = length-take-le j l (omega arith) in
    let n : length written ≡ j * F.width = length_encs LF (take j l) (holds_take F l h j) ∙ ap (λ (k : ℕ). k * F.width) count in
    rw (add-one j, encs_snoc F l j d lt) (sets_then o at written (F.enc (get_or l j d)) (at + j * F.width) (rw n))
