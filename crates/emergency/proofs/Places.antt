-- Ids in eight places: what stands at each, and which of them are below a count.
use Rattle.base.proofs.Prelude.{◌≡◌, refl, sym, ◌∙◌, Bool, true, false, ◌&&◌, ◌||◌, and-true, and_assoc, List, [], ◌∷◌, ◌++◌, ℕ, zero, suc, ◌+◌}
use Rattle.base.proofs.Prelude.{◌-◌, ◌<◌, ◌≤◌, arith, eqb, leb, ltb, length, get_or, take, replicate, min, length-append, length-take}
use Rattle.base.proofs.Prelude.{length-replicate, take-append_seam, le-leb, eq-eqb, ne_eqb, append-nil, drop, eqb-false, length-drop}
use Rattle.base.proofs.Prelude.{eqb-true, ltb-true, ltb-false, among, below, by_test}
use Rattle.base.proofs.Below.{below_all, below_more as below_more_test}
use lib.ListN.{get_or-eq_default}
use Rattle.std.proofs.lemmas.List.{take_min}
use Rattle.std.proofs.Math.ListN.{drop_of_length-le}
use lib.Seq.{get_or-take, ext_get_or}
use Rattle.std.specs.List.{find}
use borrow.Rule.Slice.PartMut.{put_mid}
use Rattle.emergency.specs.Emergency.{sound_ids, padded, listed_of}

zeros : (n j : ℕ) → ◌≡◌ {A = ℕ} (get_or (replicate n 0) j 0) 0
zeros zero j = refl
zeros (suc n) zero = refl
zeros (suc n) (suc j) = zeros n j

zeros_behind : (xs : List ℕ) (n j : ℕ) → get_or (xs ++ replicate n 0) j 0 ≡ get_or xs j 0
zeros_behind [] n j = zeros n j
zeros_behind (x ∷ xs) n zero = refl
zeros_behind (x ∷ xs) n (suc j) = zeros_behind xs n j

padded_at : (gs : List ℕ) (j : ℕ) → get_or (padded gs) j 0 ≡ get_or gs j 0
unfolding padded
padded_at gs j = zeros_behind gs (8 - length gs) j

pub padded_eight : (gs : List ℕ) → length gs ≤ 8 → length (padded gs) ≡ 8
unfolding padded
padded_eight gs h = rw (length-append gs (replicate (8 - length gs) 0), length-replicate {A = ℕ} (8 - length gs) 0) (omega (arith, h))

-- the ids that were given, from their eight places
pub taken_back : (gs : List ℕ) → take (length gs) (padded gs) ≡ gs
unfolding padded
taken_back gs = take-append_seam gs (replicate (8 - length gs) 0)

pub padded_sound : (gs : List ℕ) → length gs ≤ 8 → sound_ids (length gs) (padded gs) ≡ true
padded_sound gs h =
    rw (le-leb (length gs) 8 h)
    (below_all _ 8 (λ j b. by_test (ltb j (length gs)) (λ q. rw q)
    (λ q. rw q (eq-eqb _ 0 (padded_at gs j ∙ get_or-eq_default gs 0 (ltb-false j (length gs) q))))))

-- eight places from the ids below a count past which all are zero
pub places_back : (n : ℕ) (ids : List ℕ) → length ids ≡ 8 → ((j : ℕ) → n ≤ j → j < 8 → get_or ids j 0 ≡ 0) → padded (take n ids) ≡ ids
places_back n ids eight past =
    ext_get_or 0 _ _ (padded_eight (take n ids) short ∙ sym eight)
    (λ j b. padded_at (take n ids) j
    ∙ by_test (ltb j n) (λ q. get_or-take n ids j 0 (ltb-true j n q))
    (λ q. get_or-eq_default (take n ids) 0 (omega (arith, length-take n ids, ltb-false j n q))
    ∙ sym (past j (ltb-false j n q) (omega (arith, b, padded_eight (take n ids) short)))))
  where
    short : length (take n ids) ≤ 8
    short = omega (arith, length-take n ids, eight)

-- the first that equals a number is the number itself
pub found : (gs : List ℕ) (x : ℕ) → find (λ id. eqb id x) gs ≡ listed_of gs x
unfolding among
found [] x = refl
found (y ∷ ys) x =
    by_test (eqb x y) (λ q. let e : x ≡ y = eqb-true x y q in rw (q, ← e, eq-eqb x x refl))
    (λ q. let n : eqb y x ≡ false = ne_eqb y x (λ e. eqb-false x y q (sym e)) in rw (q, n) (found ys x))

-- eight places, zeroed from a count on
pub zeroed : (n : ℕ) (ids : List ℕ) → length ids ≡ 8 → put_mid (min n 8) (8 - min n 8) ids (replicate (8 - min n 8) 0) ≡ padded (take n ids)
unfolding padded
zeroed n ids eight =
    let low : take (min n 8) ids ≡ take n ids = rw eight at (take_min n ids) in
    let count : min n 8 ≡ length (take n ids) = omega (arith, length-take n ids, eight) in
    let past : drop (8 - min n 8) (drop (min n 8) ids) ≡ [] = drop_of_length-le (drop (min n 8) ids) (omega (arith, length-drop (min n 8) ids, eight)) in
    simp (past, append-nil, low) (rw count)

-- whether the count and the places below i are as they are when sound
abbrev pub sound_below : ℕ → List ℕ → ℕ → Bool
sound_below n ids i = leb n 8 && below i (λ j. ltb j n || eqb (get_or ids j 0) 0)

pub sound_none : (n : ℕ) (ids : List ℕ) → leb n 8 ≡ sound_below n ids 0
unfolding below
sound_none n ids = sym (and-true (leb n 8))

pub sound_one : (n : ℕ) (ids : List ℕ) (i : ℕ) → sound_below n ids i && (ltb i n || eqb (get_or ids i 0) 0) ≡ sound_below n ids (i + 1)
sound_one n ids i = rw (← below_more_test i _) (and_assoc (leb n 8) _ _)
