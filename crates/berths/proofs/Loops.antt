-- What the two loops along the berths compute is what the definitions say of the list.
--     counted_next, counted_all    the first loop: the berths behind i have still to be counted
--     filled_next, filled_all      the second loop: the berths behind i have still to be filled
--     carried                      what the first loop carries, of the whole list
--     refused_count, shared, refused   what is answered, and the berths afterwards: by their count, by what is left over, by a refusal
use Rattle.base.proofs.Prelude.{◌≡◌, refl, sym, ap, ◌∙◌, Bool, true, false, ◌||◌, or-false, List, [], ◌∷◌, ◌++◌, append_assoc, ℕ, suc}
use Rattle.base.proofs.Prelude.{◌+◌, ◌-◌}
use Rattle.base.proofs.Prelude.{◌<◌, ◌≤◌, add-one, arith, ltb, ℤ, length, take, drop, get_or, set, take_all, append-nil}
use Rattle.base.proofs.Prelude.{drop_of_length-le, drop-cons}
use Rattle.base.proofs.Prelude.{lt-ltb, le-ltb, ltb-true, ltb-false, any}
use mathlib.Core.Bool.{or_assoc}
use lib.Seq.{take-suc-set, drop-set-lt}
use Rattle.base.specs.Numbers.{positive_part}
use Rattle.std.specs.Prelude.{Result, Ok, Err}
use Rattle.calls.specs.declared.Answer.{Answer}
use Rattle.calls.specs.declared.Answer.TheVariants.{Accepted, Refused}
use Rattle.berths.specs.declared.Berth.{Berth}
use Rattle.berths.specs.declared.ColumnRefusal.{ColumnRefusal}
use Rattle.berths.specs.declared.Column.{Column}
use Rattle.berths.specs.Allotments.{first_part, with_allotment, sum, guarantees, any_faulty, is_faulty, allotted, refusal, filled}
use Rattle.berths.specs.Counting.{is_wrong_count, at_limit, with_berth, with_berths, left_over, refusal_number, answered, share_of}

module _ (xs : List Berth) (i : ℕ) (d : Berth) (c last : Column) where
  pub counted_next : i < length xs → with_berths c (drop i xs) ≡ last → with_berths (with_berth c (get_or xs i d)) (drop (i + 1) xs) ≡ last
  unfolding with_berths
  counted_next h e = rw add-one (rw (drop-cons xs i d h) at e)

  pub counted_all : length xs ≤ i → with_berths c (drop i xs) ≡ last → c ≡ last
  unfolding with_berths
  counted_all h e = rw (drop_of_length-le xs h) at e

-- a berth with its share of what is left, and nothing else of it changed
abbrev pub given : ℕ → Berth → Berth
given left b = with_allotment b (positive_part (share_of left b).allotment)

module _ (ys : List Berth) (i : ℕ) (d : Berth) (left : ℕ) (last : List Berth) where
  pub filled_next : i < length ys → take i ys ++ allotted left (drop i ys) ≡ last
      → take (i + 1) (set ys i (given left (get_or ys i d)))
      ++ allotted (share_of left (get_or ys i d)).left (drop (i + 1) (set ys i (given left (get_or ys i d)))) ≡ last
  unfolding allotted
  filled_next h e =
      let y = given left (get_or ys i d) in
      rw (add-one, take-suc-set ys i y h, drop-set-lt (suc i) ys i y (omega arith)) (append_assoc (take i ys) (y ∷ []) _ ∙ rw (drop-cons ys i d h) at e)

  pub filled_all : length ys ≤ i → take i ys ++ allotted left (drop i ys) ≡ last → ys ≡ last
  unfolding allotted
  filled_all h e = rw (take_all i ys h, drop_of_length-le ys h, append-nil ys) at e

-- ---- what is carried along the list
below_sum : (room g s : ℕ) → (ltb room g || ltb (room - g) s) ≡ ltb room (g + s)
below_sum room g s = go (ltb room g) refl
  where
    go : (x : Bool) → ltb room g ≡ x → (ltb room g || ltb (room - g) s) ≡ ltb room (g + s)
    go true e = let l = ltb-true room g e in rw (e, lt-ltb room (g + s) (omega arith))
    go false e = rw e (rest (ltb (room - g) s) refl)
      where
        rest : (y : Bool) → ltb (room - g) s ≡ y → ltb (room - g) s ≡ ltb room (g + s)
        rest true h = let l = ltb-true (room - g) s h in let k = ltb-false room g e in rw (h, lt-ltb room (g + s) (omega arith))
        rest false h = let l = ltb-false (room - g) s h in let k = ltb-false room g e in rw (h, le-ltb room (g + s) (omega arith))

pub carried : (c : Column) (bs : List Berth)
    → with_berths c bs
    ≡ record {
      faulty = c.faulty || any_faulty bs;
      short = c.short || ltb c.room (guarantees bs);
      room = c.room - guarantees bs;
      left = c.left - sum first_part bs;
    }
unfolding with_berths any sum
carried c [] = λ i. record {
  faulty = sym (or-false c.faulty) i;
  short = sym (ap (λ (b : Bool). c.short || b) (le-ltb c.room 0 (omega arith)) ∙ or-false c.short) i;
  room = (the_same c.room) i;
  left = (the_same c.left) i;
}
  where
    the_same : (n : ℕ) → n ≡ n - 0
    the_same n = omega arith
carried c (b ∷ bs) = carried (with_berth c b) bs ∙ λ i. record {
  faulty = or_assoc c.faulty (is_faulty b.guarantee b.cap) (any_faulty bs) i;
  short = (or_assoc c.short (ltb c.room (positive_part b.guarantee)) (ltb (c.room - positive_part b.guarantee) (guarantees bs))
      ∙ ap (λ (x : Bool). c.short || x) (below_sum c.room (positive_part b.guarantee) (guarantees bs))) i;
  room = twice c.room (positive_part b.guarantee) (guarantees bs) i;
  left = twice c.left (first_part b) (sum first_part bs) i;
}
  where
    twice : (n g s : ℕ) → n - g - s ≡ n - (g + s)
    twice n g s = omega arith

-- ---- what is answered, and the berths afterwards
module _ (limit : ℤ) (bs : List Berth) where
  pub refused_count : is_wrong_count (length bs) ≡ true → (Refused 22 ≡ answered (refusal limit bs)) × (bs ≡ filled limit bs)
  unfolding refusal filled
  refused_count e = rw e (refl, refl)

  -- the column, when all berths have been counted
  abbrev pub counted_column : Column
  counted_column = with_berths (at_limit limit) bs

  module _ (few : is_wrong_count (length bs) ≡ false) where
    -- the answer and the berths of what is left over, or of a refusal
    abbrev outcome : Result ℕ ColumnRefusal → Answer × List Berth
    outcome (Ok left) = (Accepted, allotted left bs)
    outcome (Err r) = (Refused (refusal_number r), bs)

    counted : (answered (refusal limit bs), filled limit bs) ≡ outcome (left_over counted_column)
    unfolding refusal filled
    counted = by_tests ((at_limit limit).faulty || any_faulty bs) refl (ltb (at_limit limit).room (guarantees bs)) refl
      where
        by_tests : (f : Bool) → ((at_limit limit).faulty || any_faulty bs) ≡ f → (s : Bool) → ltb (at_limit limit).room (guarantees bs) ≡ s
            → (answered (refusal limit bs), filled limit bs) ≡ outcome (left_over counted_column)
        by_tests true e s h = rw (few, carried (at_limit limit) bs, e) refl
        by_tests false e true h = rw (few, carried (at_limit limit) bs, e, h) refl
        by_tests false e false h = rw (few, carried (at_limit limit) bs, e, h) refl

    by_outcome : (r : Result ℕ ColumnRefusal) → r ≡ left_over counted_column → ((outcome r).0 ≡ answered (refusal limit bs)) × ((outcome r).1 ≡ filled limit bs)
    by_outcome r e = rw e (ap (λ w. w.0) (sym counted), ap (λ w. w.1) (sym counted))

    pub shared : (left : ℕ) → Ok left ≡ left_over counted_column → (Accepted ≡ answered (refusal limit bs)) × (allotted left bs ≡ filled limit bs)
    unfolding allotted
    shared left e = by_outcome (Ok left) e

    pub refused : (r : ColumnRefusal) → Err r ≡ left_over counted_column
        → (Refused (refusal_number r) ≡ answered (refusal limit bs)) × (bs ≡ filled limit bs)
    refused r e = by_outcome (Err r) e
