-- The laws of the allotments, each by one induction over the berths, whatever is left of the limit.
use Rattle.base.proofs.Prelude.{◌≡◌, refl, sym, ap, ap₂, ◌∙◌, Bool, true, false, ◌||◌, cond, List, [], ◌∷◌, ℕ, zero, suc, ◌+◌, ◌-◌, ◌<◌, ◌≤◌, min, arith, ltb}
use Rattle.base.proofs.Prelude.{ℤ, pos, negsuc, length, map, by_test, ltb-true, ltb-false, ne_eqb, any}
use Rattle.base.proofs.Bools.{neither}
use native.Mathlib.Nat.{le_trans, le-min, min-le_left, min-le_right}
use mathlib.Core.Bool.{false≢true}
use lib.Signed.{lt_z}
use Rattle.base.specs.Numbers.{positive_part}
use Rattle.berths.specs.declared.Berth.{Berth}
use Rattle.berths.specs.Allotments.{first_part, wanted, beyond_first, with_allotment, sum, guarantees, allotted, is_faulty, any_faulty, refusal, filled}
use Rattle.berths.specs.Laws.{berth_at, allotment_at, bounds_of, Shares, Laws}

-- ---- what it says that nothing is refused
none_refused : (a b c : Bool) → ◌≡◌ {A = ℕ} (cond a 22 (cond b 23 (cond c 24 0))) 0 → (b ≡ false) × (c ≡ false)
none_refused true b c e = absurd (omega arith)
none_refused false true c e = absurd (omega arith)
none_refused false false true e = absurd (omega arith)
none_refused false false false e = (refl, refl)

-- a guarantee is not above its cap
guarantee_cap : (g c : ℤ) → is_faulty g c ≡ false → positive_part g ≤ positive_part c
guarantee_cap (pos a) (pos b) e = ltb-false b a (neither (lt_z (pos a) (pos 0) || lt_z (pos b) (pos 0)) (lt_z (pos b) (pos a)) e).1
guarantee_cap (pos a) (negsuc b) e = absurd (false≢true (sym (neither (lt_z (pos a) (pos 0)) true (neither (lt_z (pos a) (pos 0) || true) true e).0).1))
guarantee_cap (negsuc a) c e = omega arith

first_wanted : (b : Berth) → is_faulty b.guarantee b.cap ≡ false → first_part b ≤ wanted b
first_wanted b e = let h = guarantee_cap b.guarantee b.cap e in omega arith

module _ (b : Berth) (bs : List Berth) (e : any_faulty (b ∷ bs) ≡ false) where
  both : (is_faulty b.guarantee b.cap ≡ false) × (any_faulty bs ≡ false)
  unfolding any
  both = neither _ _ e

firsts_wanted : (bs : List Berth) → any_faulty bs ≡ false → sum first_part bs ≤ sum wanted bs
unfolding sum
firsts_wanted [] e = omega arith
firsts_wanted (b ∷ bs) e = omega (arith, first_wanted b (both b bs e).0, firsts_wanted bs (both b bs e).1)

firsts_guarantees : (bs : List Berth) → sum first_part bs ≤ guarantees bs
unfolding sum
firsts_guarantees [] = omega arith
firsts_guarantees (b ∷ bs) = omega (arith, firsts_guarantees bs)

first_wanted_at : (bs : List Berth) (i : ℕ) → i < length bs → any_faulty bs ≡ false → first_part (berth_at bs i) ≤ wanted (berth_at bs i)
first_wanted_at [] i h e = absurd (omega arith)
first_wanted_at (b ∷ bs) zero h e = first_wanted b (both b bs e).0
first_wanted_at (b ∷ bs) (suc i) h e = first_wanted_at bs i (omega arith) (both b bs e).1

-- ---- the list
allotted_length : (left : ℕ) (bs : List Berth) → length (allotted left bs) ≡ length bs
unfolding allotted
allotted_length left [] = refl
allotted_length left (b ∷ bs) = ap suc (allotted_length (left - beyond_first left b) bs)

-- each berth has its first part and its share of what is left for it
allotted_at : (left : ℕ) (bs : List Berth) (i : ℕ) → i < length bs
    → (m : ℕ) × (berth_at (allotted left bs) i ≡ with_allotment (berth_at bs i) (first_part (berth_at bs i) + beyond_first m (berth_at bs i)))
unfolding allotted
allotted_at left [] i h = absurd (omega arith)
allotted_at left (b ∷ bs) zero h = (left, refl)
allotted_at left (b ∷ bs) (suc i) h = allotted_at (left - beyond_first left b) bs i (omega arith)

-- ---- sums
shared : (left u v : ℕ) → min left u + min (left - min left u) v ≡ min left (u + v)
shared left u v = omega arith

apart : (f w F S : ℕ) → f ≤ w → F ≤ S → (w - f) + (S - F) ≡ (w + S) - (f + F)
apart f w F S a b = omega arith

grouped : (f F e m k : ℕ) → e + m ≡ k → (f + e) + (F + m) ≡ (f + F) + k
grouped f F e m k h = omega arith

within : (m F S : ℕ) → F ≤ m → F ≤ S → F + min (m - F) (S - F) ≡ min m S
within m F S a b = omega arith

one_more : (left f w F S : ℕ) → f ≤ w → F ≤ S → (f + min left (w - f)) + (F + min (left - min left (w - f)) (S - F)) ≡ (f + F) + min left ((w + S) - (f + F))
one_more left f w F S a b =
    grouped f F (min left (w - f)) (min (left - min left (w - f)) (S - F)) _
    (shared left (w - f) (S - F) ∙ ap (λ (m : ℕ). min left m) (apart f w F S a b))

allotted_sum : (left : ℕ) (bs : List Berth) → any_faulty bs ≡ false
    → sum (λ b. positive_part b.allotment) (allotted left bs) ≡ sum first_part bs + min left (sum wanted bs - sum first_part bs)
unfolding allotted sum
allotted_sum left [] e = omega arith
allotted_sum left (b ∷ bs) e =
    ap (λ (m : ℕ). (first_part b + beyond_first left b) + m) (allotted_sum (left - beyond_first left b) bs (both b bs e).1)
    ∙ one_more left (first_part b) (wanted b) (sum first_part bs) (sum wanted bs) (first_wanted b (both b bs e).0) (firsts_wanted bs (both b bs e).1)

-- ---- list order
none_left_lem : (bs : List Berth) (j : ℕ) → j < length bs → allotment_at (allotted 0 bs) j ≡ first_part (berth_at bs j)
unfolding allotted
none_left_lem [] j h = absurd (omega arith)
none_left_lem (b ∷ bs) zero h = omega arith
none_left_lem (b ∷ bs) (suc j) h = ap (λ (m : ℕ). allotment_at (allotted m bs) j) (zeros (wanted b - first_part b)) ∙ none_left_lem bs j (omega arith)
  where
    zeros : (m : ℕ) → 0 - min 0 m ≡ 0
    zeros m = omega arith

in_order_lem : (left : ℕ) (bs : List Berth) (i j : ℕ) → i < j → j < length bs → allotment_at (allotted left bs) i < wanted (berth_at bs i)
    → allotment_at (allotted left bs) j ≡ first_part (berth_at bs j)
unfolding allotted
in_order_lem left [] i j l h e = absurd (omega arith)
in_order_lem left (b ∷ bs) i zero l h e = absurd (omega arith)
in_order_lem left (b ∷ bs) zero (suc j) l h e =
    ap (λ (m : ℕ). allotment_at (allotted m bs) j) (gone left (first_part b) (wanted b) e) ∙ none_left_lem bs j (omega arith)
  where
    gone : (m f w : ℕ) → f + min m (w - f) < w → m - min m (w - f) ≡ 0
    gone m f w h = omega arith
in_order_lem left (b ∷ bs) (suc i) (suc j) l h e = in_order_lem (left - beyond_first left b) bs i j (omega arith) (omega arith) e

-- ---- no other list
abbrev allotments : List Berth → ℕ
allotments cs = sum (λ b. positive_part b.allotment) cs

-- allotments that are each the first part, or at least that, sum to no less
same_firsts : (bs cs : List Berth) → length cs ≡ length bs → ((j : ℕ) → j < length bs → allotment_at cs j ≡ first_part (berth_at bs j))
    → allotments cs ≡ sum first_part bs
unfolding sum
same_firsts [] [] l h = refl
same_firsts [] (c ∷ cs) l h = absurd (omega arith)
same_firsts (b ∷ bs) [] l h = absurd (omega arith)
same_firsts (b ∷ bs) (c ∷ cs) l h = omega (arith, h 0 (omega arith), same_firsts bs cs (omega arith) (λ j k. h (suc j) (omega arith)))

least_firsts : (bs cs : List Berth) → length cs ≡ length bs → ((j : ℕ) → j < length bs → first_part (berth_at bs j) ≤ allotment_at cs j)
    → sum first_part bs ≤ allotments cs
unfolding sum
least_firsts [] [] l h = omega arith
least_firsts [] (c ∷ cs) l h = absurd (omega arith)
least_firsts (b ∷ bs) [] l h = absurd (omega arith)
least_firsts (b ∷ bs) (c ∷ cs) l h = omega (arith, h 0 (omega arith), least_firsts bs cs (omega arith) (λ j k. h (suc j) (omega arith)))

-- the first berth of a list: what it gets is settled, and what those behind it get together. u and v are what it and they want beyond their first parts
settled : (left f F u v a A : ℕ) → f ≤ a → a ≤ f + u → F ≤ A → a + A ≡ f + F + min left (u + v) → (a < f + u → A ≡ F)
    → (a ≡ f + min left u) × (A ≡ F + min (left - min left u) v)
settled left f F u v a A least most rest total order =
    by_test (ltb a (f + u))
    (λ q. let e = order (ltb-true a (f + u) q) in let l = ltb-true a (f + u) q in (omega arith, omega arith))
    (λ q. let l = ltb-false a (f + u) q in (omega arith, omega arith))

only : (left : ℕ) (bs cs : List Berth) → any_faulty bs ≡ false → length cs ≡ length bs
    → ((i : ℕ) → i < length bs → berth_at cs i ≡ with_allotment (berth_at bs i) (allotment_at cs i))
    → ((i : ℕ) → i < length bs → first_part (berth_at bs i) ≤ allotment_at cs i)
    → ((i : ℕ) → i < length bs → allotment_at cs i ≤ wanted (berth_at bs i))
    → allotments cs ≡ sum first_part bs + min left (sum wanted bs - sum first_part bs)
    → ((i j : ℕ) → i < j → j < length bs → allotment_at cs i < wanted (berth_at bs i) → allotment_at cs j ≡ first_part (berth_at bs j))
    → cs ≡ allotted left bs
unfolding allotted sum
only left [] [] e l each least most total order = refl
only left [] (c ∷ cs) e l each least most total order = absurd (omega arith)
only left (b ∷ bs) [] e l each least most total order = absurd (omega arith)
only left (b ∷ bs) (c ∷ cs) e l each least most total order =
    let f = first_part b in
    let w = wanted b in
    let F = sum first_part bs in
    let W = sum wanted bs in
    let fw = first_wanted b (both b bs e).0 in
    let FW = firsts_wanted bs (both b bs e).1 in
    let a = positive_part c.allotment in
    let s = settled left f F (w - f) (W - F) a (allotments cs) (least 0 (omega arith)) (whole a f w fw (most 0 (omega arith)))
    (least_firsts bs cs (omega arith) (λ j h. least (suc j) (omega arith)))
    (total ∙ ap (λ (m : ℕ). f + F + min left m) (sym (apart f w F W fw FW)))
    (λ less. same_firsts bs cs (omega arith) (λ j h. order 0 (suc j) (omega arith) (omega arith) (below a f w fw less))) in
    ap₂ (λ (x : Berth) (xs : List Berth). x ∷ xs) (each 0 (omega arith) ∙ ap (with_allotment b) s.0)
    (only (left - beyond_first left b) bs cs (both b bs e).1 (omega arith) (λ i h. each (suc i) (omega arith)) (λ i h. least (suc i) (omega arith))
    (λ i h. most (suc i) (omega arith)) s.1 (λ i j k h. order (suc i) (suc j) (omega arith) (omega arith)))
  where
    whole : (a f w : ℕ) → f ≤ w → a ≤ w → a ≤ f + (w - f)
    whole a f w h k = omega arith

    below : (a f w : ℕ) → f ≤ w → a < f + (w - f) → a < w
    below a f w h k = omega arith

-- ---- the laws
module _ (limit : ℤ) (bs : List Berth) where
  module _ (e : refusal limit bs ≡ 0) where
    abbrev left : ℕ
    left = positive_part limit - sum first_part bs

    filled_is : filled limit bs ≡ allotted left bs
    unfolding filled
    filled_is = rw e

    judged : (any_faulty bs ≡ false) × (ltb (positive_part limit) (guarantees bs) ≡ false)
    unfolding refusal
    judged =
        let p = none_refused (ltb (length bs) 1 || ltb 16 (length bs)) (lt_z limit (pos 0) || any_faulty bs) (ltb (positive_part limit) (guarantees bs)) e in
        ((neither (lt_z limit (pos 0)) (any_faulty bs) p.0).1, p.1)

    firsts_limit : sum first_part bs ≤ positive_part limit
    firsts_limit = le_trans (firsts_guarantees bs) (ltb-false (positive_part limit) (guarantees bs) judged.1)

    most : (i : ℕ) → i < length bs → allotment_at (filled limit bs) i ≤ wanted (berth_at bs i)
    most i h =
        rw (filled_is, (allotted_at left bs i h).1)
        (bounded (allotted_at left bs i h).0 (first_part (berth_at bs i)) (wanted (berth_at bs i)) (first_wanted_at bs i h judged.0))
      where
        bounded : (m f w : ℕ) → f ≤ w → f + min m (w - f) ≤ w
        bounded m f w h = omega arith

    total : sum (λ b. positive_part b.allotment) (filled limit bs) ≡ min (positive_part limit) (sum wanted bs)
    total =
        rw filled_is
        (allotted_sum left bs judged.0 ∙ within (positive_part limit) (sum first_part bs) (sum wanted bs) firsts_limit (firsts_wanted bs judged.0))

    accepted : Shares limit bs (filled limit bs)
    accepted = record {
      same_length = rw filled_is (allotted_length left bs);
      only_allotments = λ i h. rw (filled_is, (allotted_at left bs i h).1);
      at_least_first = λ i h. rw (filled_is, (allotted_at left bs i h).1) (omega arith);
      at_most_cap = λ i h. le_trans (most i h) (min-le_right _ _);
      at_most_demand = λ i h. le_trans (most i h) (min-le_left _ _);
      at_most_limit = rw total (min-le_left _ _);
      nothing_held_back = total;
      in_list_order = λ i j l h k. rw filled_is (in_order_lem left bs i j l h (rw filled_is at k));
    }

    alone : (cs : List Berth) → Shares limit bs cs → cs ≡ filled limit bs
    alone cs h =
        rw filled_is
        (only left bs cs judged.0 h.same_length h.only_allotments h.at_least_first (λ i k. le-min (h.at_most_demand i k) (h.at_most_cap i k))
        (h.nothing_held_back ∙ sym (within (positive_part limit) (sum first_part bs) (sum wanted bs) firsts_limit (firsts_wanted bs judged.0)))
        h.in_list_order)

  refused : (refusal limit bs ≡ 0 → ⊥) → filled limit bs ≡ bs
  unfolding filled
  refused ne = rw (ne_eqb (refusal limit bs) 0 ne)

-- ---- what a refusal depends on
abbrev bounds : Berth → ℤ × ℤ
bounds b = (b.guarantee, b.cap)

-- the guarantees of such a list, summed
unfoldable sum_of : List (ℤ × ℤ) → ℕ
sum_of [] = 0
sum_of (p ∷ ps) = positive_part p.0 + sum_of ps

bounds_length : (bs : List Berth) → length bs ≡ length (map bounds bs)
bounds_length [] = refl
bounds_length (b ∷ bs) = ap suc (bounds_length bs)

bounds_faulty : (bs : List Berth) → any_faulty bs ≡ any (λ p. is_faulty p.0 p.1) (map bounds bs)
unfolding any
bounds_faulty [] = refl
bounds_faulty (b ∷ bs) = ap (λ (x : Bool). is_faulty b.guarantee b.cap || x) (bounds_faulty bs)

bounds_sum : (bs : List Berth) → guarantees bs ≡ sum_of (map bounds bs)
unfolding sum sum_of
bounds_sum [] = refl
bounds_sum (b ∷ bs) = ap (λ (n : ℕ). positive_part b.guarantee + n) (bounds_sum bs)

module _ (bs cs : List Berth) (e : map bounds cs ≡ map bounds bs) where
  length_same : length cs ≡ length bs
  length_same = bounds_length cs ∙ ap length e ∙ sym (bounds_length bs)

  faulty_same : any_faulty cs ≡ any_faulty bs
  faulty_same = bounds_faulty cs ∙ ap (λ (ps : List (ℤ × ℤ)). any (λ p. is_faulty p.0 p.1) ps) e ∙ sym (bounds_faulty bs)

  guarantees_same : guarantees cs ≡ guarantees bs
  guarantees_same = bounds_sum cs ∙ ap sum_of e ∙ sym (bounds_sum bs)

same_refusal : (limit : ℤ) (bs cs : List Berth) → map bounds_of cs ≡ map bounds_of bs → refusal limit cs ≡ refusal limit bs
unfolding refusal
same_refusal limit bs cs e = rw (length_same bs cs e, faulty_same bs cs e, guarantees_same bs cs e)

pub laws : Laws
laws limit bs = record { shared = accepted limit bs; no_other = alone limit bs; refused_same = refused limit bs; same_refusal = same_refusal limit bs }
