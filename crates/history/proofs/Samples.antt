-- What a sample decides, by which monitored values fire and which remain exceeded, and the lines that it owes.
use Prim.Native.Nat.{ℕ, zero, suc, ◌+◌, ◌≤◌, ◌<◌}
use native.Mathlib.Omega.{arith}
use mathlib.Core.Path.{◌≡◌, refl, sym, ap, ◌∙◌}
use mathlib.Core.Bool.{Bool, true, false, not, ◌&&◌, ◌||◌, cond, false≢true, and-false}
use mathlib.Core.List.{List, [], ◌∷◌, ◌++◌}
use mathlib.Core.Logic.{◌↔◌, ◌≢◌, ◌⊎◌, inl, inr}
use mathlib.Core.Option.{Option, none, some}
use lib.Dec.{eqb}
use lib.IntN.{ℤ}
use lib.ListN.{length}
use borrow.Author.Tests.{eqb-true, eqb-false, eq-eqb, ne_eqb}
use Rattle.base.specs.Tests.{among, any, eq_z, numbers, numbers_from, gathered}
use Rattle.base.proofs.Bools.{by_test, and_left, and_right, neither}
use Rattle.base.proofs.Signed.{same_number, number_same}
use Rattle.events.specs.Line.{Line, line}
use Rattle.history.specs.Effects.{AnyFresh, sampled}
use Rattle.history.specs.Last.{History, otherwise, given, last, mode_of, clock_of}
use Rattle.history.specs.Profile.{threshold_in_force, threshold_at}
use Rattle.history.specs.Limiter.{monitored_values}
use Rattle.history.specs.Switch.{spell, observations, last_decided, decides, switch_of, exceeded_of}
use Rattle.history.specs.Logs.{when, moves, local_code, firing_lines, change_lines, owed_by}
use Rattle.history.specs.Splits.{InSpell}
use Rattle.history.specs.Laws.{line_after, FiredOver, FiredUnder, NoneExceeded, FiringsInOrder, none_left, fires_over65, fires_under66, no_firing, LocalMove}
use Rattle.history.specs.Laws.{opened64, closed69, no_move, ThresholdChange, changed67, unchanged, SampleLines}
use Rattle.history.proofs.Splits.{some≢none, outside}
use Rattle.history.proofs.Letters.{OneOrTwo, one, two, last_decided_lem}

-- ---- one of the numbers from k on, and none of them
module _ (p : ℕ → Bool) where
  any_found : (k n : ℕ) → any p (numbers_from k n) ≡ true → (j : ℕ) × ((j < k + n) × (p j ≡ true))
  unfolding any numbers_from
  any_found k zero q = absurd (false≢true q)
  any_found k (suc n) q = go (any_found (suc k) n) (p k) refl q
    where
      go : (any p (numbers_from (suc k) n) ≡ true → (j : ℕ) × ((j < suc k + n) × (p j ≡ true)))
          → (b : Bool) → p k ≡ b → b || any p (numbers_from (suc k) n) ≡ true → (j : ℕ) × ((j < k + suc n) × (p j ≡ true))
      go rest true e q = (k, (omega arith, e))
      go rest false e q = let r = rest q in let l = r.1.0 in (r.0, (omega arith, r.1.1))

  any_none : (k n j : ℕ) → any p (numbers_from k n) ≡ false → k ≤ j → j < k + n → p j ≡ false
  unfolding any numbers_from
  any_none k zero j q a b = absurd (omega arith)
  any_none k (suc n) j q a b =
      let r = neither (p k) _ q in
      by_test (eqb k j) (λ e. ap p (sym (eqb-true k j e)) ∙ r.0)
      (λ e. let d = eqb-false k j e in any_none (suc k) n j r.1 (omega arith) (omega arith))

  any_there : (n j : ℕ) → j < n → p j ≡ true → any p (numbers_from 0 n) ≡ true
  any_there n j b e = by_test (any p (numbers_from 0 n)) (λ q. q) (λ q. absurd (false≢true (sym (any_none 0 n j q (omega arith) (omega arith)) ∙ e)))

  any_absent : (n : ℕ) → ((j : ℕ) → j < n → p j ≡ false) → any p (numbers_from 0 n) ≡ false
  any_absent n e =
      by_test (any p (numbers_from 0 n))
      (λ q. let r = any_found 0 n q in absurd (false≢true (sym (e r.0 (let l = r.1.0 in omega arith)) ∙ r.1.1))) (λ q. q)

-- ---- what is decided, by whether g and h are tried and by the mode
abbrev firings_decide : Bool → Bool → Bool → Option ℕ
firings_decide g zero_mode u = cond g (given (not zero_mode) 2) (given u 1)

not_both : Path (Option ℕ) (some 1) (some 2) → ⊥
not_both q = let z : ◌≡◌ {A = ℕ} 1 2 = cc in omega arith

two_decided : (g z u : Bool) → firings_decide g z u ≡ some 2 → (g ≡ true) × (z ≡ false)
two_decided true true u q = absurd (some≢none (sym q))
two_decided true false u q = (refl, refl)
two_decided false z true q = absurd (not_both q)
two_decided false z false q = absurd (some≢none (sym q))

one_decided : (g z u : Bool) → firings_decide g z u ≡ some 1 → u ≡ true
one_decided true true u q = absurd (some≢none (sym q))
one_decided true false u q = absurd (not_both (sym q))
one_decided false z true q = refl
one_decided false z false q = absurd (some≢none (sym q))

no_other : (s g z u : Bool) (v : ℕ) → cond s none (firings_decide g z u) ≡ some v → (v ≡ 1) ⊎ (v ≡ 2)
no_other true g z u v q = absurd (some≢none (sym q))
no_other false true true u v q = absurd (some≢none (sym q))
no_other false true false u v q = inr cc
no_other false false z true v q = inl cc
no_other false false z false v q = absurd (some≢none (sym q))

false_of : (b : Bool) → not b ≡ true → b ≡ false
false_of true q = absurd (false≢true q)
false_of false q = refl

true_of : (b : Bool) → not b ≡ false → b ≡ true
true_of true q = refl
true_of false q = absurd (false≢true (sym q))

five_or_six : (m : ℕ) → (among (5 ∷ 6 ∷ []) m ≡ true) ↔ ((m ≡ 5) ⊎ (m ≡ 6))
unfolding among
five_or_six m = (to, from)
  where
    to : among (5 ∷ 6 ∷ []) m ≡ true → (m ≡ 5) ⊎ (m ≡ 6)
    to q = by_test (eqb m 5) (λ e. inl (eqb-true m 5 e)) (λ e. by_test (eqb m 6) (λ d. inr (eqb-true m 6 d)) (λ d. absurd (false≢true (rw (e, d) at q))))

    from : (m ≡ 5) ⊎ (m ≡ 6) → among (5 ∷ 6 ∷ []) m ≡ true
    from (inl e) = rw e
    from (inr e) = rw e

module _ (f : AnyFresh) (ps : List ℤ) (h : History) where
  abbrev count : ℕ
  count = length f.thresholds

  abbrev over : ℕ → Bool
  over k = not (exceeded_of f k h) && exceeded_of f k (sampled ps ∷ h)

  abbrev under : ℕ → Bool
  under k = exceeded_of f k h && not (exceeded_of f k (sampled ps ∷ h))

  abbrev after : ℕ → Bool
  after k = exceeded_of f k (sampled ps ∷ h)

  abbrev tries_g : Bool
  tries_g = any over (monitored_values f)

  abbrev tries_h : Bool
  tries_h = any under (monitored_values f) && not (any after (monitored_values f))

  by_firings : ¬ InSpell h → decides f (sampled ps) h ≡ firings_decide tries_g (eqb (mode_of f h) 0) (tries_h && among (5 ∷ 6 ∷ []) (mode_of f h))
  by_firings n = rw (outside h n)

  fired_over : tries_g ≡ true → FiredOver f ps h
  fired_over q =
      let r = any_found over 0 count q in
      let l = r.1.0 in
      let was = exceeded_of f r.0 h in
      record { value = r.0; is_monitored = omega arith; was_not = false_of was (and_left (not was) _ r.1.1); is_now = and_right (not was) _ r.1.1 }

  fired_under : any under (monitored_values f) ≡ true → FiredUnder f ps h
  fired_under q =
      let r = any_found under 0 count q in
      let l = r.1.0 in
      let was = exceeded_of f r.0 h in
      let now = exceeded_of f r.0 (sampled ps ∷ h) in
      record { value = r.0; is_monitored = omega arith; was = and_left was (not now) r.1.1; is_not_now = false_of now (and_right was (not now) r.1.1) }

  over_to : ¬ InSpell h → decides f (sampled ps) h ≡ some 2 → FiredOver f ps h × (mode_of f h ≢ 0)
  over_to n q =
      let r = two_decided tries_g (eqb (mode_of f h) 0) (tries_h && among (5 ∷ 6 ∷ []) (mode_of f h)) (sym (by_firings n) ∙ q) in
      (fired_over r.0, λ z. false≢true (sym r.1 ∙ eq-eqb (mode_of f h) 0 z))

  over_from : ¬ InSpell h → FiredOver f ps h × (mode_of f h ≢ 0) → decides f (sampled ps) h ≡ some 2
  over_from n p =
      let w = p.0 in
      by_firings n ∙ rw (any_there over count w.value w.is_monitored (rw (w.was_not, w.is_now)), ne_eqb (mode_of f h) 0 p.1)

  under_to : ¬ InSpell h → decides f (sampled ps) h ≡ some 1
      → FiredUnder f ps h × (NoneExceeded f (sampled ps ∷ h) × ((mode_of f h ≡ 5) ⊎ (mode_of f h ≡ 6)))
  under_to n q =
      let u = one_decided tries_g (eqb (mode_of f h) 0) (tries_h && among (5 ∷ 6 ∷ []) (mode_of f h)) (sym (by_firings n) ∙ q) in
      let tried = and_left tries_h _ u in
      let none_after = false_of (any after (monitored_values f)) (and_right (any under (monitored_values f)) _ tried) in (
        fired_under (and_left _ _ tried),
        ((λ k b. any_none after 0 count k none_after (omega arith) (omega arith)), (five_or_six (mode_of f h)).0 (and_right tries_h _ u)),
      )

  under_from : ¬ InSpell h → FiredUnder f ps h × (NoneExceeded f (sampled ps ∷ h) × ((mode_of f h ≡ 5) ⊎ (mode_of f h ≡ 6)))
      → decides f (sampled ps) h ≡ some 1
  under_from n p =
      let w = p.0 in
      by_firings n
      ∙ rw (
        any_absent over count (λ j b. rw (p.1.0 j b) (and-false (not (exceeded_of f j h)))),
        any_there under count w.value w.is_monitored (rw (w.was, w.is_not_now)),
        any_absent after count p.1.0,
        (five_or_six (mode_of f h)).1 p.1.1,
      )

pub over_decides : (f : AnyFresh) (ps : List ℤ) (h : History) → ¬ InSpell h
    → (decides f (sampled ps) h ≡ some 2) ↔ (FiredOver f ps h × (mode_of f h ≢ 0))
over_decides f ps h n = (over_to f ps h n, over_from f ps h n)

pub under_decides : (f : AnyFresh) (ps : List ℤ) (h : History) → ¬ InSpell h
    → (decides f (sampled ps) h ≡ some 1)
    ↔ (FiredUnder f ps h × (NoneExceeded f (sampled ps ∷ h) × ((mode_of f h ≡ 5) ⊎ (mode_of f h ≡ 6))))
under_decides f ps h n = (under_to f ps h n, under_from f ps h n)

pub decides_no_other : (f : AnyFresh) (ps : List ℤ) (h : History) (v : ℕ) → decides f (sampled ps) h ≡ some v → (v ≡ 1) ⊎ (v ≡ 2)
decides_no_other f ps h = no_other (spell h) (tries_g f ps h) (eqb (mode_of f h) 0) (tries_h f ps h && among (5 ∷ 6 ∷ []) (mode_of f h))

-- ---- the lines of a sample
changed_at : (now n : ℕ) (from to : ℕ → ℤ)
    → ThresholdChange now n from to (when (any (λ k. not (eq_z (from k) (to k))) (numbers n)) (line now 67 ∷ []))
changed_at now n from to = go (any changes (numbers n)) refl
  where
    changes : ℕ → Bool
    changes k = not (eq_z (from k) (to k))

    differ : (a b : ℤ) → not (eq_z a b) ≡ true → a ≢ b
    differ a b q e = false≢true (sym (false_of (eq_z a b) q) ∙ (ap (eq_z a) (sym e) ∙ same_number a))

    go : (b : Bool) → any changes (numbers n) ≡ b → ThresholdChange now n from to (when b (line now 67 ∷ []))
    go true q = let r = any_found changes 0 n q in let l = r.1.0 in changed67 r.0 (omega arith) (differ _ _ r.1.1)
    go false q = unchanged (λ k b. number_same _ _ (true_of _ (any_none changes 0 n k q (omega arith) (omega arith))))

firings_at : (f : AnyFresh) (ps : List ℤ) (h : History) (k n : ℕ)
    → FiringsInOrder f ps h k n (gathered (firing_lines f (sampled ps) h) (numbers_from k n))
unfolding gathered numbers_from
firings_at f ps h k zero = none_left
firings_at f ps h k (suc n) = go (exceeded_of f k h) (exceeded_of f k (sampled ps ∷ h)) refl refl (firings_at f ps h (suc k) n)
  where
    go : {ls : List Line} (x y : Bool) → exceeded_of f k h ≡ x → exceeded_of f k (sampled ps ∷ h) ≡ y → FiringsInOrder f ps h (suc k) n ls
        → FiringsInOrder f ps h k (suc n)
        ((when (not x && y) (line_after f ps h 65 ∷ []) ++ when (x && not y) (line_after f ps h 66 ∷ [])) ++ ls)
    go true true p q r = no_firing (q ∙ sym p) r
    go true false p q r = fires_under66 p q r
    go false true p q r = fires_over65 p q r
    go false false p q r = no_firing (q ∙ sym p) r

-- by the spell, whether g is tried and the mode is not 0, whether h is tried in mode 5 or 6, and the last deciding call before the sample
move_at : (now : ℕ) (s g z u : Bool) {c : ℕ} → OneOrTwo c →
    let to = cond s 0 (otherwise (cond s none (firings_decide g z u)) c) in
    LocalMove now (cond s 0 c) to (when (not (eqb (cond s 0 c) to)) (line now (local_code to) ∷ []))
move_at now true g z u p = no_move
move_at now false true true u one = no_move
move_at now false true true u two = no_move
move_at now false true false u one = opened64
move_at now false true false u two = no_move
move_at now false false z true one = no_move
move_at now false false z true two = closed69
move_at now false false z false one = no_move
move_at now false false z false two = no_move

move_of : (f : AnyFresh) (ps : List ℤ) (h : History) →
    let now = clock_of f (sampled ps ∷ h) in
    LocalMove now (switch_of f h) (switch_of f (sampled ps ∷ h))
    (when (moves f (sampled ps) h) (line now (local_code (switch_of f (sampled ps ∷ h))) ∷ []))
unfolding switch_of spell last observations last_decided
move_of f ps h =
    move_at (clock_of f (sampled ps ∷ h)) (spell h) (tries_g f ps h) (eqb (mode_of f h) 0) (tries_h f ps h && among (5 ∷ 6 ∷ []) (mode_of f h))
    (last_decided_lem f h)

pub sample_owes : (f : AnyFresh) (ps : List ℤ) (h : History) → SampleLines f ps h (owed_by f 3 (sampled ps) h)
sample_owes f ps h =
    let now = clock_of f (sampled ps ∷ h) in
    let start = change_lines f now (λ k. threshold_in_force f k h) (λ k. threshold_at f k ps h) in
    let firings = gathered (firing_lines f (sampled ps) h) (monitored_values f) in
    let move = when (moves f (sampled ps) h) (line now (local_code (switch_of f (sampled ps ∷ h))) ∷ []) in
    let end = change_lines f now (λ k. threshold_at f k ps h) (λ k. threshold_in_force f k (sampled ps ∷ h)) in
    record {
      start = start;
      firings = firings;
      move = move;
      end = end;
      in_order = refl;
      at_start = changed_at now (length f.thresholds) (λ k. threshold_in_force f k h) (λ k. threshold_at f k ps h);
      each_firing = firings_at f ps h 0 (length f.thresholds);
      one_move = move_of f ps h;
      at_end = changed_at now (length f.thresholds) (λ k. threshold_at f k ps h) (λ k. threshold_in_force f k (sampled ps ∷ h));
    }

pub sample_owes_no_other : (f : AnyFresh) (n : ℕ) (ps : List ℤ) (h : History) → n ≢ 3 → owed_by f n (sampled ps) h ≡ []
sample_owes_no_other f n ps h d = rw (ne_eqb n 3 d)
