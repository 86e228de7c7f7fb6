-- What a writer and a reader have tested and left, whatever record the page is of.
use Rattle.page.proofs.Common.{◌≡◌, refl, sym, ◌∙◌, Bool, true, false, cond, List, ◌++◌, ℕ, arith, leb, length, take, drop, take_at, drop_at, Accepted}
use Rattle.page.proofs.Common.{Refused}
use Rattle.calls.specs.declared.Answer.{Answer}

-- a refusal is no acceptance
pub refused_not : {A : Type 0} (n : ℕ) → Refused n ≡ Accepted → A
refused_not n e = let z : ◌≡◌ {A = ℕ} 0 1 = cc in absurd (omega arith)

-- the tests that an accepted writer has passed
pub both_passed : (a b : Bool) → cond a (cond b Accepted (Refused 8)) (Refused 12) ≡ Accepted → (a ≡ true) × (b ≡ true)
both_passed true true e = (refl, refl)
both_passed true false e = refused_not 8 e
both_passed false b e = refused_not 12 e

-- the tests that an accepted page has passed
module _ {A : Type 0} (answer : A → Answer) (taken : A) (refused : ℕ → A) (refuses : (n : ℕ) → answer (refused n) ≡ Refused n) where
  pub all_passed : (a b c : Bool) → answer (cond a (cond b (cond c taken (refused 11)) (refused 10)) (refused 9)) ≡ Accepted
      → (a ≡ true) × ((b ≡ true) × (c ≡ true))
  all_passed true true true e = (refl, (refl, refl))
  all_passed true true false e = refused_not 11 (sym (refuses 11) ∙ e)
  all_passed true false c e = refused_not 10 (sym (refuses 10) ∙ e)
  all_passed false b c e = refused_not 9 (sym (refuses 9) ∙ e)

-- what a refused reader hands back, each refusal handing back the same
module _ {A M : Type 0} (answer : A → Answer) (meter : A → M) (taken : A) (accepts : answer taken ≡ Accepted) (refused : ℕ → A) (least : M)
    (same : (n : ℕ) → meter (refused n) ≡ least) where
  pub refused_back : (a b c : Bool) (n : ℕ) →
      let o = cond a (cond b (cond c taken (refused 11)) (refused 10)) (refused 9) in
      answer o ≡ Refused n → meter o ≡ least
  refused_back true true true n e = refused_not n (sym e ∙ accepts)
  refused_back true true false n e = same 11
  refused_back true false c n e = same 10
  refused_back false b c n e = same 9

-- the buffer behind a writer, of a record that is sound or not, and of its page
module _ (size : ℕ) (sound : Bool) (page out : List ℕ) where
  abbrev answered : Answer
  answered = cond sound (cond (leb size (length out)) Accepted (Refused 8)) (Refused 12)

  abbrev left : List ℕ
  left = cond sound (cond (leb size (length out)) (page ++ drop size out) out) out

  pub accepted_left : length page ≡ size → answered ≡ Accepted → take size left ≡ page
  accepted_left n e =
      let (whole, room) = both_passed sound (leb size (length out)) e in
      rw (whole, room) (take_at page (drop size out) size n)

  pub refused_left : (n : ℕ) → answered ≡ Refused n → left ≡ out
  refused_left n e = go sound (leb size (length out)) e
    where
      go : (a b : Bool) → cond a (cond b Accepted (Refused 8)) (Refused 12) ≡ Refused n → cond a (cond b (page ++ drop size out) out) out ≡ out
      go true true e = refused_not n (sym e)
      go true false e = refl
      go false b e = refl

  pub left_behind : length page ≡ size → drop size left ≡ drop size out
  left_behind n = go sound (leb size (length out))
    where
      go : (a b : Bool) → drop size (cond a (cond b (page ++ drop size out) out) out) ≡ drop size out
      go true true = drop_at page (drop size out) size n
      go true false = refl
      go false b = refl
