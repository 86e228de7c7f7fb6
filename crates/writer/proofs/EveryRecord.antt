-- What is promised of a record that is not tested, for every record: from the answer, the refused buffer and the bytes past the page.
use Prim.Native.Nat.{ℕ, ◌+◌, ◌-◌, ◌≤◌, ◌<◌}
use native.Mathlib.Omega.{arith}
use mathlib.Core.Path.{◌≡◌, refl, sym, ap, ◌∙◌}
use mathlib.Core.Bool.{Bool, true, false, cond}
use mathlib.Core.List.{List}
use lib.Dec.{leb}
use lib.ListN.{length, drop, get_or}
use lib.Seq.{get_or-drop}
use borrow.Author.Tests.{leb-true, leb-false}
use Rattle.calls.specs.declared.Answer.{Answer}
use Rattle.calls.specs.declared.Answer.TheVariants.{Accepted, Refused}
use Rattle.page.proofs.Tests.{refused_not}
use Rattle.writer.specs.Put.{WritesSound, OfEveryRecord, WritesEveryRecord}
use Rattle.writer.specs.ThreePhase.{ThreePhaseWritesSound, ThreePhaseWritesEveryRecord}

-- what is known of an answer and a buffer, by the length of the page
pub record Known (size : ℕ) (out : List ℕ) (answer : Answer) (left : List ℕ) : Type 0 where
  pub answers : answer ≡ cond (leb size (length out)) Accepted (Refused 8)
  pub refused : leb size (length out) ≡ false → left ≡ out
  pub past : drop size left ≡ drop size out

module _ (size : ℕ) (promised : List ℕ → Answer → List ℕ → Type 0)
    (known : (out : List ℕ) (answer : Answer) (left : List ℕ) → promised out answer left → Known size out answer left) where
  short : (out left : List ℕ) (n : ℕ) → Known size out (Refused n) left → (n ≡ 8) × ((length out < size) × (left ≡ out))
  short out left n k = go (leb size (length out)) refl k.answers
    where
      go : (b : Bool) → leb size (length out) ≡ b → Path Answer (Refused n) (cond b Accepted (Refused 8)) → (n ≡ 8) × ((length out < size) × (left ≡ out))
      go true q e = refused_not n e
      go false q e = (cc, (leb-false size (length out) q, k.refused q))

  room : (out left : List ℕ) → Known size out Accepted left → size ≤ length out
  room out left k = go (leb size (length out)) refl k.answers
    where
      go : (b : Bool) → leb size (length out) ≡ b → Path Answer Accepted (cond b Accepted (Refused 8)) → size ≤ length out
      go true q e = leb-true size (length out) q
      go false q e = refused_not 8 (sym e)

  kept : (out left : List ℕ) → drop size left ≡ drop size out → (i : ℕ) → size ≤ i → get_or left i 0 ≡ get_or out i 0
  kept out left e i b =
      let at : size + (i - size) ≡ i = omega arith in
      ap (λ (j : ℕ). get_or left j 0) (sym at)
      ∙ (sym (get_or-drop size left (i - size) 0) ∙ (ap (λ (l : List ℕ). get_or l (i - size) 0) e
      ∙ (get_or-drop size out (i - size) 0 ∙ ap (λ (j : ℕ). get_or out j 0) at)))

  pub of_every_record : OfEveryRecord size promised
  of_every_record =
      record {
        refused_short = λ out left n p. short out left n (known out (Refused n) left p);
        accepted_room = λ out left p. room out left (known out Accepted left p);
        past_kept = λ out left a p. kept out left (known out a left p).past;
      }

pub writes_every_record : WritesEveryRecord
writes_every_record m =
    of_every_record 599 (WritesSound m) (λ out a left p. record { answers = p.answers; refused = p.refused; past = p.past })

pub three_phase_writes_every_record : ThreePhaseWritesEveryRecord
three_phase_writes_every_record m =
    of_every_record 586 (ThreePhaseWritesSound m) (λ out a left p. record { answers = p.answers; refused = p.refused; past = p.past })
