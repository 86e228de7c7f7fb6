-- What is kept of an outcome, as number and bytes, whatever record the page is of: a sound record is the writer's, on a number but 0 every byte stays.
use mathlib.Core.Path.{◌≡◌, refl, sym, ap, ◌∙◌}
use mathlib.Core.Bool.{Bool, true, false, cond, ◌&&◌, false≢true}
use mathlib.Core.List.{List, [], ◌∷◌, ◌++◌, append-nil}
use mathlib.Core.Logic.{◌↔◌}
use Prim.Native.Nat.{ℕ, suc, ◌%◌}
use native.Mathlib.Omega.{arith}
use lib.Dec.{eqb, leb, ltb}
use lib.IntN.{pos}
use lib.Signed.{le_z}
use lib.ListN.{length, drop, drop_of_length-le}
use borrow.Author.Tests.{le-leb}
use Rattle.calls.specs.declared.Answer.{Answer}
use Rattle.calls.specs.declared.Answer.TheVariants.{Accepted, Refused}
use Rattle.calls.specs.Calls.{answer_number}
use Rattle.base.specs.Tests.{every}
use Rattle.limiter.specs.Limiter.{is_duration}
use Rattle.machine.specs.Settings.{limits_answer}
use Rattle.meter.specs.Settings.{fresh_answer}
use Rattle.page.specs.AccountPage.{page_length}
use Rattle.std.specs.Prelude.{Ok, Err}
use Rattle.replay.specs.declared.ReplayError.TheVariants as error
use Rattle.replay.specs.Replay.{record_length, first_in, settings_in, Replayed, unless_refused, replay_answer}
use Rattle.replay.specs.Numbers.{number_or, if_accepted, replay_number, NumbersTell, ReplayNumbers}

-- the writer's answer, of a record that is sound or not and a buffer that has room or not
abbrev written_answer : Bool → Bool → Answer
written_answer sound room = cond sound (cond room Accepted (Refused 8)) (Refused 12)

-- the buffer that it leaves, of the page's bytes
abbrev written_bytes : Bool → Bool → List ℕ → List ℕ → List ℕ
written_bytes sound room page out = cond sound (cond room page out) out

-- a record that is sound where it is accepted: the writer refuses only a short buffer
pub kept_answer : (a : Answer) (sound room : Bool) → (a ≡ Accepted → sound ≡ true)
    → number_or a (answer_number (written_answer sound room)) ≡ number_or a (cond room 0 8)
kept_answer (Refused n) sound room s = refl
kept_answer Accepted sound room s = rw (s refl) (fits room)
  where
    fits : (b : Bool) → answer_number (cond b Accepted (Refused 8)) ≡ cond b 0 8
    fits true = refl
    fits false = refl

pub kept_bytes : (a : Answer) (sound room : Bool) (page out : List ℕ) → (a ≡ Accepted → sound ≡ true)
    → if_accepted a (written_bytes sound room page out) out ≡ if_accepted a (cond room page out) out
kept_bytes (Refused n) sound room page out s = refl
kept_bytes Accepted sound room page out s = rw (s refl)

-- on any number but 0 every byte stays
pub kept_same : (a : Answer) (sound room : Bool) (page out : List ℕ) → (number_or a (answer_number (written_answer sound room)) ≡ 0 → ⊥)
    → if_accepted a (written_bytes sound room page out) out ≡ out
kept_same (Refused n) sound room page out some = refl
kept_same Accepted true true page out some = absurd (some refl)
kept_same Accepted true false page out some = refl
kept_same Accepted false room page out some = refl

-- so it does where the page was read first
pub read_same : (a : Answer) (n : ℕ) (kept out : List ℕ) → ((n ≡ 0 → ⊥) → kept ≡ out) → (number_or a n ≡ 0 → ⊥) → if_accepted a kept out ≡ out
read_same (Refused r) n kept out same some = refl
read_same Accepted n kept out same some = same some

-- a buffer of the page's length is the page of an accepted sound record afterwards ..
module _ (size : ℕ) (a : Answer) (sound : Bool) (page out : List ℕ) (whole : length out ≡ size) (e : sound ≡ true) where
  pub kept_written : a ≡ Accepted → if_accepted a (written_bytes sound (leb size (length out)) (page ++ drop size out) out) out ≡ page
  kept_written accepted =
      rw (accepted, e, le-leb size (length out) (omega arith), drop_of_length-le out {i = size} (omega arith)) (append-nil page)

  -- .. and of a refused one whose page it is already
  pub kept_page_lem : ((n : ℕ) → a ≡ Refused n → out ≡ page)
      → if_accepted a (written_bytes sound (leb size (length out)) (page ++ drop size out) out) out ≡ page
  kept_page_lem refused = go a refl
    where
      go : (b : Answer) → a ≡ b → if_accepted a (written_bytes sound (leb size (length out)) (page ++ drop size out) out) out ≡ page
      go Accepted z = kept_written z
      go (Refused n) z = rw z (refused n z)

pub number_of : (a : Answer) → number_or a 0 ≡ answer_number a
number_of Accepted = refl
number_of (Refused n) = refl

-- ---- 0, and no other number, is an acceptance

-- of a page's reading
module _ {A : Type 0} (answer : A → Answer) (taken : A) (refused : ℕ → A) (accepts : answer taken ≡ Accepted)
    (refuses : (n : ℕ) → answer (refused n) ≡ Refused n) where
  abbrev pub read_by : Bool → Bool → Bool → A
  read_by a b c = cond a (cond b (cond c taken (refused 11)) (refused 10)) (refused 9)

  pub read_zero : (a b c : Bool) → (answer_number (answer (read_by a b c)) ≡ 0) ↔ (answer (read_by a b c) ≡ Accepted)
  read_zero true true true = (λ e. accepts, λ e. ap answer_number accepts)
  read_zero true true false = (λ e. absurd (let z = sym (ap answer_number (refuses 11)) ∙ e in omega arith), λ e. ap answer_number e)
  read_zero true false c = (λ e. absurd (let z = sym (ap answer_number (refuses 10)) ∙ e in omega arith), λ e. ap answer_number e)
  read_zero false b c = (λ e. absurd (let z = sym (ap answer_number (refuses 9)) ∙ e in omega arith), λ e. ap answer_number e)

-- a reading's number that is not 0 is its refusal's
pub read_refused : (a : Answer) → (answer_number a ≡ 0 → ⊥) → a ≡ Refused (answer_number a)
read_refused Accepted some = absurd (some refl)
read_refused (Refused n) some = refl

-- of what became of an input: where fresh is refused with 1, 4 or 5
abbrev fresh_by : Bool → Bool → Bool → Answer
fresh_by mode thresholds durations = cond mode (cond thresholds (cond durations Accepted (Refused 5)) (Refused 4)) (Refused 1)

-- an end is written or refused with 8, or the input is short
abbrev end_by : Bool → Bool → Replayed
end_by even fits = cond even (cond fits (Ok tt) (Err (error.Refused 8))) (Err error.Short)

abbrev is_written : Replayed → Bool
is_written (Ok u) = true
is_written (Err e) = false

not_written : (r : Replayed) (n : ℕ) → replay_number r ≡ suc n → is_written r ≡ false → (replay_number r ≡ 0) ↔ (r ≡ Ok tt)
not_written r n e other = (λ z. absurd (omega arith), λ z. absurd (false≢true (sym other ∙ ap is_written z)))

pub zero_exactly : (empty short fresh mode thresholds durations even fits : Bool)
    → let r = cond empty (Err error.Empty) (cond short (Err error.Short) (cond fresh (unless_refused (fresh_by mode thresholds durations) (end_by even fits)) (Err error.Bad))) in
    (replay_number r ≡ 0) ↔ (r ≡ Ok tt)
zero_exactly true short fresh mode thresholds durations even fits = not_written (Err error.Empty) 99 refl refl
zero_exactly false true fresh mode thresholds durations even fits = not_written (Err error.Short) 101 refl refl
zero_exactly false false false mode thresholds durations even fits = not_written (Err error.Bad) 100 refl refl
zero_exactly false false true false thresholds durations even fits = not_written (Err (error.Refused 1)) 0 refl refl
zero_exactly false false true true false durations even fits = not_written (Err (error.Refused 4)) 3 refl refl
zero_exactly false false true true true false even fits = not_written (Err (error.Refused 5)) 4 refl refl
zero_exactly false false true true true true false fits = not_written (Err error.Short) 101 refl refl
zero_exactly false false true true true true true false = not_written (Err (error.Refused 8)) 7 refl refl
zero_exactly false false true true true true true true = (λ e. refl, λ e. refl)

pub numbers_tell : (answer_of : List ℕ → List ℕ → Replayed)
    → ((s out : List ℕ) → (replay_number (answer_of s out) ≡ 0) ↔ (answer_of s out ≡ Ok tt)) → NumbersTell answer_of
numbers_tell answer_of zero = record { zero_written = zero; refusal_number = λ s out n e. ap replay_number e; others = refl }

pub replay_numbers : ReplayNumbers
unfolding replay_answer fresh_answer limits_answer every
replay_numbers = numbers_tell replay_answer (λ s out. let f = settings_in (first_in s) in
    zero_exactly (eqb (length s) 0) (ltb (length s) record_length) (eqb (first_in s).kind 0) (leb f.mode 6) (every (le_z (pos 0)) (f.threshold ∷ []))
    (is_duration f.over && is_duration f.under) (eqb (length s % record_length) 0) (leb page_length (length out)))
