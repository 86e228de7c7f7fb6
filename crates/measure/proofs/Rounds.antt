-- Rounds of calls, and of one function, as the code comes to them: one round more, and the reader's and the writer's answers.
use mathlib.Core.Path.{◌≡◌, refl, sym, ap, ◌∙◌}
use mathlib.Core.Bool.{Bool, true, false, cond}
use mathlib.Core.List.{List}
use Prim.Native.Nat.{ℕ, zero, suc, ◌+◌, ◌-◌, ◌<◌, ◌≤◌}
use native.Mathlib.Numerals.{add-one}
use native.Mathlib.Omega.{arith}
use lib.Dec.{ltb}
use mir.Val.{bool_byte}
use lib.ListN.{length, length-set}
use lib.Seq.{set-set}
use Rattle.events.specs.Table.{EventRow}
use Rattle.calls.specs.declared.Answer.{Answer}
use Rattle.calls.specs.declared.Answer.TheVariants.{Accepted, Refused}
use Rattle.calls.specs.declared.Command.{Command}
use Rattle.calls.specs.Calls.{answer_number}
use Rattle.meter.specs.declared.Meter.{Meter}
use Rattle.meter.specs.declared.Outcome.{Outcome}
use Rattle.page.specs.Layout.{write_answer, written, read_of}
use Rattle.replay.specs.Replay.{records_from, meter_after}
use Rattle.measure.specs.Rounds.{rounds_from, calls_answer, calls_page, passing, in_round, written_rounds, page_in_round, page_after_rounds}

pub next_round : (rows : List EventRow) (n : ℕ) (m : Meter) (rs : List Command) → 0 < n → rounds_from rows (n - 1) (meter_after rows m rs) rs ≡ rounds_from rows n m rs
unfolding rounds_from
next_round rows n m rs h =
    let one : n ≡ suc (n - 1) = omega arith in
    sym (ap (λ (k : ℕ). rounds_from rows k m rs) one)

pub no_round : (rows : List EventRow) (n : ℕ) (m : Meter) (rs : List Command) → n ≡ 0 → rounds_from rows n m rs ≡ m
unfolding rounds_from
no_round rows n m rs e = rw e

module _ (rows : List EventRow) (page s : List ℕ) (n : ℕ) (read : Outcome) (reads : read ≡ read_of rows page) where
  pub rounds_refused : (r : ℕ) → read.answer ≡ Refused r → (r ≡ calls_answer rows page s n) × (page ≡ calls_page rows page s n)
  unfolding calls_answer calls_page
  rounds_refused r e =
      let refused : (read_of rows page).answer ≡ Refused r = ap (λ (o : Outcome). o.answer) (sym reads) ∙ e in
      (rw refused, rw refused)

  pub rounds_written : (r : ℕ) (m : Meter) (a : Answer) (after : List ℕ) → read.answer ≡ Accepted
      → m ≡ rounds_from rows n read.meter (records_from 0 s)
      → (a ≡ write_answer rows m page) × (after ≡ written rows m page) → r ≡ answer_number a
      → (r ≡ calls_answer rows page s n) × (after ≡ calls_page rows page s n)
  unfolding calls_answer calls_page
  rounds_written r m a after e runs wrote number =
      let accepted : (read_of rows page).answer ≡ Accepted = ap (λ (o : Outcome). o.answer) (sym reads) ∙ e in
      let last : m ≡ rounds_from rows n (read_of rows page).meter (records_from 0 s) =
      runs ∙ ap (λ (o : Outcome). rounds_from rows n o.meter (records_from 0 s)) reads in (
        rw accepted (number ∙ ap answer_number wrote.0 ∙ ap (λ (m : Meter). answer_number (write_answer rows m page)) last),
        rw accepted (wrote.1 ∙ ap (λ (m : Meter). written rows m page) last),
      )

-- ---- rounds of one function: one more, and no more than there are

passing_most : (n : ℕ) (test : ℕ → Bool) → passing n test ≤ n
unfolding passing
passing_most zero test = omega arith
passing_most (suc n) test = go (test n) (passing_most n test)
  where
    go : (b : Bool) → passing n test ≤ n → passing n test + cond b 1 0 ≤ suc n
    go true h = omega arith
    go false h = omega arith

-- what a round adds to a count
byte_is : (b : Bool) → bool_byte b ≡ cond b 1 0
byte_is true = refl
byte_is false = refl

pub passing_room : (n k r : ℕ) (test : ℕ → Bool) (b : Bool) → k ≡ passing n test → r ≡ bool_byte b → k + r ≤ n + 1
passing_room n k r test true so_far adds = omega (arith, passing_most n test)
passing_room n k r test false so_far adds = omega (arith, passing_most n test)

pub next_passing : (n k r : ℕ) (test : ℕ → Bool) (b : Bool) → k ≡ passing n test → r ≡ bool_byte b → b ≡ test n
    → k + r ≡ passing (n + 1) test
unfolding passing
next_passing n k r test b so_far adds passes = rw (so_far, adds, byte_is b, passes, add-one n)

-- a meter in a round, whatever its clock was before
pub same_round : (m n : Meter) (i : ℕ) → in_round m 0 ≡ in_round n 0 → in_round m i ≡ in_round n i
same_round m n i e = ap (λ (x : Meter). in_round x i) e

pub next_written : (rows : List EventRow) (m : Meter) (page : List ℕ) (n : ℕ) → written rows (in_round m n) (written_rounds rows m page n) ≡ written_rounds rows m page (n + 1)
unfolding written_rounds
next_written rows m page n = rw (add-one n)

-- the writer asks for the buffer's length alone
pub answer_by_length : (rows : List EventRow) (m : Meter) (s t : List ℕ) → length s ≡ length t → write_answer rows m s ≡ write_answer rows m t
unfolding write_answer
answer_by_length rows m s t e = rw e

-- the round before has changed that byte alone
pub next_page : (page : List ℕ) (n : ℕ) → page_in_round (page_after_rounds page n) n ≡ page_in_round page n
unfolding page_after_rounds
next_page page zero = refl
next_page page (suc n) = go (ltb 62 (length page)) refl
  where
    go : (b : Bool) → ltb 62 (length page) ≡ b → page_in_round (page_in_round page n) (suc n) ≡ page_in_round page (suc n)
    go true e = rw (e, length-set, e, set-set)
    go false e = rw (e, e)

pub after_round : (page : List ℕ) (n : ℕ) → page_in_round page n ≡ page_after_rounds page (n + 1)
unfolding page_after_rounds
after_round page n = rw (add-one n)
