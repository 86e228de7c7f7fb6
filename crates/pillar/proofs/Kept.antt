-- What the functions answer and leave, as their code comes to it: a refusal is the answer and leaves every byte; an accepted record is the
-- writer's.
use mathlib.Core.Path.{◌≡◌, sym, ap, ◌∙◌}
use mathlib.Core.List.{List}
use Prim.Native.Nat.{ℕ, ◌^◌, ◌<◌}
use Rattle.calls.specs.declared.Answer.{Answer}
use Rattle.calls.specs.declared.Answer.TheVariants.{Accepted, Refused}
use Rattle.calls.specs.declared.Call.{Call}
use Rattle.calls.specs.declared.Command.{Command}
use Rattle.calls.specs.Calls.{Parsed}
use Rattle.calls.specs.declared.CommandError.TheVariants.{NoKind}
use Rattle.std.specs.Prelude.{Ok, Err}
use Rattle.calls.specs.Calls.{answer_number, letter_byte, call_of, InRange}
use Rattle.events.specs.Table.{EventRow}
use Rattle.meter.specs.declared.Outcome.{Outcome}
use Rattle.meter.specs.Machine.{applied}
use Rattle.page.specs.Layout.{write_answer, written, read_of}
use Rattle.replay.proofs.Ranges.{ParsedInRange, call_range}
use Rattle.pillar.specs.Interface.{outcome_on, kept_number, kept_page, performed_letter, call_number, call_page, call_letter, Called}

module _ (rows : List EventRow) (o : Outcome) (page : List ℕ) where
  pub kept_refused : (n : ℕ) → o.answer ≡ Refused n → (n ≡ kept_number rows o page) × (page ≡ kept_page rows o page)
  unfolding kept_number kept_page
  kept_refused n e = (rw e, rw e)

  pub kept_written : (r : ℕ) (a : Answer) (after : List ℕ) → o.answer ≡ Accepted → r ≡ answer_number a
      → (a ≡ write_answer rows o.meter page) × (after ≡ written rows o.meter page) → (r ≡ kept_number rows o page) × (after ≡ kept_page rows o page)
  unfolding kept_number kept_page
  kept_written r a after e number wrote = (rw e (number ∙ ap answer_number wrote.0), rw e wrote.1)

-- a command that is read as p
module _ (rows : List EventRow) (page : List ℕ) (r : Command) (p : Parsed) (parsed : p ≡ call_of r) where
  pub call_no_kind : (b : ℕ) → p ≡ Err NoKind → b ≡ letter_byte (performed_letter rows page (Err NoKind)) → Called rows page r 13 page b
  unfolding call_number call_page call_letter
  call_no_kind b e letter = record { answers = rw (← parsed, e); leaves = rw (← parsed, e); stores = rw (← parsed, e) letter }

  module _ (c : Call) (names : p ≡ Ok c) (read : Outcome) (reads : read ≡ read_of rows page) where
    pub call_refused : (n b : ℕ) → read.answer ≡ Refused n → b ≡ letter_byte (performed_letter rows page (Err NoKind)) → Called rows page r n page b
    unfolding call_number call_page call_letter
    call_refused n b e letter =
        let refused : (read_of rows page).answer ≡ Refused n = ap (λ (o : Outcome). o.answer) (sym reads) ∙ e in
        record {
          answers = rw (← parsed, names, refused);
          leaves = rw (← parsed, names, refused);
          stores = rw (← parsed, names, refused) letter;
        }

    pub call_kept : (n : ℕ) (o : Outcome) (after : List ℕ) (b : ℕ) → read.answer ≡ Accepted → o ≡ applied rows read.meter c
        → (n ≡ kept_number rows o page) × (after ≡ kept_page rows o page) → b ≡ letter_byte o.letter → Called rows page r n after b
    unfolding call_number call_page call_letter
    call_kept n o after b e applies kept letter =
        let accepted : (read_of rows page).answer ≡ Accepted = ap (λ (o : Outcome). o.answer) (sym reads) ∙ e in
        let outcome : o ≡ outcome_on rows page c = applies ∙ ap (λ (o : Outcome). applied rows o.meter c) reads in
        record {
          answers = rw (← parsed, names, accepted) (kept.0 ∙ ap (λ (o : Outcome). kept_number rows o page) outcome);
          leaves = rw (← parsed, names, accepted) (kept.1 ∙ ap (λ (o : Outcome). kept_page rows o page) outcome);
          stores = rw (← parsed, names, accepted) (letter ∙ ap (λ (o : Outcome). letter_byte o.letter) outcome);
        }

-- the numbers of a call that a command of numbers of 32 bits names are values of their types
pub named_range : (p : Parsed) (c : Call) (r : Command) → p ≡ call_of r → p ≡ Ok c → r.n1 < 256 ^ 4 → r.n2 < 256 ^ 4 → r.n3 < 256 ^ 4
    → r.n4 < 256 ^ 4 → r.n5 < 256 ^ 4 → InRange c
named_range p c r read names h1 h2 h3 h4 h5 =
    let range : ParsedInRange p = rw read (call_range r h1 h2 h3 h4 h5) in
    rw names at range
