-- What the functions answer and leave, as their code comes to it: a refusal is the answer and leaves every byte; an accepted record is the
-- writer's.
use mathlib.Core.Path.{◌≡◌, sym, ap, ◌∙◌}
use mathlib.Core.List.{List}
use Prim.Native.Nat.{ℕ, ◌^◌, ◌<◌}
use Rattle.events.specs.Table.{EventRow}
use Rattle.calls.specs.declared.Answer.{Answer}
use Rattle.calls.specs.declared.Answer.TheVariants.{Accepted, Refused}
use Rattle.calls.specs.Calls.{answer_number, letter_byte}
use Rattle.phases.specs.declared.ThreePhaseCall.{ThreePhaseCall}
use Rattle.phases.specs.declared.ThreePhaseCommand.{ThreePhaseCommand}
use Rattle.phases.specs.Calls.{ThreePhaseParsed}
use Rattle.calls.specs.declared.CommandError.TheVariants.{NoKind}
use Rattle.std.specs.Prelude.{Ok, Err}
use Rattle.phases.specs.Calls.{three_phase_call_of, ThreePhaseInRange}
use Rattle.phases_meter.specs.declared.ThreePhaseOutcome.{ThreePhaseOutcome}
use Rattle.phases_meter.specs.Machine.{three_phase_applied}
use Rattle.phases_page.specs.Layout.{three_phase_write_answer, three_phase_written, three_phase_read_of}
use Rattle.phases_replay.proofs.Ranges.{NamedInRange, call_range}
use Rattle.phases_interface.specs.Interface.{three_phase_outcome_on, three_phase_kept_number, three_phase_kept_page, three_phase_performed_letter}
use Rattle.phases_interface.specs.Interface.{three_phase_call_number, three_phase_call_page, three_phase_call_letter, ThreePhaseCalled}

module _ (rows : List EventRow) (o : ThreePhaseOutcome) (page : List ℕ) where
  pub kept_refused : (n : ℕ) → o.answer ≡ Refused n → (n ≡ three_phase_kept_number rows o page) × (page ≡ three_phase_kept_page rows o page)
  unfolding three_phase_kept_number three_phase_kept_page
  kept_refused n e = (rw e, rw e)

  pub kept_written : (r : ℕ) (a : Answer) (after : List ℕ) → o.answer ≡ Accepted → r ≡ answer_number a
      → (a ≡ three_phase_write_answer rows o.meter page) × (after ≡ three_phase_written rows o.meter page)
      → (r ≡ three_phase_kept_number rows o page) × (after ≡ three_phase_kept_page rows o page)
  unfolding three_phase_kept_number three_phase_kept_page
  kept_written r a after e number wrote = (rw e (number ∙ ap answer_number wrote.0), rw e wrote.1)

-- a command that is read as p
module _ (rows : List EventRow) (page : List ℕ) (r : ThreePhaseCommand) (p : ThreePhaseParsed) (parsed : p ≡ three_phase_call_of r) where
  pub call_no_kind : (b : ℕ) → p ≡ Err NoKind → b ≡ letter_byte (three_phase_performed_letter rows page (Err NoKind)) → ThreePhaseCalled rows page r 13 page b
  unfolding three_phase_call_number three_phase_call_page three_phase_call_letter
  call_no_kind b e letter = record { answers = rw (← parsed, e); leaves = rw (← parsed, e); stores = rw (← parsed, e) letter }

  module _ (c : ThreePhaseCall) (names : p ≡ Ok c) (read : ThreePhaseOutcome) (reads : read ≡ three_phase_read_of rows page) where
    pub call_refused : (n b : ℕ) → read.answer ≡ Refused n → b ≡ letter_byte (three_phase_performed_letter rows page (Err NoKind))
        → ThreePhaseCalled rows page r n page b
    unfolding three_phase_call_number three_phase_call_page three_phase_call_letter
    call_refused n b e letter =
        let refused : (three_phase_read_of rows page).answer ≡ Refused n = ap (λ (o : ThreePhaseOutcome). o.answer) (sym reads) ∙ e in
        record {
          answers = rw (← parsed, names, refused);
          leaves = rw (← parsed, names, refused);
          stores = rw (← parsed, names, refused) letter;
        }

    pub call_kept : (n : ℕ) (o : ThreePhaseOutcome) (after : List ℕ) (b : ℕ) → read.answer ≡ Accepted → o ≡ three_phase_applied rows read.meter c
        → (n ≡ three_phase_kept_number rows o page) × (after ≡ three_phase_kept_page rows o page) → b ≡ letter_byte o.letter
        → ThreePhaseCalled rows page r n after b
    unfolding three_phase_call_number three_phase_call_page three_phase_call_letter
    call_kept n o after b e applies kept letter =
        let accepted : (three_phase_read_of rows page).answer ≡ Accepted = ap (λ (o : ThreePhaseOutcome). o.answer) (sym reads) ∙ e in
        let outcome : o ≡ three_phase_outcome_on rows page c = applies ∙ ap (λ (o : ThreePhaseOutcome). three_phase_applied rows o.meter c) reads in
        record {
          answers = rw (← parsed, names, accepted) (kept.0 ∙ ap (λ (o : ThreePhaseOutcome). three_phase_kept_number rows o page) outcome);
          leaves = rw (← parsed, names, accepted) (kept.1 ∙ ap (λ (o : ThreePhaseOutcome). three_phase_kept_page rows o page) outcome);
          stores = rw (← parsed, names, accepted) (letter ∙ ap (λ (o : ThreePhaseOutcome). letter_byte o.letter) outcome);
        }

-- the numbers of a call that a command of numbers of 32 bits names are values of their types
pub named_range : (p : ThreePhaseParsed) (c : ThreePhaseCall) (r : ThreePhaseCommand) → p ≡ three_phase_call_of r → p ≡ Ok c → r.n1 < 256 ^ 4
    → r.n2 < 256 ^ 4 → r.n3 < 256 ^ 4 → r.n4 < 256 ^ 4 → r.n5 < 256 ^ 4 → r.n6 < 256 ^ 4 → ThreePhaseInRange c
named_range p c r read names h1 h2 h3 h4 h5 h6 =
    let range : NamedInRange p = rw read (call_range r h1 h2 h3 h4 h5 h6) in
    rw names at range
