-- Demand 3 of what `replay_three_phase` leaves: an input that it takes is a trace, and the buffer then begins with the page of the trace's account.
use Rattle.base.proofs.Prelude.{◌≡◌, refl, sym, ap, ◌∙◌, true, List, ℕ, eqb, ltb, length, drop, take_at, every}
use Rattle.std.specs.Prelude.{Ok}
use Rattle.codec.specs.Lawful.{Bytes}
use Rattle.events.specs.Table.{EventRow, lawful}
use Rattle.calls.specs.declared.Answer.TheVariants as answer
use Rattle.phases_meter.specs.State.{three_phase_record_of}
use Rattle.phases_meter.specs.Holding.{three_phase_holding}
use Rattle.phases_page.specs.Layout.{three_phase_size}
use Rattle.phases_page.specs.AccountPage.{three_phase_account_page}
use Rattle.phases_page.specs.Demand3.{ThreePhaseTrace}
use Rattle.phases_page.proofs.RoundTrip.{page_length_lem}
use Rattle.phases_page.proofs.Traces as traces
use Rattle.replay.proofs.Answers.{started}
use Rattle.phases_replay.specs.Replay.{three_phase_record_length, three_phase_first_in, three_phase_later_in, three_phase_settings_in, three_phase_calls_in}
use Rattle.phases_replay.specs.Replay.{three_phase_start_of, three_phase_account_in, three_phase_replay_answer, three_phase_replayed}
use Rattle.phases_replay.specs.Laws.{three_phase_page_in, ThreePhaseComparedInputs}
use Rattle.phases_replay.proofs.Records.{record_lawful}
use Rattle.phases_replay.proofs.Ranges.{settings_range}
use Rattle.phases_replay.proofs.Runs.{in_range, printed}

module _ (s out : List ℕ) (bytes : Bytes s) (e : three_phase_replay_answer s out ≡ Ok tt) where
  accepted : (three_phase_start_of (three_phase_first_in s)).answer ≡ answer.Accepted
  unfolding three_phase_replay_answer
  accepted =
      started (eqb (length s) 0) (ltb (length s) three_phase_record_length) (eqb (three_phase_first_in s).kind 0)
      (three_phase_start_of (three_phase_first_in s)).answer _ e

  module _ (rows : List EventRow) (table : every lawful rows ≡ true) where
    trace : ThreePhaseTrace
    trace =
        record {
          rows = rows;
          settings = three_phase_settings_in (three_phase_first_in s);
          calls = three_phase_calls_in (three_phase_later_in s);
          lawful_rows = table;
          accepted = accepted;
          settings_in_range = settings_range (three_phase_first_in s) (record_lawful.held_read s 0 bytes refl);
          calls_in_range = in_range s bytes accepted;
        }

    page : three_phase_page_in rows s out ≡ three_phase_account_page (three_phase_account_in rows s)
    unfolding three_phase_replayed
    page =
        rw e
        (take_at (three_phase_account_page (three_phase_account_in rows s)) (drop three_phase_size out) three_phase_size
        (ap length (printed s bytes accepted rows table) ∙ page_length_lem (three_phase_record_of (three_phase_holding (three_phase_account_in rows s)))))

pub compared : (p q : List EventRow) → every lawful p ≡ true → every lawful q ≡ true → (s t out out' : List ℕ) → Bytes s → Bytes t
    → three_phase_replay_answer s out ≡ Ok tt → three_phase_replay_answer t out' ≡ Ok tt → ThreePhaseComparedInputs p q s t out out'
unfolding trace three_phase_account_in
compared p q lp lq s t out out' bs bt es et =
    let first = page s out bs es p lp in
    let second = page t out' bt et q lq in
    record {
      first_page = first;
      second_page = second;
      same_account = λ e. traces.same_account (trace s out bs es p lp) (trace t out' bt et q lq) (sym first ∙ e ∙ second);
      same_page = λ e. first ∙ ap three_phase_account_page e ∙ sym second;
    }
