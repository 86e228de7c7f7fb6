-- Demand 3 of what `replay` leaves: an input that it takes is a trace, and the buffer then begins with the page of the trace's account. So what holds of the
-- account's switch holds of the page's.
use mathlib.Core.Path.{◌≡◌, refl, sym, ap, ◌∙◌}
use mathlib.Core.Bool.{true, ◌&&◌}
use mathlib.Core.List.{List, [], ◌∷◌, flat_map}
use Prim.Native.Nat.{ℕ, ◌/◌, ◌%◌, ◌≤◌}
use native.Mathlib.Omega.{arith}
use lib.Dec.{eqb, leb, ltb}
use lib.ListN.{length, drop}
use lib.Seq.{take_at}
use borrow.Author.Tests.{leb-true}
use Rattle.std.specs.Prelude.{Ok}
use Rattle.base.specs.Tests.{every}
use Rattle.base.proofs.Bools.{and_left, and_right}
use Rattle.codec.specs.BigEndian.{be}
use Rattle.codec.specs.Lawful.{Bytes}
use Rattle.events.specs.Table.{EventRow, lawful}
use Rattle.calls.specs.declared.Answer.TheVariants as answer
use Rattle.control.specs.Control.{sound_control}
use Rattle.history.specs.OnePhase.{Account}
use Rattle.history.specs.RemoteDisconnect.{HoldsOnePhase}
use Rattle.history.proofs.RemoteDisconnect.{remote_disconnect_holds}
use Rattle.machine.proofs.Preserved.{control_sound}
use Rattle.machine.specs.Sound.{sound_values, sound_state}
use Rattle.meter.specs.State.{record_of}
use Rattle.meter.specs.Holding.{holding}
use Rattle.meter.proofs.Simulates.{account_sound}
use Rattle.page.specs.Layout.{size}
use Rattle.page.specs.AccountPage.{account_page}
use Rattle.page.specs.Demand3.{Trace}
use Rattle.page.proofs.RoundTrip.{page_length_lem}
use Rattle.page.proofs.Traces as traces
use Rattle.replay.specs.Replay.{record_length, first_in, later_in, settings_in, calls_in, start_of, account_in, replay_answer, replayed}
use Rattle.replay.specs.Laws.{page_in, ComparedInputs, switch_in}
use Rattle.replay.proofs.Records.{record_lawful}
use Rattle.replay.proofs.Answers.{started}
use Rattle.replay.proofs.Ranges.{settings_range}
use Rattle.replay.proofs.Runs.{settings, in_range, printed}

-- a switch that is a position is one byte of the page
pub page_switch : (a : Account) → a.switch ≤ 2 → switch_in (account_page a) ≡ a.switch
unfolding account_page flat_map be
page_switch a h =
    let byte : switch_in (account_page a) ≡ a.switch / 1 % 256 = refl in
    omega (arith, byte)

pub sound_switch : (rows : List EventRow) (a : Account) → sound_state rows (holding a) ≡ true → a.switch ≤ 2
unfolding sound_state sound_control
sound_switch rows a e =
    let control = control_sound (holding a).values (and_left (sound_values (holding a).values) _ e) in
    leb-true a.switch 2 (and_right (leb a.mode 6) _ (and_left (leb a.mode 6 && leb a.switch 2) _ control))

module _ (s out : List ℕ) (bytes : Bytes s) (e : replay_answer s out ≡ Ok tt) where
  accepted : (start_of (first_in s)).answer ≡ answer.Accepted
  unfolding replay_answer
  accepted = started (eqb (length s) 0) (ltb (length s) record_length) (eqb (first_in s).kind 0) (start_of (first_in s)).answer _ e

  module _ (rows : List EventRow) (table : every lawful rows ≡ true) where
    trace : Trace
    trace =
        record {
          rows = rows;
          settings = settings_in (first_in s);
          calls = calls_in (later_in s);
          lawful_rows = table;
          accepted = accepted;
          settings_in_range = settings_range (first_in s) (record_lawful.held_read s 0 bytes refl);
          calls_in_range = in_range s bytes accepted;
        }

    page : page_in rows s out ≡ account_page (account_in rows s)
    unfolding replayed
    page =
        rw e
        (take_at (account_page (account_in rows s)) (drop size out) size
        (ap length (printed s bytes accepted rows table) ∙ page_length_lem (record_of (holding (account_in rows s)))))

    pub disconnect_holds : HoldsOnePhase (0 ∷ 2 ∷ 4 ∷ []) rows (settings_in (first_in s)) (calls_in (later_in s)) (switch_in (page_in rows s out))
    unfolding account_in
    disconnect_holds v d q =
        let sound = account_sound rows table (settings_in (first_in s)) (settings s bytes accepted) (calls_in (later_in s)) (in_range s bytes accepted) in
        let shown = page_switch (account_in rows s) (sound_switch rows (account_in rows s) sound) in
        remote_disconnect_holds.one_phase_holds rows (settings_in (first_in s)) (calls_in (later_in s)) v d (sym (ap switch_in page ∙ shown) ∙ q)

pub compared : (p q : List EventRow) → every lawful p ≡ true → every lawful q ≡ true → (s t out out' : List ℕ) → Bytes s → Bytes t
    → replay_answer s out ≡ Ok tt → replay_answer t out' ≡ Ok tt → ComparedInputs p q s t out out'
unfolding trace account_in
compared p q lp lq s t out out' bs bt es et =
    let first = page s out bs es p lp in
    let second = page t out' bt et q lq in
    record {
      first_page = first;
      second_page = second;
      same_account = λ e. traces.same_account (trace s out bs es p lp) (trace t out' bt et q lq) (sym first ∙ e ∙ second);
      same_page = λ e. first ∙ ap account_page e ∙ sym second;
    }
