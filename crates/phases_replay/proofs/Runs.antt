-- A whole input of the three-phase meter: the meter after its last record holds the account of the input's history and is sound, so that the writer puts
-- the account's page into the buffer.
use Rattle.base.proofs.Prelude.{◌≡◌, refl, sym, ap, ◌∙◌, true, false, List, [], ◌∷◌, ℕ, ◌+◌, ◌-◌, ◌*◌, ◌/◌, ◌%◌, ◌<◌, ◌≤◌, eqb, leb, ltb, length, every}
use Rattle.codec.specs.Lawful.{Bytes}
use Rattle.codec.proofs.Formats.{times_lawful}
use Rattle.events.specs.Table.{EventRow, lawful}
use Rattle.logs.specs.Layout.{Sized}
use Rattle.calls.specs.declared.Answer.{Answer}
use Rattle.calls.specs.declared.Answer.TheVariants as answer
use Rattle.phases.specs.declared.ThreePhaseCall.{ThreePhaseCall}
use Rattle.phases.specs.declared.ThreePhaseCommand.{ThreePhaseCommand}
use Rattle.phases.specs.Calls.{ThreePhaseParsed}
use Rattle.calls.specs.declared.CommandError.TheVariants.{NoKind}
use Rattle.std.specs.Prelude.{Ok, Err}
use Rattle.phases.specs.Calls.{three_phase_call_of, AllThreePhaseInRange}
use Rattle.phases.specs.ThreePhase.{ThreePhaseFresh}
use Rattle.phases_meter.specs.declared.ThreePhaseMeter.{ThreePhaseMeter}
use Rattle.phases_meter.specs.declared.ThreePhaseOutcome.{ThreePhaseOutcome}
use Rattle.phases_meter.specs.State.{three_phase_record_of, sound_three_phase_meter}
use Rattle.phases_meter.specs.Machine.{three_phase_applied, three_phase_performed, three_phase_commanded, three_phase_record_after}
use Rattle.phases_meter.specs.Settings.{ThreePhaseSettings}
use Rattle.phases_meter.specs.Fresh.{three_phase_fresh_state}
use Rattle.phases_meter.specs.Holding.{three_phase_holding}
use Rattle.phases_meter.proofs.Preserved.{applied_sized, applied_sound}
use Rattle.phases_meter.proofs.Accepting.{fresh_laws}
use Rattle.phases_meter.proofs.Simulates.{simulates, reached_sound}
use Rattle.phases_page.specs.Layout.{three_phase_size, three_phase_page_of, three_phase_write_answer, three_phase_written}
use Rattle.phases_page.specs.AccountPage.{three_phase_account_page}
use Rattle.phases_page.proofs.Printed.{list_written}
use Rattle.replay.specs.Replay.{Replayed, unless_refused, end_of, buffer_after}
use Rattle.replay.proofs.Lists.{decs_next, decs_end, all_valid_lem}
use Rattle.replay.proofs.Answers.{writer_end, buffer_end}
use Rattle.phases_replay.specs.Input.{three_phase_record_format}
use Rattle.phases_replay.specs.Replay.{three_phase_record_length, three_phase_first_in, three_phase_records_from, three_phase_later_in, three_phase_settings_in}
use Rattle.phases_replay.specs.Replay.{three_phase_with_call, three_phase_calls_in, three_phase_start_of, three_phase_meter_after, three_phase_last_meter}
use Rattle.phases_replay.specs.Replay.{three_phase_account_in, three_phase_replay_answer, three_phase_replayed}
use Rattle.phases_replay.proofs.Records.{record_lawful}
use Rattle.phases_replay.proofs.Ranges.{NamedInRange, settings_range, parsed_range, calls_range}

-- ---- a loop over the records, by an event table

module _ (rows : List EventRow) where
  -- the meter after a record is the one that its call, if it names one, gets it to
  meter_next : (m : ThreePhaseMeter) (r : ThreePhaseCommand) (rs : List ThreePhaseCommand)
      → three_phase_meter_after rows m (r ∷ rs) ≡ three_phase_meter_after rows (three_phase_commanded rows m r).meter rs
  unfolding three_phase_record_after three_phase_calls_in three_phase_commanded
  meter_next m r rs = go (three_phase_call_of r)
    where
      go : (p : ThreePhaseParsed)
          → three_phase_record_after rows m (three_phase_with_call p (three_phase_calls_in rs))
          ≡ three_phase_record_after rows (three_phase_performed rows m p).meter (three_phase_calls_in rs)
      go (Ok c) = refl
      go (Err NoKind) = refl

  -- the loop keeps its record in parts: the arrays keep their types' lengths
  commanded_sized : (m : ThreePhaseMeter) (r : ThreePhaseCommand) → Sized m.logs → Sized (three_phase_commanded rows m r).meter.logs
  unfolding three_phase_commanded
  commanded_sized m r z = go (three_phase_call_of r)
    where
      go : (p : ThreePhaseParsed) → Sized (three_phase_performed rows m p).meter.logs
      go (Ok c) = applied_sized rows m c z
      go (Err NoKind) = z

  -- a sound meter stays sound, whatever the record
  commanded_sound : every lawful rows ≡ true → (m : ThreePhaseMeter) (r : ThreePhaseCommand) → three_phase_record_format.Holds r → Sized m.logs
      → sound_three_phase_meter rows m ≡ true → sound_three_phase_meter rows (three_phase_commanded rows m r).meter ≡ true
  unfolding three_phase_commanded
  commanded_sound table m r h z e = go (three_phase_call_of r) (parsed_range r h)
    where
      go : (p : ThreePhaseParsed) → NamedInRange p → sound_three_phase_meter rows (three_phase_performed rows m p).meter ≡ true
      go (Ok c) i = applied_sound rows table m c i z e
      go (Err NoKind) i = e

  -- a turn of it: the record at i is behind it, those from i + 1 on are left, and a sound meter is one still
  pub next_turn : every lawful rows ≡ true → (s : List ℕ) → Bytes s → (i : ℕ) → i < length s / 33
      → (m : ThreePhaseMeter) → Sized m.logs × (sound_three_phase_meter rows m ≡ true)
      → (r : ThreePhaseCommand) → r ≡ three_phase_record_format.dec s (i * 33) → (o : ThreePhaseOutcome) → o ≡ three_phase_commanded rows m r
      → (Sized o.meter.logs × (sound_three_phase_meter rows o.meter ≡ true))
      × (three_phase_meter_after rows o.meter (three_phase_records_from (i + 1) s) ≡ three_phase_meter_after rows m (three_phase_records_from i s))
  next_turn table s bytes i h m (z, e) r read o next =
      let there = three_phase_record_format.dec s (i * 33) in
      let sound = commanded_sound table m there (record_lawful.held_read s (i * 33) bytes refl) z e in
      let left = meter_next m there (three_phase_records_from (i + 1) s) in (
        (rw next (commanded_sized m r z), rw (next, read) sound),
        rw (next, read, decs_next three_phase_record_format (length s / 33) s i h) (sym left),
      )

  pub last_turn : (s : List ℕ) (i : ℕ) (m : ThreePhaseMeter) → length s / 33 ≤ i → three_phase_meter_after rows m (three_phase_records_from i s) ≡ m
  unfolding three_phase_record_after three_phase_calls_in
  last_turn s i m h = rw (decs_end three_phase_record_format (length s / 33) s i (i * 33) h)

  -- a meter that is not sound stays as it is, whatever the calls
  refused_all : (m : ThreePhaseMeter) (calls : List ThreePhaseCall) → sound_three_phase_meter rows m ≡ false → three_phase_record_after rows m calls ≡ m
  unfolding three_phase_record_after three_phase_applied
  refused_all m [] e = refl
  refused_all m (c ∷ calls) e = rw e (refused_all m calls e)

  pub not_sound_run : (m : ThreePhaseMeter) (rs : List ThreePhaseCommand) → sound_three_phase_meter rows m ≡ false → m ≡ three_phase_meter_after rows m rs
  not_sound_run m rs e = sym (refused_all m (three_phase_calls_in rs) e)

-- ---- an input whose fresh is accepted

module _ (s : List ℕ) (bytes : Bytes s) (started : (three_phase_start_of (three_phase_first_in s)).answer ≡ answer.Accepted) where
  abbrev fresh : ThreePhaseFresh
  fresh = three_phase_settings_in (three_phase_first_in s)

  abbrev named : List ThreePhaseCall
  named = three_phase_calls_in (three_phase_later_in s)

  settings : ThreePhaseSettings fresh
  settings =
      fresh_laws.accepted_settings fresh (settings_range (three_phase_first_in s) (record_lawful.held_read s 0 bytes refl)) started

  pub in_range : AllThreePhaseInRange named
  in_range =
      let n = length s / three_phase_record_length - 1 in
      let valid = all_valid_lem three_phase_record_format (λ s at. refl) n s three_phase_record_length in
      calls_range (three_phase_later_in s) ((times_lawful record_lawful n).held_read s three_phase_record_length bytes valid).1

  module _ (rows : List EventRow) (table : every lawful rows ≡ true) where
    from_fresh : three_phase_last_meter rows s ≡ three_phase_meter_after rows (three_phase_record_of (three_phase_fresh_state fresh)) (three_phase_later_in s)
    from_fresh = ap (λ (m : ThreePhaseMeter). three_phase_meter_after rows m (three_phase_later_in s)) (fresh_laws.accepted_meter fresh started)

    pub holds_account : three_phase_last_meter rows s ≡ three_phase_record_of (three_phase_holding (three_phase_account_in rows s))
    unfolding three_phase_account_in
    holds_account = from_fresh ∙ simulates rows table fresh settings named in_range

    -- its page is the one that the documents print of the account
    pub printed : three_phase_account_page (three_phase_account_in rows s) ≡ three_phase_page_of (three_phase_record_of (three_phase_holding (three_phase_account_in rows s)))
    unfolding three_phase_account_in
    printed = list_written rows table fresh named settings in_range

    last_sound : sound_three_phase_meter rows (three_phase_last_meter rows s) ≡ true
    last_sound = ap (sound_three_phase_meter rows) from_fresh ∙ reached_sound rows table fresh settings named in_range

    -- ---- so the writer answers and writes what becomes of the input

    module _ (out : List ℕ) (whole : eqb (length s % three_phase_record_length) 0 ≡ true) where
      abbrev end : Replayed
      end = end_of three_phase_record_length three_phase_size s out

      writer_answer : unless_refused (three_phase_write_answer rows (three_phase_last_meter rows s) out) (Ok tt) ≡ end
      unfolding three_phase_write_answer
      writer_answer = rw (last_sound, whole) (writer_end (leb three_phase_size (length out)))

      writer_page : three_phase_written rows (three_phase_last_meter rows s) out
          ≡ buffer_after three_phase_size end (three_phase_account_page (three_phase_account_in rows s)) out
      unfolding three_phase_written
      writer_page =
          rw (last_sound, whole, holds_account, ← printed)
          (buffer_end (leb three_phase_size (length out)) three_phase_size (three_phase_account_page (three_phase_account_in rows s)) out)

-- ---- what becomes of an input, as the code comes to it

-- the answer gives the bytes
pub with_bytes : (rows : List EventRow) (s out : List ℕ) (a : Replayed) → three_phase_replay_answer s out ≡ a
    → (a ≡ three_phase_replay_answer s out)
    × (buffer_after three_phase_size a (three_phase_account_page (three_phase_account_in rows s)) out ≡ three_phase_replayed rows s out)
unfolding three_phase_replayed
with_bytes rows s out a e = (sym e, rw e)

-- the input begins with a whole record of kind 0, whose outcome is o
pub record Begun (s out : List ℕ) (o : ThreePhaseOutcome) : Type 0 where
  pub start : o ≡ three_phase_start_of (three_phase_first_in s)
  pub answer : three_phase_replay_answer s out ≡ unless_refused o.answer (end_of three_phase_record_length three_phase_size s out)

pub begun : (s out : List ℕ) (o : ThreePhaseOutcome) → eqb (length s) 0 ≡ false → ltb (length s) three_phase_record_length ≡ false
    → eqb (three_phase_first_in s).kind 0 ≡ true → o ≡ three_phase_start_of (three_phase_first_in s) → Begun s out o
unfolding three_phase_replay_answer
begun s out o some whole fresh e = record { start = e; answer = rw (some, whole, fresh, e) }

-- fresh is accepted, and the writer was given the meter m after whole records
module _ (rows : List EventRow) (table : every lawful rows ≡ true) {s out : List ℕ} {o : ThreePhaseOutcome} (b : Begun s out o)
    (bytes : Bytes s) (accepted : o.answer ≡ answer.Accepted) (whole : eqb (length s % three_phase_record_length) 0 ≡ true) where
  pub ended : (m : ThreePhaseMeter) (a : Answer) (page : List ℕ) → m ≡ three_phase_meter_after rows o.meter (three_phase_later_in s)
      → (a ≡ three_phase_write_answer rows m out) × (page ≡ three_phase_written rows m out)
      → (unless_refused a (Ok tt) ≡ three_phase_replay_answer s out) × (page ≡ three_phase_replayed rows s out)
  ended m a page run wrote =
      let started : (three_phase_start_of (three_phase_first_in s)).answer ≡ answer.Accepted =
      sym (ap (λ (o : ThreePhaseOutcome). o.answer) b.start) ∙ accepted in
      let last : m ≡ three_phase_last_meter rows s =
      run ∙ ap (λ (o : ThreePhaseOutcome). three_phase_meter_after rows o.meter (three_phase_later_in s)) b.start in
      let end = with_bytes rows s out (end_of three_phase_record_length three_phase_size s out) (b.answer ∙ rw accepted) in (
        rw (wrote.0, last) (writer_answer s bytes started rows table out whole) ∙ end.0,
        wrote.1 ∙ rw last (writer_page s bytes started rows table out whole) ∙ end.1,
      )
