-- A whole input: the meter after its last record holds the account of the input's history and is sound, so that the writer puts the account's
-- page into the buffer.
use mathlib.Core.Path.{◌≡◌, refl, sym, ap, ◌∙◌}
use mathlib.Core.Bool.{true, false}
use mathlib.Core.List.{List, [], ◌∷◌}
use Prim.Native.Nat.{ℕ, ◌+◌, ◌-◌, ◌*◌, ◌/◌, ◌%◌, ◌<◌, ◌≤◌}
use lib.Dec.{eqb, leb, ltb}
use lib.ListN.{length}
use Rattle.base.specs.Tests.{every}
use Rattle.codec.specs.Lawful.{Bytes}
use Rattle.codec.proofs.Formats.{times_lawful}
use Rattle.events.specs.Table.{EventRow, lawful}
use Rattle.logs.specs.Layout.{Sized}
use Rattle.calls.specs.declared.Answer.{Answer}
use Rattle.calls.specs.declared.Answer.TheVariants as answer
use Rattle.calls.specs.declared.Command.{Command}
use Rattle.calls.specs.Calls.{Parsed}
use Rattle.calls.specs.declared.CommandError.TheVariants.{NoKind}
use Rattle.std.specs.Prelude.{Ok, Err}
use Rattle.calls.specs.declared.Call.{Call}
use Rattle.calls.specs.Calls.{call_of, AllInRange}
use Rattle.meter.specs.declared.Meter.{Meter}
use Rattle.meter.specs.declared.Outcome.{Outcome}
use Rattle.meter.specs.State.{record_of}
use Rattle.meter.specs.Sound.{sound_meter}
use Rattle.meter.specs.Machine.{applied, performed, commanded, record_after}
use Rattle.meter.specs.Settings.{Settings}
use Rattle.meter.specs.Fresh.{fresh_state}
use Rattle.meter.specs.Holding.{holding}
use Rattle.meter.proofs.Preserved.{applied_sized}
use Rattle.meter.proofs.Accepting.{fresh_laws}
use Rattle.meter.proofs.Laws.{laws}
use Rattle.page.specs.Layout.{size, page_of, write_answer, written}
use Rattle.page.specs.AccountPage.{account_page}
use Rattle.page.proofs.Printed.{list_written}
use Rattle.replay.specs.Input.{record_format}
use Rattle.replay.specs.Replay.{record_length, first_in, records_from, later_in, settings_in, with_call, calls_in, start_of, next_of, meter_after, last_meter}
use Rattle.replay.specs.Replay.{account_in, Replayed, unless_refused, end_of, replay_answer, buffer_after, replayed}
use Rattle.replay.proofs.Lists.{decs_next, decs_end, all_valid_lem}
use Rattle.replay.proofs.Records.{record_lawful}
use Rattle.replay.proofs.Answers.{writer_end, buffer_end}
use Rattle.replay.proofs.Ranges.{ParsedInRange, settings_range, parsed_range, calls_range}

-- ---- a loop over the records: the one at i, then those from i + 1 on, until there are no more

module _ (s : List ℕ) (i : ℕ) where
  pub records_next : i < length s / 21 → records_from i s ≡ record_format.dec s (i * 21) ∷ records_from (i + 1) s
  records_next h = decs_next record_format (length s / 21) s i h

  pub records_end : length s / 21 ≤ i → records_from i s ≡ []
  records_end h = decs_end record_format (length s / 21) s i (i * 21) h

-- ---- by an event table

module _ (rows : List EventRow) where
  -- the meter after a record is the one that its call, if it names one, gets it to
  pub meter_next : (m : Meter) (r : Command) (rs : List Command) → meter_after rows m (r ∷ rs) ≡ meter_after rows (next_of rows m r).meter rs
  unfolding record_after calls_in commanded
  meter_next m r rs = go (call_of r)
    where
      go : (p : Parsed) → record_after rows m (with_call p (calls_in rs)) ≡ record_after rows (performed rows m p).meter (calls_in rs)
      go (Ok c) = refl
      go (Err NoKind) = refl

  -- the loop keeps its record in parts: the arrays keep their types' lengths
  performed_sized : (m : Meter) (p : Parsed) → Sized m.logs → Sized (performed rows m p).meter.logs
  performed_sized m (Ok c) z = applied_sized rows m c z
  performed_sized m (Err NoKind) z = z

  commanded_sized : (m : Meter) (r : Command) → Sized m.logs → Sized (commanded rows m r).meter.logs
  unfolding commanded
  commanded_sized m r = performed_sized m (call_of r)

  -- a sound meter stays sound, whatever the record
  next_sound : every lawful rows ≡ true → (m : Meter) (r : Command) → record_format.Holds r → Sized m.logs → sound_meter rows m ≡ true
      → sound_meter rows (next_of rows m r).meter ≡ true
  unfolding record_after calls_in
  next_sound table m r h z e = ap (sound_meter rows) (sym (meter_next m r [])) ∙ go (call_of r) (parsed_range r h)
    where
      go : (p : Parsed) → ParsedInRange p → sound_meter rows (record_after rows m (with_call p [])) ≡ true
      go (Ok c) i = (laws.1 rows table).kept_sound m c z i e
      go (Err NoKind) i = e

  -- a turn of it: the record at i is behind it, and those from i + 1 on are left
  module _ (s : List ℕ) (i : ℕ) (m : Meter) (r : Command) (o : Outcome) (h : i < length s / 21) where
    pub after_record : r ≡ record_format.dec s (i * 21) → o ≡ next_of rows m r
        → meter_after rows o.meter (records_from (i + 1) s) ≡ meter_after rows m (records_from i s)
    after_record read next = rw (next, read, records_next s i h) (sym (meter_next m (record_format.dec s (i * 21)) (records_from (i + 1) s)))

    -- and a sound meter is one still
    pub next_turn : every lawful rows ≡ true → r ≡ record_format.dec s (i * 21) → o ≡ next_of rows m r → Bytes s → Sized m.logs × (sound_meter rows m ≡ true)
        → (Sized o.meter.logs × (sound_meter rows o.meter ≡ true))
        × (meter_after rows o.meter (records_from (i + 1) s) ≡ meter_after rows m (records_from i s))
    next_turn table read next bytes (z, e) =
        let sound = next_sound table m (record_format.dec s (i * 21)) (record_lawful.held_read s (i * 21) bytes refl) z e in
        ((rw next (commanded_sized m r z), rw (next, read) sound), after_record read next)

  -- a meter that is not sound stays as it is, whatever the calls
  refused_all : (m : Meter) (calls : List Call) → sound_meter rows m ≡ false → record_after rows m calls ≡ m
  unfolding record_after applied
  refused_all m [] e = refl
  refused_all m (c ∷ calls) e = rw e (refused_all m calls e)

  pub not_sound_run : (m : Meter) (rs : List Command) → sound_meter rows m ≡ false → m ≡ meter_after rows m rs
  not_sound_run m rs e = sym (refused_all m (calls_in rs) e)

  pub last_turn : (s : List ℕ) (i : ℕ) (m : Meter) → length s / 21 ≤ i → meter_after rows m (records_from i s) ≡ m
  unfolding record_after calls_in
  last_turn s i m h = rw (records_end s i h)

module _ (s : List ℕ) (bytes : Bytes s) (started : (start_of (first_in s)).answer ≡ answer.Accepted) where
  pub settings : Settings (settings_in (first_in s))
  settings =
      fresh_laws.accepted_settings (settings_in (first_in s)) (settings_range (first_in s) (record_lawful.held_read s 0 bytes refl)) started

  pub in_range : AllInRange (calls_in (later_in s))
  in_range =
      let n = length s / record_length - 1 in
      calls_range (later_in s) ((times_lawful record_lawful n).held_read s record_length bytes (all_valid_lem record_format (λ s at. refl) n s record_length)).1

  module _ (rows : List EventRow) (table : every lawful rows ≡ true) where
    from_fresh : last_meter rows s ≡ meter_after rows (record_of (fresh_state (settings_in (first_in s)))) (later_in s)
    from_fresh = ap (λ (m : Meter). meter_after rows m (later_in s)) (fresh_laws.accepted_meter (settings_in (first_in s)) started)

    pub holds_account : last_meter rows s ≡ record_of (holding (account_in rows s))
    unfolding account_in
    holds_account = from_fresh ∙ (laws.1 rows table).simulates (settings_in (first_in s)) (calls_in (later_in s)) settings in_range

    -- its page is the one that document 01 prints of the account
    pub printed : account_page (account_in rows s) ≡ page_of (record_of (holding (account_in rows s)))
    unfolding account_in
    printed = list_written rows table (settings_in (first_in s)) (calls_in (later_in s)) settings in_range

    last_sound : sound_meter rows (last_meter rows s) ≡ true
    last_sound =
        ap (sound_meter rows) from_fresh ∙ (laws.1 rows table).reached_sound (settings_in (first_in s)) (calls_in (later_in s)) settings in_range

    -- ---- so the writer answers and writes what becomes of the input

    module _ (out : List ℕ) (whole : eqb (length s % record_length) 0 ≡ true) where
      writer_answer : unless_refused (write_answer rows (last_meter rows s) out) (Ok tt) ≡ end_of record_length size s out
      unfolding write_answer
      writer_answer = rw (last_sound, whole) (writer_end (leb size (length out)))

      writer_page : written rows (last_meter rows s) out ≡ buffer_after size (end_of record_length size s out) (account_page (account_in rows s)) out
      unfolding written
      writer_page = rw (last_sound, whole, holds_account, ← printed) (buffer_end (leb size (length out)) size (account_page (account_in rows s)) out)

-- ---- what becomes of an input, as the code comes to it

-- the answer gives the bytes
pub with_bytes : (rows : List EventRow) (s out : List ℕ) (a : Replayed) → replay_answer s out ≡ a
    → (a ≡ replay_answer s out) × (buffer_after size a (account_page (account_in rows s)) out ≡ replayed rows s out)
unfolding replayed
with_bytes rows s out a e = (sym e, rw e)

-- the input begins with a whole record of kind 0, whose outcome is o
pub record Begun (s out : List ℕ) (o : Outcome) : Type 0 where
  pub start : o ≡ start_of (first_in s)
  pub answer : replay_answer s out ≡ unless_refused o.answer (end_of record_length size s out)

pub begun : (s out : List ℕ) (o : Outcome) → eqb (length s) 0 ≡ false → ltb (length s) record_length ≡ false → eqb (first_in s).kind 0 ≡ true
    → o ≡ start_of (first_in s) → Begun s out o
unfolding replay_answer
begun s out o some whole fresh e = record { start = e; answer = rw (some, whole, fresh, e) }

-- fresh is accepted, and the writer was given the meter m after whole records
module _ (rows : List EventRow) (table : every lawful rows ≡ true) {s out : List ℕ} {o : Outcome} (b : Begun s out o)
    (bytes : Bytes s) (accepted : o.answer ≡ answer.Accepted) (whole : eqb (length s % record_length) 0 ≡ true) where
  pub ended : (m : Meter) (a : Answer) (page : List ℕ) → m ≡ meter_after rows o.meter (later_in s) → (a ≡ write_answer rows m out) × (page ≡ written rows m out)
      → (unless_refused a (Ok tt) ≡ replay_answer s out) × (page ≡ replayed rows s out)
  ended m a page run wrote =
      let started : (start_of (first_in s)).answer ≡ answer.Accepted = sym (ap (λ (o : Outcome). o.answer) b.start) ∙ accepted in
      let last : m ≡ last_meter rows s = run ∙ ap (λ (o : Outcome). meter_after rows o.meter (later_in s)) b.start in
      let end = with_bytes rows s out (end_of record_length size s out) (b.answer ∙ rw accepted) in (
        rw (wrote.0, last) (writer_answer s bytes started rows table out whole) ∙ end.0,
        wrote.1 ∙ rw last (writer_page s bytes started rows table out whole) ∙ end.1,
      )
