-- A page that is read holds a sound record, and calls keep it sound, so that the writer takes it: the page after a call is that of the machine's
-- record, and after a list of calls that of the account.
use mathlib.Core.Path.{◌≡◌, refl, sym, ap, ◌∙◌}
use mathlib.Core.Bool.{true, false, cond, ◌&&◌}
use mathlib.Core.List.{List, [], ◌∷◌, ◌++◌, map, flat_map}
use mathlib.Core.Logic.{◌↔◌}
use Prim.Native.Nat.{ℕ, ◌≤◌, ◌/◌, ◌%◌}
use native.Mathlib.Omega.{arith}
use lib.Dec.{eqb, leb, ltb}
use lib.IntN.{pos}
use lib.Signed.{le_z}
use lib.ListN.{length, drop}
use borrow.Author.Tests.{le-leb, leb-true}
use Rattle.base.specs.Tests.{every, within}
use Rattle.base.proofs.Bools.{and_left, and_right}
use Rattle.codec.specs.BigEndian.{be}
use Rattle.codec.specs.Lawful.{Bytes}
use Rattle.events.specs.Table.{EventRow, built_in, lawful}
use Rattle.events.proofs.Rule.{built_in_lawful}
use Rattle.tables.specs.Bytes.{table_of}
use Rattle.tables.proofs.Loads.{bytes_lawful}
use Rattle.logs.specs.Layout.{Sized}
use Rattle.calls.specs.declared.Answer.{Answer}
use Rattle.calls.specs.declared.Answer.TheVariants.{Accepted, Refused}
use Rattle.calls.specs.declared.Letter.TheVariants.{None}
use Rattle.calls.specs.Calls.{answer_number, letter_byte}
use Rattle.control.specs.Control.{sound_control}
use Rattle.limiter.specs.Limiter.{is_duration}
use Rattle.history.proofs.RemoteDisconnect.{remote_disconnect_holds}
use Rattle.machine.specs.Settings.{limits_answer}
use Rattle.machine.specs.Sound.{sound_values, sound_state}
use Rattle.machine.proofs.Preserved.{control_sound}
use Rattle.page.proofs.Tests.{all_passed}
use Rattle.replay.specs.Numbers.{number_or, if_accepted}
use Rattle.replay.proofs.Numbers.{kept_answer, kept_bytes, kept_written, kept_page_lem, kept_same, read_same, number_of, read_zero, read_refused}
use Rattle.replay.proofs.Numbers.{zero_exactly, numbers_tell}
use Rattle.phases.specs.declared.ThreePhaseCall.{ThreePhaseCall}
use Rattle.phases.specs.declared.ThreePhaseCommand.{ThreePhaseCommand}
use Rattle.phases.specs.Calls.{ThreePhaseParsed}
use Rattle.calls.specs.declared.CommandError.TheVariants.{NoKind}
use Rattle.std.specs.Prelude.{Ok, Err}
use Rattle.phases.specs.Calls.{three_phase_call_of, ThreePhaseInRange, AllThreePhaseInRange}
use Rattle.phases.specs.ThreePhase.{ThreePhaseFresh, ThreePhaseAccount, in_order, as_any_fresh, as_any_call, three_phase_account, three_phase_letter}
use Rattle.phases.proofs.Named.{laws as call_laws}
use Rattle.phases_meter.specs.declared.ThreePhaseMeter.{ThreePhaseMeter}
use Rattle.phases_meter.specs.declared.ThreePhaseOutcome.{ThreePhaseOutcome}
use Rattle.phases_meter.specs.State.{three_phase_record_of, sound_three_phase_meter}
use Rattle.phases_meter.specs.Machine.{three_phase_applied, three_phase_performed, three_phase_commanded, three_phase_record_after}
use Rattle.phases_meter.specs.Settings.{ThreePhaseSettings, ThreePhaseSettingsInRange, three_phase_fresh_answer}
use Rattle.phases_meter.specs.Holding.{three_phase_holding}
use Rattle.phases_meter.proofs.Simulates.{account_sound}
use Rattle.phases_meter.specs.Fresh.{three_phase_fresh_state, three_phase_fresh_of, three_phase_refused_outcome}
use Rattle.phases_meter.proofs.Accepting.{fresh_laws}
use Rattle.phases_meter.proofs.Laws as meter
use Rattle.phases_page.specs.Layout.{three_phase_layout, three_phase_start, three_phase_size, three_phase_page_of, three_phase_write_answer, three_phase_written}
use Rattle.phases_page.specs.Layout.{three_phase_accepted_outcome, three_phase_has_pairs, three_phase_meter_in, three_phase_holds_sound, three_phase_read_of}
use Rattle.phases_page.specs.Laws.{ThreePhaseTyped}
use Rattle.phases_page.specs.AccountPage.{three_phase_page_length, three_phase_account_page}
use Rattle.phases_page.specs.Demand3.{ThreePhaseTrace}
use Rattle.phases_page.proofs.Traces as traces
use Rattle.phases_page.proofs.RoundTrip as roundtrip
use Rattle.phases_page.proofs.Ranges.{account_typed}
use Rattle.phases_page.proofs.Printed.{list_written}
use Rattle.phases_replay.specs.Replay.{three_phase_with_call, three_phase_calls_in, three_phase_meter_after, three_phase_record_length, three_phase_first_in}
use Rattle.phases_replay.specs.Replay.{three_phase_settings_in, three_phase_replay_answer}
use Rattle.phases_interface.specs.Interface.{three_phase_kept_number, three_phase_kept_page, three_phase_fresh_number, three_phase_fresh_page, three_phase_outcome_on}
use Rattle.phases_interface.specs.Interface.{three_phase_performed_number, three_phase_performed_page, three_phase_performed_letter, three_phase_call_number}
use Rattle.phases_interface.specs.Interface.{three_phase_call_page, three_phase_call_letter, three_phase_check_number}
use Rattle.phases_interface.specs.Laws.{three_phase_call_pages, ThreePhaseFromFresh, three_phase_switch_in, HoldsThreePhase, LawsOf, Laws}
use Rattle.phases_interface.specs.Laws.{ThreePhaseCallsCompared, ThreePhaseReplayNumbers}

-- a switch that is a position is one byte of the page
page_switch : (a : ThreePhaseAccount) → a.switch ≤ 2 → three_phase_switch_in (three_phase_account_page a) ≡ a.switch
unfolding three_phase_account_page flat_map be
page_switch a h =
    let byte : three_phase_switch_in (three_phase_account_page a) ≡ a.switch / 1 % 256 = refl in
    omega (arith, byte)

sound_switch : (rows : List EventRow) (a : ThreePhaseAccount) → sound_state rows (three_phase_holding a) ≡ true → a.switch ≤ 2
unfolding sound_state sound_control
sound_switch rows a e =
    let control = control_sound (three_phase_holding a).values (and_left (sound_values (three_phase_holding a).values) _ e) in
    leb-true a.switch 2 (and_right (leb a.mode 6) _ (and_left (leb a.mode 6 && leb a.switch 2) _ control))

module _ (rows : List EventRow) where
  -- ---- a sound record goes to the writer

  module _ (o : ThreePhaseOutcome) (page : List ℕ) where
    sound_answer : (o.answer ≡ Accepted → sound_three_phase_meter rows o.meter ≡ true)
        → three_phase_kept_number rows o page ≡ number_or o.answer (cond (leb three_phase_size (length page)) 0 8)
    unfolding three_phase_kept_number three_phase_write_answer
    sound_answer = kept_answer o.answer (sound_three_phase_meter rows o.meter) (leb three_phase_size (length page))

    sound_bytes : (o.answer ≡ Accepted → sound_three_phase_meter rows o.meter ≡ true)
        → three_phase_kept_page rows o page
        ≡ if_accepted o.answer (cond (leb three_phase_size (length page)) (three_phase_page_of o.meter ++ drop three_phase_size page) page) page
    unfolding three_phase_kept_page three_phase_written
    sound_bytes =
        kept_bytes o.answer (sound_three_phase_meter rows o.meter) (leb three_phase_size (length page))
        (three_phase_page_of o.meter ++ drop three_phase_size page) page

    module _ (whole : length page ≡ three_phase_size) (sound : sound_three_phase_meter rows o.meter ≡ true) where
      sound_written : o.answer ≡ Accepted → three_phase_kept_page rows o page ≡ three_phase_page_of o.meter
      unfolding three_phase_kept_page three_phase_written
      sound_written = kept_written three_phase_size o.answer (sound_three_phase_meter rows o.meter) (three_phase_page_of o.meter) page whole sound

      sound_page : ((n : ℕ) → o.answer ≡ Refused n → page ≡ three_phase_page_of o.meter) → three_phase_kept_page rows o page ≡ three_phase_page_of o.meter
      unfolding three_phase_kept_page three_phase_written
      sound_page = kept_page_lem three_phase_size o.answer (sound_three_phase_meter rows o.meter) (three_phase_page_of o.meter) page whole sound

    -- on any number but 0 every byte stays
    refused_bytes : (three_phase_kept_number rows o page ≡ 0 → ⊥) → three_phase_kept_page rows o page ≡ page
    unfolding three_phase_kept_number three_phase_kept_page three_phase_write_answer three_phase_written
    refused_bytes =
        kept_same o.answer (sound_three_phase_meter rows o.meter) (leb three_phase_size (length page))
        (three_phase_page_of o.meter ++ drop three_phase_size page) page

  call_same : (page : List ℕ) (r : ThreePhaseCommand) → (three_phase_call_number rows page r ≡ 0 → ⊥) → three_phase_call_page rows page r ≡ page
  unfolding three_phase_call_number three_phase_call_page
  call_same page r = go (three_phase_call_of r)
    where
      go : (p : ThreePhaseParsed) → (three_phase_performed_number rows page p ≡ 0 → ⊥) → three_phase_performed_page rows page p ≡ page
      go (Ok c) some = read_same (three_phase_read_of rows page).answer _ _ page (refused_bytes (three_phase_outcome_on rows page c) page) some
      go (Err NoKind) some = refl

  -- ---- the kind comes first

  module _ (page : List ℕ) (r : ThreePhaseCommand) where
    no_kind : within 1 15 r.kind ≡ false → three_phase_call_number rows page r ≡ 13
    unfolding three_phase_call_number
    no_kind out = rw (call_laws.no_kind r out)

    unread : (n : ℕ) → within 1 15 r.kind ≡ true → (three_phase_read_of rows page).answer ≡ Refused n → three_phase_call_number rows page r ≡ n
    unfolding three_phase_call_number
    unread n in_kinds e = go _ refl
      where
        go : (p : ThreePhaseParsed) → three_phase_call_of r ≡ p → three_phase_performed_number rows page p ≡ n
        go (Ok c) names = rw e
        go (Err NoKind) names = absurd (call_laws.some_kind r in_kinds names)

    -- ---- `check_page`

    check_call : within 1 15 r.kind ≡ true → (three_phase_check_number rows page ≡ 0 → ⊥) → three_phase_call_number rows page r ≡ three_phase_check_number rows page
    check_call in_kinds some = unread (three_phase_check_number rows page) in_kinds (read_refused (three_phase_read_of rows page).answer some)

  check_zero : (page : List ℕ) → (three_phase_check_number rows page ≡ 0) ↔ ((three_phase_read_of rows page).answer ≡ Accepted)
  unfolding three_phase_read_of
  check_zero page =
      read_zero (λ (o : ThreePhaseOutcome). o.answer) (three_phase_accepted_outcome (three_phase_meter_in page)) three_phase_refused_outcome refl (λ n. refl)
      (eqb (length page) three_phase_size) (three_phase_has_pairs page) (three_phase_holds_sound rows page)

-- the record of such a page, and its page
record Read (rows : List EventRow) (page : List ℕ) (m : ThreePhaseMeter) : Type 0 where
  reads : three_phase_read_of rows page ≡ three_phase_accepted_outcome m
  back : three_phase_page_of m ≡ page
  sound : sound_three_phase_meter rows m ≡ true
  sized : Sized m.logs

module _ (rows : List EventRow) (table : every lawful rows ≡ true) where
  -- ---- a call on a page that is read

  performed_sound : (m : ThreePhaseMeter) (p : ThreePhaseParsed) → AllThreePhaseInRange (three_phase_with_call p []) → sound_three_phase_meter rows m ≡ true
      → Sized m.logs → sound_three_phase_meter rows (three_phase_performed rows m p).meter ≡ true
  performed_sound m (Ok c) i sound sized = ((meter.laws).1 rows table).kept_sound m c sized i.0 sound
  performed_sound m (Err NoKind) i sound sized = sound

  module _ {page : List ℕ} {m : ThreePhaseMeter} (k : Read rows page m) (r : ThreePhaseCommand)
      (i : AllThreePhaseInRange (three_phase_with_call (three_phase_call_of r) [])) where
    next_sound : sound_three_phase_meter rows (three_phase_commanded rows m r).meter ≡ true
    unfolding three_phase_commanded
    next_sound = performed_sound m (three_phase_call_of r) i k.sound k.sized

    whole : length page ≡ three_phase_size
    whole = ap length (sym k.back) ∙ roundtrip.page_length_lem m

    -- the reader is through: what is left is the machine's outcome
    number_read : three_phase_call_number rows page r ≡ three_phase_kept_number rows (three_phase_commanded rows m r) page
    unfolding three_phase_call_number three_phase_commanded three_phase_kept_number
    number_read = go (three_phase_call_of r)
      where
        go : (p : ThreePhaseParsed) → three_phase_performed_number rows page p ≡ three_phase_kept_number rows (three_phase_performed rows m p) page
        go (Ok c) = ap (λ (o : ThreePhaseOutcome). number_or o.answer (three_phase_kept_number rows (three_phase_applied rows o.meter c) page)) k.reads
        go (Err NoKind) = refl

    page_read : three_phase_call_page rows page r ≡ three_phase_kept_page rows (three_phase_commanded rows m r) page
    unfolding three_phase_call_page three_phase_commanded three_phase_kept_page
    page_read = go (three_phase_call_of r)
      where
        go : (p : ThreePhaseParsed) → three_phase_performed_page rows page p ≡ three_phase_kept_page rows (three_phase_performed rows m p) page
        go (Ok c) =
            ap (λ (o : ThreePhaseOutcome). if_accepted o.answer (three_phase_kept_page rows (three_phase_applied rows o.meter c) page) page) k.reads
        go (Err NoKind) = refl

    answer_on : three_phase_call_number rows page r ≡ answer_number (three_phase_commanded rows m r).answer
    answer_on =
        number_read
        ∙ sound_answer rows (three_phase_commanded rows m r) page (λ e. next_sound)
        ∙ rw (le-leb three_phase_size (length page) (omega (arith, whole))) (number_of (three_phase_commanded rows m r).answer)

    page_on : three_phase_call_page rows page r ≡ three_phase_page_of (three_phase_commanded rows m r).meter
    page_on =
        page_read
        ∙ sound_page rows (three_phase_commanded rows m r) page whole next_sound
        (λ n e. sym k.back ∙ ap three_phase_page_of (sym (((meter.laws).1 rows table).command_refused_same m r n e)))

  -- an accepted page: the record is the one in its bytes
  accepted_in : (s : List ℕ) → (three_phase_read_of rows s).answer ≡ Accepted
      → (three_phase_read_of rows s ≡ three_phase_accepted_outcome (three_phase_meter_in s)) × (three_phase_layout.valid s three_phase_start ≡ true)
  unfolding three_phase_read_of three_phase_holds_sound
  accepted_in s e =
      let (len, (begins, whole)) = all_passed (λ (o : ThreePhaseOutcome). o.answer) (three_phase_accepted_outcome (three_phase_meter_in s))
      three_phase_refused_outcome (λ n. refl) (eqb (length s) three_phase_size) (three_phase_has_pairs s) (three_phase_holds_sound rows s) e in
      (rw (len, begins, whole), and_left (three_phase_layout.valid s three_phase_start) (sound_three_phase_meter rows (three_phase_meter_in s)) whole)

  held_sized : (m : ThreePhaseMeter) → three_phase_layout.Holds m → Sized m.logs
  unfolding three_phase_layout
  held_sized m h = h.0.1.1.1.1.1.1

  from_page : (page : List ℕ) → Bytes page → (three_phase_read_of rows page).answer ≡ Accepted → Read rows page (three_phase_read_of rows page).meter
  from_page s bytes e =
      let (reads, valid) = accepted_in s e in
      let same : (three_phase_read_of rows s).meter ≡ three_phase_meter_in s = ap (λ (o : ThreePhaseOutcome). o.meter) reads in
      record {
        reads = reads ∙ ap three_phase_accepted_outcome (sym same);
        back = roundtrip.page_read rows s bytes e;
        sound = ((roundtrip.laws).by_table rows).accepted_sound s e;
        sized = rw same (held_sized (three_phase_meter_in s) ((roundtrip.layout_lawful).held_read s three_phase_start bytes valid));
      }

  -- such a record as the reader hands it back
  pub read_record : (page : List ℕ) (read : ThreePhaseOutcome) → Bytes page → read ≡ three_phase_read_of rows page → read.answer ≡ Accepted
      → (sound_three_phase_meter rows read.meter ≡ true) × Sized read.meter.logs
  read_record page read bytes reads e =
      let k = from_page page bytes (ap (λ (o : ThreePhaseOutcome). o.answer) (sym reads) ∙ e) in
      rw reads (k.sound, k.sized)

  -- ---- calls from an accepted fresh

  -- one call more, behind others
  behind : (m : ThreePhaseMeter) (calls : List ThreePhaseCall) (c : ThreePhaseCall)
      → three_phase_record_after rows m (calls ++ (c ∷ [])) ≡ (three_phase_applied rows (three_phase_record_after rows m calls) c).meter
  unfolding three_phase_record_after
  behind m [] c = refl
  behind m (d ∷ calls) c = behind (three_phase_applied rows m d).meter calls c

  range_behind : (calls : List ThreePhaseCall) (c : ThreePhaseCall) → AllThreePhaseInRange calls → ThreePhaseInRange c
      → AllThreePhaseInRange (calls ++ (c ∷ []))
  range_behind [] c i k = (k, tt)
  range_behind (d ∷ calls) c i k = (i.0, range_behind calls c i.1 k)

  first_range : (p : ThreePhaseParsed) (cs : List ThreePhaseCall) → AllThreePhaseInRange (three_phase_with_call p cs)
      → AllThreePhaseInRange (three_phase_with_call p [])
  first_range (Ok c) cs i = (i.0, tt)
  first_range (Err NoKind) cs i = tt

  module _ (f : ThreePhaseFresh) (t : ThreePhaseSettings f) where
    -- the record after some calls
    abbrev reached : List ThreePhaseCall → ThreePhaseMeter
    reached calls = three_phase_record_after rows (three_phase_record_of (three_phase_fresh_state f)) calls

    from_record : (calls : List ThreePhaseCall) → AllThreePhaseInRange calls → Read rows (three_phase_page_of (reached calls)) (reached calls)
    from_record calls i =
        let sound = ((meter.laws).1 rows table).reached_sound f calls t i in
        let typed : ThreePhaseTyped (reached calls) = rw (((meter.laws).1 rows table).simulates f calls t i) (account_typed rows table f t calls i) in
        record { reads = roundtrip.read_page rows (reached calls) typed sound; back = refl; sound = sound; sized = typed.logs }

    -- the pages of records behind some calls
    pages_from : (rs : List ThreePhaseCommand) (calls : List ThreePhaseCall) → AllThreePhaseInRange (three_phase_calls_in rs) → AllThreePhaseInRange calls
        → three_phase_call_pages rows (three_phase_page_of (reached calls)) rs ≡ three_phase_page_of (three_phase_meter_after rows (reached calls) rs)
    unfolding three_phase_call_pages three_phase_calls_in three_phase_commanded three_phase_record_after
    pages_from [] calls i k = refl
    pages_from (r ∷ rs) calls i k =
        ap (λ (page : List ℕ). three_phase_call_pages rows page rs)
        (page_on (from_record calls k) r (first_range (three_phase_call_of r) (three_phase_calls_in rs) i))
        ∙ go (three_phase_call_of r) i (pages_from rs)
      where
        go : (p : ThreePhaseParsed) → AllThreePhaseInRange (three_phase_with_call p (three_phase_calls_in rs))
            → ((calls : List ThreePhaseCall) → AllThreePhaseInRange (three_phase_calls_in rs) → AllThreePhaseInRange calls
            → three_phase_call_pages rows (three_phase_page_of (reached calls)) rs ≡ three_phase_page_of (three_phase_meter_after rows (reached calls) rs))
            → three_phase_call_pages rows (three_phase_page_of (three_phase_performed rows (reached calls) p).meter) rs
            ≡ three_phase_page_of (three_phase_record_after rows (reached calls) (three_phase_with_call p (three_phase_calls_in rs)))
        go (Ok c) i rest =
            ap (λ (m : ThreePhaseMeter). three_phase_call_pages rows (three_phase_page_of m) rs) (sym (behind (three_phase_record_of (three_phase_fresh_state f)) calls c))
            ∙ rest (calls ++ (c ∷ [])) i.1 (range_behind calls c k i.0)
            ∙ ap (λ (m : ThreePhaseMeter). three_phase_page_of (three_phase_meter_after rows m rs)) (behind (three_phase_record_of (three_phase_fresh_state f)) calls c)
        go (Err NoKind) i rest = rest calls i k

  fresh_sound : (f : ThreePhaseFresh) → ThreePhaseSettingsInRange f → (three_phase_fresh_of f).answer ≡ Accepted
      → sound_three_phase_meter rows (three_phase_fresh_of f).meter ≡ true
  unfolding three_phase_record_after
  fresh_sound f range e =
      ap (sound_three_phase_meter rows) (fresh_laws.accepted_meter f e)
      ∙ ((meter.laws).1 rows table).reached_sound f [] (fresh_laws.accepted_settings f range e) tt

  next_named : (m : ThreePhaseMeter) (r : ThreePhaseCommand) (c : ThreePhaseCall) → three_phase_call_of r ≡ Ok c
      → three_phase_commanded rows m r ≡ three_phase_applied rows m c
  unfolding three_phase_commanded
  next_named m r c names = rw names

  -- a refused call leaves no letter
  refused_letter : (page : List ℕ) (r : ThreePhaseCommand) → Bytes page → AllThreePhaseInRange (three_phase_with_call (three_phase_call_of r) [])
      → (three_phase_call_number rows page r ≡ 0 → ⊥) → three_phase_call_letter rows page r ≡ 0
  unfolding three_phase_call_letter
  refused_letter page r bytes i refused = go (three_phase_call_of r) (three_phase_read_of rows page).answer refl refl
    where
      m : ThreePhaseMeter
      m = (three_phase_read_of rows page).meter

      answered : (c : ThreePhaseCall) → three_phase_call_of r ≡ Ok c → (three_phase_read_of rows page).answer ≡ Accepted
          → three_phase_call_number rows page r ≡ answer_number (three_phase_applied rows m c).answer
      answered c names e = answer_on (from_page page bytes e) r i ∙ ap (λ (o : ThreePhaseOutcome). answer_number o.answer) (next_named m r c names)

      none : (c : ThreePhaseCall) (a : Answer) → (three_phase_applied rows m c).answer ≡ a → (answer_number a ≡ 0 → ⊥)
          → (three_phase_applied rows m c).letter ≡ None
      none c Accepted e z = absurd (z refl)
      none c (Refused n) e z = ((meter.laws).1 rows table).refused_letter m c n e

      go : (p : ThreePhaseParsed) (a : Answer) → three_phase_call_of r ≡ p → (three_phase_read_of rows page).answer ≡ a
          → letter_byte (three_phase_performed_letter rows page p) ≡ 0
      go (Err NoKind) a names e = refl
      go (Ok c) (Refused n) names e = rw e
      go (Ok c) Accepted names e =
          rw e (ap letter_byte (none c (three_phase_applied rows m c).answer refl (λ z. refused (answered c names e ∙ z))))

  -- an accepted fresh leaves its meter's page
  fresh_written : (page : List ℕ) (f : ThreePhaseFresh) → length page ≡ three_phase_size → (three_phase_fresh_of f).answer ≡ Accepted
      → ThreePhaseSettingsInRange f → three_phase_fresh_page rows page f ≡ three_phase_page_of (three_phase_record_of (three_phase_fresh_state f))
  fresh_written page f whole e range =
      sound_written rows (three_phase_fresh_of f) page whole (fresh_sound f range e) e ∙ ap three_phase_page_of (fresh_laws.accepted_meter f e)

  -- a fresh meter that is accepted, and records of calls that are in range
  module _ (page : List ℕ) (f : ThreePhaseFresh) (rs : List ThreePhaseCommand) (whole : length page ≡ three_phase_size)
      (e : (three_phase_fresh_of f).answer ≡ Accepted) (range : ThreePhaseSettingsInRange f) where
    accepted : ThreePhaseSettings f
    accepted = fresh_laws.accepted_settings f range e

    pages_reached : AllThreePhaseInRange (three_phase_calls_in rs)
        → three_phase_call_pages rows (three_phase_fresh_page rows page f) rs
        ≡ three_phase_page_of (three_phase_record_after rows (three_phase_record_of (three_phase_fresh_state f)) (three_phase_calls_in rs))
    unfolding three_phase_record_after
    pages_reached i =
        ap (λ (page : List ℕ). three_phase_call_pages rows page rs) (fresh_written page f whole e range) ∙ pages_from f accepted rs [] i tt

    account_page_lem : AllThreePhaseInRange (three_phase_calls_in rs)
        → three_phase_call_pages rows (three_phase_fresh_page rows page f) rs ≡ three_phase_account_page (three_phase_account rows f (three_phase_calls_in rs))
    account_page_lem i =
        pages_reached i
        ∙ ap three_phase_page_of (((meter.laws).1 rows table).simulates f (three_phase_calls_in rs) accepted i)
        ∙ sym (list_written rows table f (three_phase_calls_in rs) accepted i)

    -- document 02, A7, by the switch that the page says
    disconnect_holds : AllThreePhaseInRange (three_phase_calls_in rs)
        → HoldsThreePhase (0 ∷ 2 ∷ 4 ∷ []) rows f (three_phase_calls_in rs) (three_phase_switch_in (three_phase_call_pages rows (three_phase_fresh_page rows page f) rs))
    disconnect_holds i v d q =
        let a = three_phase_account rows f (three_phase_calls_in rs) in
        let shown = page_switch a (sound_switch rows a (account_sound rows table f accepted (three_phase_calls_in rs) i)) in
        remote_disconnect_holds.any_holds rows (as_any_fresh f) (map as_any_call (three_phase_calls_in rs)) v d
        (sym (ap three_phase_switch_in (account_page_lem i) ∙ shown) ∙ q)

    account_letter : (r : ThreePhaseCommand) (c : ThreePhaseCall) → AllThreePhaseInRange (c ∷ three_phase_calls_in rs) → three_phase_call_of r ≡ Ok c
        → three_phase_call_letter rows (three_phase_call_pages rows (three_phase_fresh_page rows page f) rs) r
        ≡ letter_byte (three_phase_letter rows f (three_phase_calls_in rs) c)
    unfolding three_phase_call_letter
    account_letter r c i names =
        rw (pages_reached i.1, names, (from_record f accepted (three_phase_calls_in rs) i.1).reads)
        (ap letter_byte (((meter.laws).1 rows table).letters f (three_phase_calls_in rs) c accepted i))

-- what a fresh meter leaves names no table
module _ (rows : List EventRow) (table : every lawful rows ≡ true) (page : List ℕ) (f : ThreePhaseFresh) (range : ThreePhaseSettingsInRange f) where
  fresh_same :
      (three_phase_fresh_number rows page f ≡ three_phase_fresh_number built_in page f) × (three_phase_fresh_page rows page f ≡ three_phase_fresh_page built_in page f)
  fresh_same =
      let sound = fresh_sound rows table f range in
      let fresh_built_in = fresh_sound built_in built_in_lawful f range in (
        sound_answer rows (three_phase_fresh_of f) page sound ∙ sym (sound_answer built_in (three_phase_fresh_of f) page fresh_built_in),
        sound_bytes rows (three_phase_fresh_of f) page sound ∙ sym (sound_bytes built_in (three_phase_fresh_of f) page fresh_built_in),
      )

laws_of : (rows : List EventRow) → every lawful rows ≡ true → LawsOf rows
unfolding three_phase_calls_in
laws_of rows table =
    record {
      fresh_any_table = fresh_same rows table;
      fresh_answer = λ page f range. sound_answer rows (three_phase_fresh_of f) page (fresh_sound rows table f range);
      call_no_kind = no_kind rows;
      call_unread = unread rows;
      check_zero = check_zero rows;
      check_call = check_call rows;
      disconnect_holds = λ page f rs from.
          disconnect_holds rows table page f rs from.whole from.accepted from.settings_in_range from.calls_in_range;
      call_answer = λ page r bytes e i. answer_on rows table (from_page rows table page bytes e) r i;
      call_page = λ page r bytes e i. page_on rows table (from_page rows table page bytes e) r i;
      fresh_refused = λ page f. refused_bytes rows (three_phase_fresh_of f) page;
      call_refused = call_same rows;
      account_page_lem = λ page f rs whole e range. account_page_lem rows table page f rs whole e range;
      refused_letter = refused_letter rows table;
      account_letter = λ page f rs r c whole e range. account_letter rows table page f rs whole e range r c;
    }

pub laws : Laws
laws table bytes = laws_of (table_of table) (bytes_lawful table bytes)

-- the trace of calls from C
abbrev list_trace : (rows : List EventRow) → every lawful rows ≡ true → (page : List ℕ) (f : ThreePhaseFresh) (rs : List ThreePhaseCommand)
    → ThreePhaseFromFresh page f rs → ThreePhaseTrace
list_trace rows table page f rs from =
    record {
      rows = rows;
      settings = f;
      calls = three_phase_calls_in rs;
      lawful_rows = table;
      accepted = from.accepted;
      settings_in_range = from.settings_in_range;
      calls_in_range = from.calls_in_range;
    }

pub compared : ThreePhaseCallsCompared
compared table table' bytes bytes' page page' f g rs ss from from' =
    let t = list_trace (table_of table) (bytes_lawful table bytes) page f rs from in
    let u = list_trace (table_of table') (bytes_lawful table' bytes') page' g ss from' in
    let first = (laws table bytes).account_page_lem page f rs from.whole from.accepted from.settings_in_range from.calls_in_range in
    let second = (laws table' bytes').account_page_lem page' g ss from'.whole from'.accepted from'.settings_in_range from'.calls_in_range in
    (λ e. traces.same_account t u (sym first ∙ e ∙ second), λ e. first ∙ ap three_phase_account_page e ∙ sym second)

-- ---- the numbers of a whole list

pub replay_numbers : ThreePhaseReplayNumbers
unfolding three_phase_replay_answer three_phase_fresh_answer limits_answer every
replay_numbers =
    numbers_tell three_phase_replay_answer (λ s out.
    let first = three_phase_first_in s in
    let f = three_phase_settings_in first in
    zero_exactly (eqb (length s) 0) (ltb (length s) three_phase_record_length) (eqb first.kind 0) (leb f.mode 6)
    (every (le_z (pos 0)) (in_order f.l1 f.l2 f.l3 f.sum)) (is_duration f.over && is_duration f.under)
    (eqb (length s % three_phase_record_length) 0) (leb three_phase_page_length (length out)))
