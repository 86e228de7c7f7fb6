-- A page that is read holds a sound record, and calls keep it sound, so that the writer takes it: the page after a call is that of the machine's
-- record, and after a list of calls that of the account.
use mathlib.Core.Path.{◌≡◌, refl, sym, ap, ◌∙◌}
use mathlib.Core.Bool.{true, false, cond}
use mathlib.Core.List.{List, [], ◌∷◌, ◌++◌}
use mathlib.Core.Logic.{◌↔◌}
use Prim.Native.Nat.{ℕ}
use native.Mathlib.Omega.{arith}
use lib.Dec.{eqb, leb}
use lib.ListN.{length, drop}
use borrow.Author.Tests.{le-leb}
use Rattle.base.proofs.Bools.{and_left}
use Rattle.base.specs.Tests.{every, within}
use Rattle.codec.specs.Lawful.{Bytes}
use Rattle.events.specs.Table.{EventRow, built_in, lawful}
use Rattle.events.proofs.Rule.{built_in_lawful}
use Rattle.tables.specs.Bytes.{table_of}
use Rattle.tables.proofs.Loads.{bytes_lawful}
use Rattle.logs.specs.Layout.{Sized}
use Rattle.calls.specs.declared.Call.{Call}
use Rattle.calls.specs.declared.Answer.{Answer}
use Rattle.calls.specs.declared.Answer.TheVariants.{Accepted, Refused}
use Rattle.calls.specs.declared.Command.{Command}
use Rattle.calls.specs.declared.Letter.TheVariants.{None}
use Rattle.calls.specs.Calls.{Parsed}
use Rattle.calls.specs.declared.CommandError.TheVariants.{NoKind}
use Rattle.std.specs.Prelude.{Ok, Err}
use Rattle.calls.specs.Calls.{answer_number, letter_byte, call_of, InRange, AllInRange}
use Rattle.calls.proofs.Named.{laws as call_laws}
use Rattle.history.specs.OnePhase.{Fresh, account, letter}
use Rattle.history.specs.RemoteDisconnect.{HoldsOnePhase}
use Rattle.history.proofs.RemoteDisconnect.{remote_disconnect_holds}
use Rattle.meter.specs.declared.Meter.{Meter}
use Rattle.meter.specs.declared.Outcome.{Outcome}
use Rattle.meter.specs.State.{record_of}
use Rattle.meter.specs.Sound.{sound_meter}
use Rattle.meter.specs.Machine.{applied, performed, commanded, record_after}
use Rattle.meter.specs.Settings.{Settings, SettingsInRange}
use Rattle.meter.specs.Fresh.{fresh_state, fresh_of, refused_outcome}
use Rattle.meter.proofs.Simulates.{account_sound}
use Rattle.meter.proofs.Accepting.{fresh_laws}
use Rattle.meter.proofs.Laws as meter
use Rattle.page.specs.Layout.{layout, start, size, page_of, write_answer, written, accepted_outcome, has_pairs, meter_in, holds_sound, read_of}
use Rattle.page.specs.Laws.{Typed}
use Rattle.page.specs.AccountPage.{account_page}
use Rattle.page.proofs.RoundTrip as roundtrip
use Rattle.page.proofs.Tests.{all_passed}
use Rattle.page.proofs.Ranges.{account_typed}
use Rattle.page.proofs.Printed.{list_written}
use Rattle.replay.specs.Replay.{with_call, calls_in, next_of, meter_after}
use Rattle.replay.specs.Numbers.{number_or, if_accepted}
use Rattle.replay.proofs.Numbers.{kept_answer, kept_bytes, kept_written, kept_page_lem, kept_same, read_same, number_of, read_zero, read_refused}
use Rattle.replay.specs.Laws.{switch_in}
use Rattle.replay.proofs.Inputs.{page_switch, sound_switch}
use Rattle.pillar.specs.Interface.{kept_number, kept_page, outcome_on, performed_number, performed_page, fresh_number, fresh_page, call_number, call_page}
use Rattle.pillar.specs.Interface.{performed_letter, call_letter, check_number}
use Rattle.page.specs.Demand3.{Trace}
use Rattle.page.proofs.Traces as traces
use Rattle.pillar.specs.Laws.{call_pages, LawsOf, Laws, FromFresh, CallsCompared}

module _ (rows : List EventRow) where
  -- ---- a sound record goes to the writer

  module _ (o : Outcome) (page : List ℕ) where
    sound_answer : (o.answer ≡ Accepted → sound_meter rows o.meter ≡ true)
        → kept_number rows o page ≡ number_or o.answer (cond (leb size (length page)) 0 8)
    unfolding kept_number write_answer
    sound_answer = kept_answer o.answer (sound_meter rows o.meter) (leb size (length page))

    sound_bytes : (o.answer ≡ Accepted → sound_meter rows o.meter ≡ true)
        → kept_page rows o page ≡ if_accepted o.answer (cond (leb size (length page)) (page_of o.meter ++ drop size page) page) page
    unfolding kept_page written
    sound_bytes = kept_bytes o.answer (sound_meter rows o.meter) (leb size (length page)) (page_of o.meter ++ drop size page) page

    module _ (whole : length page ≡ size) (sound : sound_meter rows o.meter ≡ true) where
      sound_written : o.answer ≡ Accepted → kept_page rows o page ≡ page_of o.meter
      unfolding kept_page written
      sound_written = kept_written size o.answer (sound_meter rows o.meter) (page_of o.meter) page whole sound

      sound_page : ((n : ℕ) → o.answer ≡ Refused n → page ≡ page_of o.meter) → kept_page rows o page ≡ page_of o.meter
      unfolding kept_page written
      sound_page = kept_page_lem size o.answer (sound_meter rows o.meter) (page_of o.meter) page whole sound

    -- on any number but 0 every byte stays
    refused_bytes : (kept_number rows o page ≡ 0 → ⊥) → kept_page rows o page ≡ page
    unfolding kept_number kept_page write_answer written
    refused_bytes = kept_same o.answer (sound_meter rows o.meter) (leb size (length page)) (page_of o.meter ++ drop size page) page

  call_same : (page : List ℕ) (r : Command) → (call_number rows page r ≡ 0 → ⊥) → call_page rows page r ≡ page
  unfolding call_number call_page
  call_same page r = go (call_of r)
    where
      go : (p : Parsed) → (performed_number rows page p ≡ 0 → ⊥) → performed_page rows page p ≡ page
      go (Ok c) some = read_same (read_of rows page).answer _ _ page (refused_bytes (outcome_on rows page c) page) some
      go (Err NoKind) some = refl

  -- ---- the kind comes first

  module _ (page : List ℕ) (r : Command) where
    no_kind : within 1 17 r.kind ≡ false → call_number rows page r ≡ 13
    unfolding call_number
    no_kind out = rw (call_laws.no_kind r out)

    unread : (n : ℕ) → within 1 17 r.kind ≡ true → (read_of rows page).answer ≡ Refused n → call_number rows page r ≡ n
    unfolding call_number
    unread n in_kinds e = go _ refl
      where
        go : (p : Parsed) → call_of r ≡ p → performed_number rows page p ≡ n
        go (Ok c) names = rw e
        go (Err NoKind) names = absurd (call_laws.some_kind r in_kinds names)

    -- ---- `pillar_check`

    check_call : within 1 17 r.kind ≡ true → (check_number rows page ≡ 0 → ⊥) → call_number rows page r ≡ check_number rows page
    check_call in_kinds some = unread (check_number rows page) in_kinds (read_refused (read_of rows page).answer some)

  check_zero : (page : List ℕ) → (check_number rows page ≡ 0) ↔ ((read_of rows page).answer ≡ Accepted)
  unfolding read_of
  check_zero page =
      read_zero (λ (o : Outcome). o.answer) (accepted_outcome (meter_in page)) refused_outcome refl (λ n. refl) (eqb (length page) size) (has_pairs page)
      (holds_sound rows page)

-- the record of such a page, and its page
pub record Read (rows : List EventRow) (page : List ℕ) (m : Meter) : Type 0 where
  pub reads : read_of rows page ≡ accepted_outcome m
  pub back : page_of m ≡ page
  pub sound : sound_meter rows m ≡ true
  pub sized : Sized m.logs

module _ (rows : List EventRow) (table : every lawful rows ≡ true) where
  -- ---- a call on a page that is read

  performed_sound : (m : Meter) (p : Parsed) → AllInRange (with_call p []) → sound_meter rows m ≡ true → Sized m.logs
      → sound_meter rows (performed rows m p).meter ≡ true
  performed_sound m (Ok c) i sound sized = ((meter.laws).1 rows table).kept_sound m c sized i.0 sound
  performed_sound m (Err NoKind) i sound sized = sound

  module _ {page : List ℕ} {m : Meter} (k : Read rows page m) (r : Command) (i : AllInRange (with_call (call_of r) [])) where
    next_sound : sound_meter rows (next_of rows m r).meter ≡ true
    unfolding commanded
    next_sound = performed_sound m (call_of r) i k.sound k.sized

    whole : length page ≡ size
    whole = ap length (sym k.back) ∙ roundtrip.page_length_lem m

    -- the reader is through: what is left is the machine's outcome
    number_read : call_number rows page r ≡ kept_number rows (next_of rows m r) page
    unfolding call_number commanded kept_number
    number_read = go (call_of r)
      where
        go : (p : Parsed) → performed_number rows page p ≡ kept_number rows (performed rows m p) page
        go (Ok c) = ap (λ (o : Outcome). number_or o.answer (kept_number rows (applied rows o.meter c) page)) k.reads
        go (Err NoKind) = refl

    page_read : call_page rows page r ≡ kept_page rows (next_of rows m r) page
    unfolding call_page commanded kept_page
    page_read = go (call_of r)
      where
        go : (p : Parsed) → performed_page rows page p ≡ kept_page rows (performed rows m p) page
        go (Ok c) = ap (λ (o : Outcome). if_accepted o.answer (kept_page rows (applied rows o.meter c) page) page) k.reads
        go (Err NoKind) = refl

    answer_on : call_number rows page r ≡ answer_number (next_of rows m r).answer
    answer_on =
        number_read
        ∙ sound_answer rows (next_of rows m r) page (λ e. next_sound)
        ∙ rw (le-leb size (length page) (omega (arith, whole))) (number_of (next_of rows m r).answer)

    pub page_on : call_page rows page r ≡ page_of (next_of rows m r).meter
    page_on =
        page_read
        ∙ sound_page rows (next_of rows m r) page whole next_sound
        (λ n e. sym k.back ∙ ap page_of (sym (((meter.laws).1 rows table).command_refused_same m r n e)))

  -- an accepted page: the record is the one in its bytes
  accepted_in : (s : List ℕ) → (read_of rows s).answer ≡ Accepted → (read_of rows s ≡ accepted_outcome (meter_in s)) × (layout.valid s start ≡ true)
  unfolding read_of holds_sound
  accepted_in s e =
      let (len, (begins, whole)) = all_passed (λ (o : Outcome). o.answer) (accepted_outcome (meter_in s)) refused_outcome (λ n. refl) (eqb (length s) size)
      (has_pairs s) (holds_sound rows s) e in
      (rw (len, begins, whole), and_left (layout.valid s start) (sound_meter rows (meter_in s)) whole)

  held_sized : (m : Meter) → layout.Holds m → Sized m.logs
  unfolding layout
  held_sized m h = h.0.1.1.1.1.1.0.1

  pub from_page : (page : List ℕ) → Bytes page → (read_of rows page).answer ≡ Accepted → Read rows page (read_of rows page).meter
  from_page s bytes e =
      let (reads, valid) = accepted_in s e in
      let same : (read_of rows s).meter ≡ meter_in s = ap (λ (o : Outcome). o.meter) reads in
      record {
        reads = reads ∙ ap accepted_outcome (sym same);
        back = roundtrip.page_read rows s bytes e;
        sound = ((roundtrip.laws).by_table rows).accepted_sound s e;
        sized = rw same (held_sized (meter_in s) ((roundtrip.layout_lawful).held_read s start bytes valid));
      }

  -- such a record as the reader hands it back
  pub read_record : (page : List ℕ) (read : Outcome) → Bytes page → read ≡ read_of rows page → read.answer ≡ Accepted
      → (sound_meter rows read.meter ≡ true) × Sized read.meter.logs
  read_record page read bytes reads e =
      let k = from_page page bytes (ap (λ (o : Outcome). o.answer) (sym reads) ∙ e) in
      rw reads (k.sound, k.sized)

  -- ---- calls from an accepted fresh

  -- one call more, behind others
  behind : (m : Meter) (calls : List Call) (c : Call) → record_after rows m (calls ++ (c ∷ [])) ≡ (applied rows (record_after rows m calls) c).meter
  unfolding record_after
  behind m [] c = refl
  behind m (d ∷ calls) c = behind (applied rows m d).meter calls c

  range_behind : (calls : List Call) (c : Call) → AllInRange calls → InRange c → AllInRange (calls ++ (c ∷ []))
  range_behind [] c i k = (k, tt)
  range_behind (d ∷ calls) c i k = (i.0, range_behind calls c i.1 k)

  first_range : (p : Parsed) (cs : List Call) → AllInRange (with_call p cs) → AllInRange (with_call p [])
  first_range (Ok c) cs i = (i.0, tt)
  first_range (Err NoKind) cs i = tt

  module _ (f : Fresh) (t : Settings f) where
    -- the record after some calls
    abbrev reached : List Call → Meter
    reached calls = record_after rows (record_of (fresh_state f)) calls

    pub from_record : (calls : List Call) → AllInRange calls → Read rows (page_of (reached calls)) (reached calls)
    from_record calls i =
        let sound = ((meter.laws).1 rows table).reached_sound f calls t i in
        let typed : Typed (reached calls) = rw (((meter.laws).1 rows table).simulates f calls t i) (account_typed rows table f t calls i) in
        record { reads = roundtrip.read_page rows (reached calls) typed sound; back = refl; sound = sound; sized = typed.logs }

    -- the pages of records behind some calls
    pages_from : (rs : List Command) (calls : List Call) → AllInRange (calls_in rs) → AllInRange calls
        → call_pages rows (page_of (reached calls)) rs ≡ page_of (meter_after rows (reached calls) rs)
    unfolding call_pages calls_in commanded record_after
    pages_from [] calls i k = refl
    pages_from (r ∷ rs) calls i k =
        ap (λ (page : List ℕ). call_pages rows page rs) (page_on (from_record calls k) r (first_range (call_of r) (calls_in rs) i))
        ∙ go (call_of r) i (pages_from rs)
      where
        go : (p : Parsed) → AllInRange (with_call p (calls_in rs))
            → ((calls : List Call) → AllInRange (calls_in rs) → AllInRange calls
            → call_pages rows (page_of (reached calls)) rs ≡ page_of (meter_after rows (reached calls) rs))
            → call_pages rows (page_of (performed rows (reached calls) p).meter) rs ≡ page_of (record_after rows (reached calls) (with_call p (calls_in rs)))
        go (Ok c) i rest =
            ap (λ (m : Meter). call_pages rows (page_of m) rs) (sym (behind (record_of (fresh_state f)) calls c))
            ∙ rest (calls ++ (c ∷ [])) i.1 (range_behind calls c k i.0)
            ∙ ap (λ (m : Meter). page_of (meter_after rows m rs)) (behind (record_of (fresh_state f)) calls c)
        go (Err NoKind) i rest = rest calls i k

  pub fresh_sound : (f : Fresh) → SettingsInRange f → (fresh_of f).answer ≡ Accepted → sound_meter rows (fresh_of f).meter ≡ true
  unfolding record_after
  fresh_sound f range e =
      ap (sound_meter rows) (fresh_laws.accepted_meter f e)
      ∙ ((meter.laws).1 rows table).reached_sound f [] (fresh_laws.accepted_settings f range e) tt

  next_named : (m : Meter) (r : Command) (c : Call) → call_of r ≡ Ok c → next_of rows m r ≡ applied rows m c
  unfolding commanded
  next_named m r c names = rw names

  -- a refused call leaves no letter
  refused_letter : (page : List ℕ) (r : Command) → Bytes page → AllInRange (with_call (call_of r) []) → (call_number rows page r ≡ 0 → ⊥)
      → call_letter rows page r ≡ 0
  unfolding call_letter
  refused_letter page r bytes i refused = go (call_of r) (read_of rows page).answer refl refl
    where
      m : Meter
      m = (read_of rows page).meter

      answered : (c : Call) → call_of r ≡ Ok c → (read_of rows page).answer ≡ Accepted → call_number rows page r ≡ answer_number (applied rows m c).answer
      answered c names e = answer_on (from_page page bytes e) r i ∙ ap (λ (o : Outcome). answer_number o.answer) (next_named m r c names)

      none : (c : Call) (a : Answer) → (applied rows m c).answer ≡ a → (answer_number a ≡ 0 → ⊥) → (applied rows m c).letter ≡ None
      none c Accepted e z = absurd (z refl)
      none c (Refused n) e z = ((meter.laws).1 rows table).refused_letter m c n e

      go : (p : Parsed) (a : Answer) → call_of r ≡ p → (read_of rows page).answer ≡ a → letter_byte (performed_letter rows page p) ≡ 0
      go (Err NoKind) a names e = refl
      go (Ok c) (Refused n) names e = rw e
      go (Ok c) Accepted names e =
          rw e (ap letter_byte (none c (applied rows m c).answer refl (λ z. refused (answered c names e ∙ z))))

  -- an accepted fresh leaves its meter's page
  pub fresh_written : (page : List ℕ) (f : Fresh) → length page ≡ size → (fresh_of f).answer ≡ Accepted → SettingsInRange f
      → fresh_page rows page f ≡ page_of (record_of (fresh_state f))
  fresh_written page f whole e range =
      sound_written rows (fresh_of f) page whole (fresh_sound f range e) e ∙ ap page_of (fresh_laws.accepted_meter f e)

  -- a fresh meter that is accepted, and records of calls that are in range
  module _ (page : List ℕ) (f : Fresh) (rs : List Command) (whole : length page ≡ size) (e : (fresh_of f).answer ≡ Accepted) (range : SettingsInRange f) where
    accepted : Settings f
    accepted = fresh_laws.accepted_settings f range e

    pages_reached : AllInRange (calls_in rs) → call_pages rows (fresh_page rows page f) rs ≡ page_of (record_after rows (record_of (fresh_state f)) (calls_in rs))
    unfolding record_after
    pages_reached i =
        ap (λ (page : List ℕ). call_pages rows page rs) (fresh_written page f whole e range) ∙ pages_from f accepted rs [] i tt

    account_page_lem : AllInRange (calls_in rs) → call_pages rows (fresh_page rows page f) rs ≡ account_page (account rows f (calls_in rs))
    account_page_lem i =
        pages_reached i
        ∙ ap page_of (((meter.laws).1 rows table).simulates f (calls_in rs) accepted i)
        ∙ sym (list_written rows table f (calls_in rs) accepted i)

    -- document 02, A7, by the switch that the page says
    disconnect_holds : AllInRange (calls_in rs)
        → HoldsOnePhase (0 ∷ 2 ∷ 4 ∷ []) rows f (calls_in rs) (switch_in (call_pages rows (fresh_page rows page f) rs))
    disconnect_holds i v d q =
        let a = account rows f (calls_in rs) in
        let shown = page_switch a (sound_switch rows a (account_sound rows table f accepted (calls_in rs) i)) in
        remote_disconnect_holds.one_phase_holds rows f (calls_in rs) v d (sym (ap switch_in (account_page_lem i) ∙ shown) ∙ q)

    account_letter : (r : Command) (c : Call) → AllInRange (c ∷ calls_in rs) → call_of r ≡ Ok c
        → call_letter rows (call_pages rows (fresh_page rows page f) rs) r ≡ letter_byte (letter rows f (calls_in rs) c)
    unfolding call_letter
    account_letter r c i names =
        rw (pages_reached i.1, names, (from_record f accepted (calls_in rs) i.1).reads)
        (ap letter_byte (((meter.laws).1 rows table).letters f (calls_in rs) c accepted i))

-- what a fresh meter leaves names no table
module _ (rows : List EventRow) (table : every lawful rows ≡ true) (page : List ℕ) (f : Fresh) (range : SettingsInRange f) where
  fresh_same : (fresh_number rows page f ≡ fresh_number built_in page f) × (fresh_page rows page f ≡ fresh_page built_in page f)
  fresh_same =
      let sound = fresh_sound rows table f range in
      let fresh_built_in = fresh_sound built_in built_in_lawful f range in (
        sound_answer rows (fresh_of f) page sound ∙ sym (sound_answer built_in (fresh_of f) page fresh_built_in),
        sound_bytes rows (fresh_of f) page sound ∙ sym (sound_bytes built_in (fresh_of f) page fresh_built_in),
      )

laws_of : (rows : List EventRow) → every lawful rows ≡ true → LawsOf rows
unfolding calls_in
laws_of rows table =
    record {
      fresh_any_table = fresh_same rows table;
      fresh_answer = λ page f range. sound_answer rows (fresh_of f) page (fresh_sound rows table f range);
      call_no_kind = no_kind rows;
      call_unread = unread rows;
      check_zero = check_zero rows;
      check_call = check_call rows;
      disconnect_holds = λ page f rs from.
          disconnect_holds rows table page f rs from.whole from.accepted from.settings_in_range from.calls_in_range;
      call_answer = λ page r bytes e i. answer_on rows table (from_page rows table page bytes e) r i;
      call_page_lem = λ page r bytes e i. page_on rows table (from_page rows table page bytes e) r i;
      fresh_refused = λ page f. refused_bytes rows (fresh_of f) page;
      call_refused = call_same rows;
      account_page_lem = λ page f rs whole e range. account_page_lem rows table page f rs whole e range;
      refused_letter = refused_letter rows table;
      account_letter = λ page f rs r c whole e range. account_letter rows table page f rs whole e range r c;
    }

pub laws : Laws
laws table bytes = laws_of (table_of table) (bytes_lawful table bytes)

-- the trace of calls from C
abbrev list_trace : (rows : List EventRow) → every lawful rows ≡ true → (page : List ℕ) (f : Fresh) (rs : List Command) → FromFresh page f rs → Trace
list_trace rows table page f rs from =
    record {
      rows = rows;
      settings = f;
      calls = calls_in rs;
      lawful_rows = table;
      accepted = from.accepted;
      settings_in_range = from.settings_in_range;
      calls_in_range = from.calls_in_range;
    }

pub compared : CallsCompared
compared table table' bytes bytes' page page' f g rs ss from from' =
    let t = list_trace (table_of table) (bytes_lawful table bytes) page f rs from in
    let u = list_trace (table_of table') (bytes_lawful table' bytes') page' g ss from' in
    let first = (laws table bytes).account_page_lem page f rs from.whole from.accepted from.settings_in_range from.calls_in_range in
    let second = (laws table' bytes').account_page_lem page' g ss from'.whole from'.accepted from'.settings_in_range from'.calls_in_range in
    (λ e. traces.same_account t u (sym first ∙ e ∙ second), λ e. first ∙ ap account_page e ∙ sym second)
