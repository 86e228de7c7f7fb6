-- A request on a page is served as on its record, which stays sound, so that the writer takes it; among calls it leaves the page of the account.
use mathlib.Core.Path.{◌≡◌, refl, sym, ap, ◌∙◌}
use mathlib.Core.Bool.{Bool, true, false, cond, false≢true}
use mathlib.Core.List.{List, [], ◌∷◌, ◌++◌, append-nil}
use Prim.Native.Nat.{ℕ}
use native.Mathlib.Omega.{arith}
use lib.Dec.{ltb, leb}
use lib.ListN.{length, drop_of_length-le}
use borrow.Author.Tests.{le-leb}
use Rattle.std.specs.Prelude.{Ok, Err}
use Rattle.base.specs.Tests.{every}
use Rattle.codec.specs.Lawful.{Bytes}
use Rattle.events.specs.Table.{EventRow, lawful}
use Rattle.tables.specs.Bytes.{table_of}
use Rattle.tables.proofs.Loads.{bytes_lawful}
use Rattle.logs.specs.Layout.{Sized}
use Rattle.calls.specs.declared.Call.{Call}
use Rattle.calls.specs.declared.Answer.{Answer}
use Rattle.calls.specs.declared.Answer.TheVariants.{Accepted, Refused}
use Rattle.calls.specs.declared.Command.{Command}
use Rattle.calls.specs.Calls.{Parsed as CallParsed}
use Rattle.calls.specs.declared.CommandError.TheVariants.{NoKind}
use Rattle.calls.specs.Calls.{answer_number, letter_byte, call_of, InRange, AllInRange}
use Rattle.history.specs.OnePhase.{Fresh, account}
use Rattle.requests.specs.Requests.{Parsed, request_in}
use Rattle.requests.proofs.Laws.{laws as reading_laws}
use Rattle.meter.specs.declared.Meter.{Meter}
use Rattle.meter.specs.Sound.{sound_meter}
use Rattle.meter.specs.State.{record_of}
use Rattle.meter.specs.Machine.{commanded, record_after}
use Rattle.meter.specs.Settings.{Settings, SettingsInRange}
use Rattle.meter.specs.Fresh.{fresh_state, fresh_of}
use Rattle.meter.proofs.Accepting.{fresh_laws}
use Rattle.meter.proofs.Laws as meter
use Rattle.page.specs.Layout.{size, page_of, write_answer, written, read_of}
use Rattle.page.specs.AccountPage.{account_page}
use Rattle.page.proofs.RoundTrip as roundtrip
use Rattle.page.proofs.Printed.{list_written}
use Rattle.server.specs.Service.{Service, refused_with, parsed_on, service_sound, service}
use Rattle.server.specs.Laws.{is_whole}
use Rattle.server.proofs.Laws.{unchanged}
use Rattle.server.proofs.Kept.{kept_sound}
use Rattle.server.specs.History.{request, AllInputsInRange, input_calls, calls_behind, InputTrace, trace_calls, input_account, last_of}
use Rattle.server.proofs.History.{range_append, record_append, reached, named, followed, at_most_one, requests_counted}
use Rattle.replay.specs.Numbers.{number_or}
use Rattle.pillar.specs.Interface.{fresh_page, call_page}
use Rattle.pillar.specs.Request.{read_first, service_on, request_number, request_page, request_buffer, request_length, request_letter}
use Rattle.pillar.specs.RequestLaws.{Sent, command, bytes, sent_pages, parsed_input, inputs_in, letter_of_named, RequestLawsOf, RequestLaws}
use Rattle.pillar.proofs.Laws.{Read, page_on, from_page, from_record, fresh_written}

module _ (rows : List EventRow) (m : Meter) where
  sound_service : (s l : List ℕ) → sound_meter rows m ≡ true → service_sound rows m s l ≡ service rows m s l
  unfolding service_sound service
  sound_service s l q = rw q

  -- where no call was carried out, the record is the same
  idle : (s l : List ℕ) → (service_sound rows m s l).carried ≡ false → (service_sound rows m s l).meter ≡ m
  unfolding service_sound
  idle s l = go (ltb (length l) 32) (request_in s)
    where
      go : (b : Bool) (p : Parsed) → (cond b (refused_with m 21) (parsed_on rows m p)).carried ≡ false
          → (cond b (refused_with m 21) (parsed_on rows m p)).meter ≡ m
      go true p e = refl
      go false (Err x) e = refl
      go false (Ok r) e = (unchanged rows m r e).0

  module _ (table : every lawful rows ≡ true) (sized : Sized m.logs) (q : sound_meter rows m ≡ true) where
    pub served_sound : (s l : List ℕ) → Bytes s → sound_meter rows (service_sound rows m s l).meter ≡ true
    unfolding service_sound
    served_sound s l b = go (ltb (length l) 32) (request_in s) refl
      where
        go : (c : Bool) (p : Parsed) → request_in s ≡ p → sound_meter rows (cond c (refused_with m 21) (parsed_on rows m p)).meter ≡ true
        go true p e = q
        go false (Err x) e = q
        go false (Ok r) e = kept_sound rows table m r sized (reading_laws.read_in_range s r b e) q

-- the writer takes a sound record into a page's bytes
module _ (rows : List EventRow) (m : Meter) (page : List ℕ) (q : sound_meter rows m ≡ true) (whole : length page ≡ size) where
  full : leb size (length page) ≡ true
  full = le-leb size (length page) (omega arith)

  taken : answer_number (write_answer rows m page) ≡ 0
  unfolding write_answer
  taken = rw (q, full)

  stored : written rows m page ≡ page_of m
  unfolding written
  stored = rw (q, full, drop_of_length-le page {i = size} (omega arith)) (append-nil (page_of m))

-- a request on a page that is read
module _ (rows : List EventRow) (table : every lawful rows ≡ true) {page : List ℕ} {m : Meter} (k : Read rows page m) (s l : List ℕ) (b : Bytes s) where
  abbrev v : Service
  v = service_sound rows m s l

  whole : length page ≡ size
  whole = ap length (sym k.back) ∙ roundtrip.page_length_lem m

  v_sound : sound_meter rows v.meter ≡ true
  v_sound = served_sound rows m table k.sized k.sound s l b

  on_read : service_on rows page s l ≡ v
  unfolding service_on service_sound
  on_read = go (ltb (length l) 32) refl
    where
      go : (c : Bool) → ltb (length l) 32 ≡ c → service_on rows page s l ≡ v
      go true h = rw (k.reads, h)
      go false h = rw (k.reads, h)

  request_number_read : request_number rows page s l ≡ answer_number v.answer
  unfolding request_number
  request_number_read = rw on_read (go v.answer v.carried)
    where
      go : (a : Answer) (c : Bool) → number_or a (cond c (answer_number (write_answer rows v.meter page)) 0) ≡ answer_number a
      go Accepted true = taken rows v.meter page v_sound whole
      go Accepted false = refl
      go (Refused n) c = refl

  request_page_read : request_page rows page s l ≡ page_of v.meter
  unfolding request_page
  request_page_read = rw on_read (go v.carried refl)
    where
      go : (c : Bool) → v.carried ≡ c → cond c (written rows v.meter page) page ≡ page_of v.meter
      go true h = stored rows v.meter page v_sound whole
      go false h = sym k.back ∙ ap page_of (sym (idle rows m s l h))

  page_served : request_page rows page s l ≡ page_of (service rows m s l).meter
  page_served = request_page_read ∙ ap (λ (x : Service). page_of x.meter) (sound_service rows m s l k.sound)

  on_served : service_on rows page s l ≡ service rows m s l
  on_served = on_read ∙ sound_service rows m s l k.sound

-- a request on any page
module _ (rows : List EventRow) (table : every lawful rows ≡ true) (page s l : List ℕ) (bytes : Bytes page) (b : Bytes s) where
  number : request_number rows page s l ≡ cond (ltb (length l) 32) 21 (number_or (read_of rows page).answer (cond (is_whole (request_in s)) 0 20))
  unfolding request_number service_on service_sound
  number = go (ltb (length l) 32) (read_of rows page).answer refl refl
    where
      m : Meter
      m = (read_of rows page).meter

      whole_number : (c : Bool) (p : Parsed) → c ≡ false → answer_number (cond c (refused_with m 21) (parsed_on rows m p)).answer ≡ cond (is_whole p) 0 20
      whole_number false (Ok r) e = refl
      whole_number false (Err x) e = refl
      whole_number true p e = absurd (false≢true (sym e))

      go : (c : Bool) (a : Answer) → ltb (length l) 32 ≡ c → (read_of rows page).answer ≡ a
          → request_number rows page s l ≡ cond c 21 (number_or a (cond (is_whole (request_in s)) 0 20))
      go true a h e = rw h
      go false (Refused n) h e = rw (h, e)
      go false Accepted h e = request_number_read rows table (from_page rows table page bytes e) s l b ∙ whole_number (ltb (length l) 32) (request_in s) h

  refused_all : (n : ℕ) → (service_on rows page s l).answer ≡ Refused n → service_on rows page s l ≡ refused_with (read_of rows page).meter n
  unfolding service_on service_sound
  refused_all n = go (ltb (length l) 32) (read_of rows page).answer (request_in s)
    where
      m : Meter
      m = (read_of rows page).meter

      w : Bool → Answer → Parsed → Service
      w c a p = cond c (refused_with m 21) (read_first a m (cond c (refused_with m 21) (parsed_on rows m p)))

      with_number : (k : ℕ) → (refused_with m k).answer ≡ Refused n → refused_with m k ≡ refused_with m n
      with_number k e = let z : k ≡ n = cc in rw z

      go : (c : Bool) (a : Answer) (p : Parsed) → (w c a p).answer ≡ Refused n → w c a p ≡ refused_with m n
      go true a p e = with_number 21 e
      go false (Refused k) p e = with_number k e
      go false Accepted (Err x) e = with_number 20 e
      go false Accepted (Ok r) e = absurd (let z : ◌≡◌ {A = ℕ} 0 1 = cc in omega arith)

  unread : (n : ℕ) → (read_of rows page).answer ≡ Refused n → (service_on rows page s l).answer ≡ Accepted → ⊥
  unfolding service_on
  unread n h = go (ltb (length l) 32) (read_of rows page).answer h
    where
      m : Meter
      m = (read_of rows page).meter

      go : (c : Bool) (a : Answer) → a ≡ Refused n → (cond c (refused_with m 21) (read_first a m (service_sound rows m s l))).answer ≡ Accepted → ⊥
      go true a h e = let z : ◌≡◌ {A = ℕ} 0 1 = cc in omega arith
      go false Accepted h e = let z : ◌≡◌ {A = ℕ} 0 1 = cc in omega arith
      go false (Refused k) h e = let z : ◌≡◌ {A = ℕ} 0 1 = cc in omega arith

  answered_zero : (service_on rows page s l).answer ≡ Accepted → request_number rows page s l ≡ 0
  answered_zero e = go (read_of rows page).answer refl
    where
      go : (a : Answer) → (read_of rows page).answer ≡ a → request_number rows page s l ≡ 0
      go Accepted h =
          let k = from_page rows table page bytes h in
          request_number_read rows table k s l b ∙ ap answer_number (ap (λ (x : Service). x.answer) (sym (on_read rows table k s l b)) ∙ e)
      go (Refused n) h = absurd (unread n h e)

  refused : (request_number rows page s l ≡ 0 → ⊥)
      → (request_page rows page s l ≡ page) × ((request_buffer rows page s l ≡ l) × ((request_length rows page s l ≡ 0) × (request_letter rows page s l ≡ 0)))
  unfolding request_page request_buffer request_length request_letter
  refused some = go (service_on rows page s l).answer refl
    where
      go : (a : Answer) → (service_on rows page s l).answer ≡ a
          → (request_page rows page s l ≡ page) × ((request_buffer rows page s l ≡ l) × ((request_length rows page s l ≡ 0) × (request_letter rows page s l ≡ 0)))
      go Accepted e = absurd (some (answered_zero e))
      go (Refused n) e = rw (refused_all n e) (refl, (refl, (refl, refl)))

-- ---- calls and requests from an accepted fresh

module _ (rows : List EventRow) (table : every lawful rows ≡ true) (f : Fresh) (t : Settings f) where
  abbrev after : List Call → Meter
  after calls = reached rows table f t calls

  -- a command, as one call more or none
  module _ (before : List Call) (k : AllInRange before) (r : Command) where
    one_call : (c : Call) → call_of r ≡ Ok c → InRange c → call_page rows (page_of (after before)) r ≡ page_of (after (before ++ (c ∷ [])))
    unfolding commanded record_after
    one_call c e i =
        page_on rows table (from_record rows table f t before k) r (rw e (i, tt))
        ∙ ap page_of (rw e (sym (record_append rows (record_of (fresh_state f)) before (c ∷ []))))

    no_call : call_of r ≡ Err NoKind → call_page rows (page_of (after before)) r ≡ page_of (after before)
    unfolding commanded
    no_call e = page_on rows table (from_record rows table f t before k) r (rw e tt) ∙ rw e

  pages_from : (xs : List Sent) (before : List Call) → AllInputsInRange (inputs_in xs) → AllInRange before
      → sent_pages rows (page_of (after before)) xs ≡ page_of (after (calls_behind rows f before (inputs_in xs)))
  unfolding sent_pages inputs_in calls_behind
  pages_from [] before i k = refl
  pages_from (command r ∷ xs) before i k = go (call_of r) refl i (pages_from xs)
    where
      go : (p : CallParsed) → call_of r ≡ p → AllInputsInRange (parsed_input p (inputs_in xs))
          → ((before : List Call) → AllInputsInRange (inputs_in xs) → AllInRange before
          → sent_pages rows (page_of (after before)) xs ≡ page_of (after (calls_behind rows f before (inputs_in xs))))
          → sent_pages rows (call_page rows (page_of (after before)) r) xs ≡ page_of (after (calls_behind rows f before (parsed_input p (inputs_in xs))))
      go (Ok c) e i rest =
          ap (λ (page : List ℕ). sent_pages rows page xs) (one_call before k r c e i.0)
          ∙ rest (before ++ (c ∷ [])) i.1 (range_append before (c ∷ []) k (i.0, tt))
      go (Err NoKind) e i rest = ap (λ (page : List ℕ). sent_pages rows page xs) (no_call before k r e) ∙ rest before i k
  pages_from (bytes s l ∷ xs) before i k =
      let n = named rows table f t before k (request s l) i.0 in
      let more = input_calls (account rows f before) (request s l) in
      let here : request_page rows (page_of (after before)) s l ≡ page_of (after (before ++ more)) =
      page_served rows table (from_record rows table f t before k) s l i.0
      ∙ ap page_of (n.leads ∙ sym (record_append rows (record_of (fresh_state f)) before more)) in
      ap (λ (page : List ℕ). sent_pages rows page xs) here ∙ pages_from xs (before ++ more) i.1 (range_append before more k n.in_range)

account_of_lem : (rows : List EventRow) → every lawful rows ≡ true → (page : List ℕ) (f : Fresh) (xs : List Sent) → length page ≡ size
    → (fresh_of f).answer ≡ Accepted → SettingsInRange f → AllInputsInRange (inputs_in xs)
    → sent_pages rows (fresh_page rows page f) xs ≡ account_page (account rows f (calls_behind rows f [] (inputs_in xs)))
unfolding record_after
account_of_lem rows table page f xs whole e range i =
    let t = fresh_laws.accepted_settings f range e in
    let calls = calls_behind rows f [] (inputs_in xs) in
    let in_range = (followed rows table f t (inputs_in xs) [] i tt).0 in
    ap (λ (page : List ℕ). sent_pages rows page xs) (fresh_written rows table page f whole e range) ∙ pages_from rows table f t xs [] i tt
    ∙ ap page_of (((meter.laws).1 rows table).simulates f calls t in_range) ∙ sym (list_written rows table f calls t in_range)

-- ---- the letter of a request behind calls and requests

named_letter_lem : (t : InputTrace) (s l : List ℕ) → Bytes s
    → (service t.rows (last_of t) s l).letter
    ≡ letter_of_named t.rows t.settings (trace_calls t) (input_calls (input_account t) (request s l))
named_letter_lem t s l b = go (input_calls (input_account t) (request s l)) refl
  where
    go : (cs : List Call) → input_calls (input_account t) (request s l) ≡ cs
        → (service t.rows (last_of t) s l).letter ≡ letter_of_named t.rows t.settings (trace_calls t) cs
    go [] e = requests_counted.unlettered t s l b e
    go (c ∷ []) e = requests_counted.lettered t s l c b e
    go (c ∷ (d ∷ cs)) e = absurd (at_most_one (input_account t) s l c d cs e)

letter_of_lem : (rows : List EventRow) (table : every lawful rows ≡ true) (page : List ℕ) (f : Fresh) (xs : List Sent) (s l : List ℕ) → length page ≡ size
    → (fresh_of f).answer ≡ Accepted → SettingsInRange f → AllInputsInRange (inputs_in xs) → Bytes s
    → let calls = calls_behind rows f [] (inputs_in xs) in
    request_letter rows (sent_pages rows (fresh_page rows page f) xs) s l
    ≡ letter_byte (letter_of_named rows f calls (input_calls (account rows f calls) (request s l)))
unfolding record_after request_letter
letter_of_lem rows table page f xs s l whole e range i b =
    let t = fresh_laws.accepted_settings f range e in
    let calls = calls_behind rows f [] (inputs_in xs) in
    let ends = followed rows table f t (inputs_in xs) [] i tt in
    let trace : InputTrace = record {
      rows = rows;
      settings = f;
      inputs = inputs_in xs;
      lawful_rows = table;
      accepted = e;
      settings_in_range = range;
      inputs_in_range = i;
    } in
    let last : after rows table f t calls ≡ last_of trace = sym (rw (fresh_laws.accepted_meter f e) ends.1) in
    let here : sent_pages rows (fresh_page rows page f) xs ≡ page_of (after rows table f t calls) =
    ap (λ (page : List ℕ). sent_pages rows page xs) (fresh_written rows table page f whole e range) ∙ pages_from rows table f t xs [] i tt in
    rw (here, on_served rows table (from_record rows table f t calls ends.0) s l b)
    (ap letter_byte (ap (λ (m : Meter). (service rows m s l).letter) last ∙ named_letter_lem trace s l b))

laws_of : (rows : List EventRow) → every lawful rows ≡ true → RequestLawsOf rows
unfolding request_buffer request_length request_letter
laws_of rows table =
    record {
      request_number_lem = number rows table;
      request_refused = refused rows table;
      request_served = λ page s l bytes b e.
          let k = from_page rows table page bytes e in
          (page_served rows table k s l b, rw (on_served rows table k s l b) (refl, (refl, refl)));
      request_account = account_of_lem rows table;
      request_letter_lem = letter_of_lem rows table;
    }

pub request_laws : RequestLaws
request_laws table b = laws_of (table_of table) (bytes_lawful table b)
