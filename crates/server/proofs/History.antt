-- Requests act in the account as the calls that they name.
use mathlib.Core.Path.{◌≡◌, refl, ap, ap₂, ◌∙◌, sym}
use native.Mathlib.Omega.{arith}
use mathlib.Core.Bool.{Bool, true, false, cond, false≢true}
use mathlib.Core.List.{List, [], ◌∷◌, ◌++◌, nil≢cons, tail-eq_of_cons-eq}
use Prim.Native.Nat.{ℕ, ◌≤◌}
use lib.Dec.{ltb}
use lib.ListN.{length, take, replicate}
use Rattle.std.specs.Prelude.{Option, Some, None, Ok, Err}
use Rattle.base.specs.Tests.{every}
use Rattle.codec.specs.Lawful.{Bytes}
use Rattle.events.specs.Table.{EventRow, lawful}
use Rattle.calls.specs.declared.Call.{Call}
use Rattle.calls.specs.declared.Letter.TheVariants.{None as NoLetter}
use Rattle.calls.specs.Calls.{AllInRange}
use Rattle.requests.specs.declared.Request.{Request}
use Rattle.requests.specs.Requests.{Parsed, request_in}
use Rattle.requests.proofs.Laws.{laws as request_laws}
use Rattle.history.specs.OnePhase.{Fresh, Account, account, letter}
use Rattle.meter.specs.declared.Meter.{Meter}
use Rattle.meter.specs.Sound.{sound_meter}
use Rattle.meter.specs.State.{record_of}
use Rattle.meter.specs.Machine.{applied, record_after}
use Rattle.meter.specs.Settings.{Settings}
use Rattle.meter.specs.Fresh.{fresh_state}
use Rattle.meter.specs.Holding.{holding}
use Rattle.meter.proofs.Accepting.{fresh_laws}
use Rattle.meter.proofs.Laws as meter
use Rattle.page.specs.Layout.{size, write_answer, written}
use Rattle.page.specs.AccountPage.{page_length}
use Rattle.page.specs.Demand3.{Trace, last_record, trace_account}
use Rattle.page.proofs.Traces.{demand_3}
use Rattle.server.specs.Naming.{named_in}
use Rattle.server.specs.Service.{refused_with, parsed_on, service}
use Rattle.server.specs.Laws.{named_of}
use Rattle.server.specs.History.{Input, call, request, InputInRange, AllInputsInRange, after_input, after_inputs, parsed_calls, input_calls}
use Rattle.server.specs.History.{named_calls, calls_behind, InputTrace, trace_calls, input_account, last_of, ComparedTraces, calls_with, RequestsCounted}
use Rattle.server.proofs.Laws.{unchanged}
use Rattle.server.proofs.Kept.{sound_range, request_record, letter_named, letter_unnamed}

pub range_append : (xs ys : List Call) → AllInRange xs → AllInRange ys → AllInRange (xs ++ ys)
range_append [] ys h k = k
range_append (x ∷ xs) ys h k = (h.0, range_append xs ys h.1 k)

pub record_append : (rows : List EventRow) (m : Meter) (xs ys : List Call) → record_after rows m (xs ++ ys) ≡ record_after rows (record_after rows m xs) ys
unfolding record_after
record_append rows m [] ys = refl
record_append rows m (x ∷ xs) ys = record_append rows (applied rows m x).meter xs ys

module _ (rows : List EventRow) (table : every lawful rows ≡ true) (f : Fresh) (t : Settings f) where
  -- the record after some calls
  abbrev pub reached : List Call → Meter
  reached calls = record_after rows (record_of (fresh_state f)) calls

  module _ (before : List Call) (range : AllInRange before) where
    abbrev pub m : Meter
    m = reached before

    abbrev pub a : Account
    a = account rows f before

    sound : sound_meter rows m ≡ true
    sound = ((meter.laws).1 rows table).reached_sound f before t range

    holds : m ≡ record_of (holding a)
    holds = ((meter.laws).1 rows table).simulates f before t range

    -- the settings that a SET keeps are the account's
    same_named : (r : Request) → named_of m r ≡ named_in a.threshold a.over a.under r
    same_named r = ap (λ (n : Meter). named_of n r) holds

    -- the calls that an input names have numbers of their types, and lead to the record that it leaves
    pub record Named (i : Input) : Type 0 where
      pub in_range : AllInRange (input_calls a i)
      pub leads : after_input rows m i ≡ record_after rows m (input_calls a i)

    abbrev parsed_after : Parsed → Meter
    parsed_after p = (parsed_on rows m p).meter

    parsed : (s : List ℕ) → Bytes s → (p : Parsed) → request_in s ≡ p
        → AllInRange (parsed_calls a p) × (parsed_after p ≡ record_after rows m (parsed_calls a p))
    unfolding record_after
    parsed s b (Err x) e = (tt, refl)
    parsed s b (Ok r) e =
        rw (← same_named r) (sound_range rows m r (request_laws.read_in_range s r b e) sound, request_record rows table m r)

    pub named : (i : Input) → InputInRange i → Named i
    unfolding record_after service
    named (call c) h = record { in_range = (h, tt); leads = refl }
    named (request s l) h =
        let k = parsed s h (request_in s) refl in
        record { in_range = ranges (ltb (length l) 32) k.0; leads = leads (ltb (length l) 32) (sound_meter rows m) sound k.1 }
      where
        ranges : (b : Bool) → AllInRange (parsed_calls a (request_in s)) → AllInRange (cond b [] (parsed_calls a (request_in s)))
        ranges true k = tt
        ranges false k = k

        leads : (b q : Bool) → q ≡ true → parsed_after (request_in s) ≡ record_after rows m (parsed_calls a (request_in s))
            → (cond b (refused_with m 21) (cond q (parsed_on rows m (request_in s)) (refused_with m 12))).meter
            ≡ record_after rows m (cond b [] (parsed_calls a (request_in s)))
        leads true q e k = refl
        leads false true e k = k
        leads false false e k = absurd (false≢true e)

  -- the record after inputs behind some calls
  pub followed : (inputs : List Input) (before : List Call) → AllInputsInRange inputs → AllInRange before
      → AllInRange (calls_behind rows f before inputs) × (after_inputs rows (reached before) inputs ≡ reached (calls_behind rows f before inputs))
  unfolding calls_behind after_inputs
  followed [] before h k = (k, refl)
  followed (i ∷ inputs) before h k =
      let n = named before k i h.0 in
      let next = before ++ input_calls (account rows f before) i in
      let later = followed inputs next h.1 (range_append before (input_calls (account rows f before) i) k n.in_range) in
      let here : after_input rows (reached before) i ≡ reached next =
      n.leads ∙ sym (record_append rows (record_of (fresh_state f)) before (input_calls (account rows f before) i)) in
      (later.0, ap (λ (m : Meter). after_inputs rows m inputs) here ∙ later.1)

-- the calls that the inputs of a trace name, as a trace
module _ (t : InputTrace) where
  settings : Settings t.settings
  settings = fresh_laws.accepted_settings t.settings t.settings_in_range t.accepted

  ends : AllInRange (trace_calls t) × (after_inputs t.rows (record_of (fresh_state t.settings)) t.inputs
      ≡ record_after t.rows (record_of (fresh_state t.settings)) (trace_calls t))
  unfolding record_after
  ends = followed t.rows t.lawful_rows t.settings settings t.inputs [] t.inputs_in_range tt

  abbrev named_trace : Trace
  named_trace = record {
    rows = t.rows;
    settings = t.settings;
    calls = trace_calls t;
    lawful_rows = t.lawful_rows;
    accepted = t.accepted;
    settings_in_range = t.settings_in_range;
    calls_in_range = ends.0;
  }

  same_record : last_of t ≡ last_record named_trace
  same_record = rw (fresh_laws.accepted_meter t.settings t.accepted) ends.1

compared : (s t : InputTrace) (out out' : List ℕ) → page_length ≤ length out → page_length ≤ length out' → ComparedTraces s t out out'
compared s t out out' room room' =
    let c = demand_3 (named_trace s) (named_trace t) out out' room room' in
    let first = ap (λ (m : Meter). take page_length (written s.rows m out)) (same_record s) in
    let second = ap (λ (m : Meter). take page_length (written t.rows m out')) (same_record t) in
    record {
      first_accepted = ap (λ (m : Meter). write_answer s.rows m out) (same_record s) ∙ c.first_accepted;
      second_accepted = ap (λ (m : Meter). write_answer t.rows m out') (same_record t) ∙ c.second_accepted;
      first_page = first ∙ c.first_page;
      second_page = second ∙ c.second_page;
      same_account = λ e. c.same_account (sym first ∙ e ∙ second);
      same_page = λ e. first ∙ c.same_page e ∙ sym second;
    }

-- ---- a request that is not answered with success

behind_more : (rows : List EventRow) (f : Fresh) (before : List Call) (xs : List Input) (i : Input)
    → calls_behind rows f before (xs ++ (i ∷ [])) ≡ calls_behind rows f before xs ++ input_calls (account rows f (calls_behind rows f before xs)) i
unfolding calls_behind
behind_more rows f before [] i = refl
behind_more rows f before (x ∷ xs) i = behind_more rows f (before ++ input_calls (account rows f before) x) xs i

not_carried : (rows : List EventRow) (m : Meter) (s l : List ℕ) → (service rows m s l).carried ≡ false → (service rows m s l).meter ≡ m
unfolding service
not_carried rows m s l = go (ltb (length l) 32) (sound_meter rows m) (request_in s)
  where
    go : (b q : Bool) (p : Parsed) → (cond b (refused_with m 21) (cond q (parsed_on rows m p) (refused_with m 12))).carried ≡ false
        → (cond b (refused_with m 21) (cond q (parsed_on rows m p) (refused_with m 12))).meter ≡ m
    go true q p e = refl
    go false false p e = refl
    go false true (Err x) e = refl
    go false true (Ok r) e = (unchanged rows m r e).0

-- two traces of one table, with equal last records, have one account
same_last : (s t : Trace) → s.rows ≡ t.rows → last_record s ≡ last_record t → trace_account s ≡ trace_account t
same_last s t r e =
    let out = replicate {A = ℕ} size 0 in
    let c = demand_3 s t out out (omega arith) (omega arith) in
    c.same_account (ap₂ (λ (rows : List EventRow) (m : Meter). take page_length (written rows m out)) r e)

uncounted : (t : InputTrace) (s l : List ℕ) → Bytes s → (service t.rows (last_of t) s l).carried ≡ false
    → account t.rows t.settings (calls_with t (request s l)) ≡ input_account t
uncounted t s l b e =
    let cs = trace_calls t in
    let start = record_of (fresh_state t.settings) in
    let n = named t.rows t.lawful_rows t.settings (settings t) cs (ends t).0 (request s l) b in
    let more = input_calls (input_account t) (request s l) in
    let last : record_after t.rows start cs ≡ last_of t =
    sym (rw (fresh_laws.accepted_meter t.settings t.accepted) (ends t).1) in
    let one : Trace = record {
      rows = t.rows;
      settings = t.settings;
      calls = cs ++ more;
      lawful_rows = t.lawful_rows;
      accepted = t.accepted;
      settings_in_range = t.settings_in_range;
      calls_in_range = range_append cs more (ends t).0 n.in_range;
    } in
    let unmoved : (service t.rows (record_after t.rows start cs) s l).meter ≡ record_after t.rows start cs =
    not_carried t.rows (record_after t.rows start cs) s l (ap (λ (m : Meter). (service t.rows m s l).carried) last ∙ e) in
    let same : last_record one ≡ last_record (named_trace t) =
    ap (λ (m : Meter). record_after t.rows m (cs ++ more)) (fresh_laws.accepted_meter t.settings t.accepted)
    ∙ record_append t.rows start cs more ∙ sym n.leads ∙ unmoved
    ∙ ap (λ (m : Meter). record_after t.rows m cs) (sym (fresh_laws.accepted_meter t.settings t.accepted)) in
    ap (λ (calls : List Call). account t.rows t.settings calls) (behind_more t.rows t.settings [] t.inputs (request s l))
    ∙ same_last one (named_trace t) refl same

-- ---- the letter

module _ (rows : List EventRow) (table : every lawful rows ≡ true) (f : Fresh) (t : Settings f) (before : List Call) (range : AllInRange before) where
  letter_parsed : (c : Call) (p : Parsed) → parsed_calls (account rows f before) p ≡ c ∷ []
      → (parsed_on rows (reached rows table f t before) p).letter ≡ (applied rows (reached rows table f t before) c).letter
  letter_parsed c (Err x) e = absurd (let z : ◌≡◌ {A = ℕ} 0 1 = cc in omega arith)
  letter_parsed c (Ok r) e =
      letter_named rows table (reached rows table f t before) r c (ap named_calls (same_named rows table f t before range r) ∙ e)

  letter_served : (s l : List ℕ) (c : Call) → input_calls (account rows f before) (request s l) ≡ c ∷ []
      → (service rows (reached rows table f t before) s l).letter ≡ (applied rows (reached rows table f t before) c).letter
  unfolding service
  letter_served s l c e = go (ltb (length l) 32) (sound_meter rows m₀) (sound rows table f t before range) e
    where
      m₀ : Meter
      m₀ = reached rows table f t before

      go : (b q : Bool) → q ≡ true → cond b [] (parsed_calls (account rows f before) (request_in s)) ≡ c ∷ []
          → (cond b (refused_with m₀ 21) (cond q (parsed_on rows m₀ (request_in s)) (refused_with m₀ 12))).letter ≡ (applied rows m₀ c).letter
      go true q h e = absurd (let z : ◌≡◌ {A = ℕ} 0 1 = cc in omega arith)
      go false true h e = letter_parsed c (request_in s) e
      go false false h e = absurd (false≢true h)

  unlettered_parsed : (p : Parsed) → parsed_calls (account rows f before) p ≡ [] → (parsed_on rows (reached rows table f t before) p).letter ≡ NoLetter
  unlettered_parsed (Err x) e = refl
  unlettered_parsed (Ok r) e =
      letter_unnamed rows table (reached rows table f t before) r (ap named_calls (same_named rows table f t before range r) ∙ e)

  unlettered_served : (s l : List ℕ) → input_calls (account rows f before) (request s l) ≡ [] → (service rows (reached rows table f t before) s l).letter ≡ NoLetter
  unfolding service
  unlettered_served s l e = go (ltb (length l) 32) (sound_meter rows m₀) e
    where
      m₀ : Meter
      m₀ = reached rows table f t before

      go : (b q : Bool) → cond b [] (parsed_calls (account rows f before) (request_in s)) ≡ []
          → (cond b (refused_with m₀ 21) (cond q (parsed_on rows m₀ (request_in s)) (refused_with m₀ 12))).letter ≡ NoLetter
      go true q e = refl
      go false true e = unlettered_parsed (request_in s) e
      go false false e = refl

-- an input names one call at most
pub at_most_one : (a : Account) (s l : List ℕ) (c d : Call) (cs : List Call) → input_calls a (request s l) ≡ c ∷ (d ∷ cs) → ⊥
at_most_one a s l c d cs = go (ltb (length l) 32) (request_in s)
  where
    named_one : (n : Option Call) → named_calls n ≡ c ∷ (d ∷ cs) → ⊥
    named_one (Some x) e = nil≢cons (tail-eq_of_cons-eq e)
    named_one None e = nil≢cons e

    go : (b : Bool) (p : Parsed) → cond b [] (parsed_calls a p) ≡ c ∷ (d ∷ cs) → ⊥
    go true p e = nil≢cons e
    go false (Err x) e = nil≢cons e
    go false (Ok r) e = named_one (named_in a.threshold a.over a.under r) e

unlettered : (t : InputTrace) (s l : List ℕ) → Bytes s → input_calls (input_account t) (request s l) ≡ [] → (service t.rows (last_of t) s l).letter ≡ NoLetter
unlettered t s l b e =
    let cs = trace_calls t in
    let last : record_after t.rows (record_of (fresh_state t.settings)) cs ≡ last_of t =
    sym (rw (fresh_laws.accepted_meter t.settings t.accepted) (ends t).1) in
    ap (λ (m : Meter). (service t.rows m s l).letter) (sym last)
    ∙ unlettered_served t.rows t.lawful_rows t.settings (settings t) cs (ends t).0 s l e

lettered : (t : InputTrace) (s l : List ℕ) (c : Call) → Bytes s → input_calls (input_account t) (request s l) ≡ c ∷ []
    → (service t.rows (last_of t) s l).letter ≡ letter t.rows t.settings (trace_calls t) c
lettered t s l c b e =
    let cs = trace_calls t in
    let n = named t.rows t.lawful_rows t.settings (settings t) cs (ends t).0 (request s l) b in
    let in_range : AllInRange (c ∷ []) = rw e at n.in_range in
    let last : record_after t.rows (record_of (fresh_state t.settings)) cs ≡ last_of t =
    sym (rw (fresh_laws.accepted_meter t.settings t.accepted) (ends t).1) in
    ap (λ (m : Meter). (service t.rows m s l).letter) (sym last)
    ∙ letter_served t.rows t.lawful_rows t.settings (settings t) cs (ends t).0 s l c e
    ∙ ((meter.laws).1 t.rows t.lawful_rows).letters t.settings cs c (settings t) (in_range.0, (ends t).0)

pub requests_counted : RequestsCounted
requests_counted = record { compared = compared; uncounted = uncounted; lettered = lettered; unlettered = unlettered }
