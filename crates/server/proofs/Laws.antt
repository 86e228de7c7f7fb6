-- The laws of requests, whatever the record.
use mathlib.Core.Path.{◌≡◌, refl, ap, ◌∙◌, sym}
use mathlib.Core.Bool.{Bool, true, false, cond, beq}
use mathlib.Core.List.{List, [], ◌∷◌, ◌++◌}
use Prim.Native.Nat.{ℕ, ◌+◌, ◌≤◌}
use native.Mathlib.Omega.{arith}
use lib.Dec.{eqb, ltb}
use lib.ListN.{length, get_or, take, drop, length-append, length-drop}
use lib.Seq.{take-append_seam, drop-append_seam}
use borrow.Author.Tests.{eq-eqb, ne_eqb, eqb-true, ltb-false, le-ltb}
use Rattle.std.specs.Prelude.{ok_or, Option, Some, None, Ok, Err}
use Rattle.base.specs.Tests.{among, every}
use Rattle.base.proofs.Bools.{and_left, beq_eq}
use Rattle.base.proofs.Every.{every_first, every_rest}
use Rattle.codec.specs.BigEndian.{be}
use Rattle.codec.specs.Lawful.{Bytes}
use Rattle.events.specs.Table.{EventRow}
use Rattle.calls.specs.declared.Call.{Call}
use Rattle.calls.specs.declared.Answer.{Answer}
use Rattle.calls.specs.declared.Answer.TheVariants.{Accepted, Refused}
use Rattle.calls.specs.declared.Letter.TheVariants.{None as NoLetter}
use Rattle.calls.specs.Calls.{answer_number}
use Rattle.requests.specs.declared.Data.{Data}
use Rattle.requests.specs.declared.Data.TheVariants as data_of
use Rattle.requests.specs.declared.Descriptor.{Descriptor}
use Rattle.requests.specs.declared.Request.{Request}
use Rattle.requests.specs.declared.Request.TheVariants.{Get, Set, Action}
use Rattle.requests.specs.Requests.{tag_of, Parsed, request_bytes, request_in, RequestInRange}
use Rattle.requests.proofs.Laws.{laws as request_laws}
use Rattle.responses.specs.declared.AccessResult.{AccessResult}
use Rattle.responses.specs.declared.AccessResult.TheVariants.{Success, ReadWriteDenied, ObjectUndefined, TypeUnmatched}
use Rattle.responses.specs.declared.Response.{Response}
use Rattle.responses.specs.declared.Response.TheVariants.{GetData, GetResult, SetResult, ActionResult}
use Rattle.responses.specs.Responses.{is_success, response_bytes}
use Rattle.responses.specs.Laws.{size_of}
use Rattle.responses.proofs.Lengths.{size}
use Rattle.steps.specs.declared.Scalars.{Scalars}
use Rattle.meter.specs.declared.Meter.{Meter}
use Rattle.meter.specs.Machine.{applied}
use Rattle.meter.specs.Sound.{sound_meter}
use Rattle.meter.specs.State.{scalars_of}
use Rattle.server.specs.declared.Value.{Value}
use Rattle.server.specs.declared.Value.TheVariants as value
use Rattle.server.specs.declared.Item.{Item}
use Rattle.server.specs.declared.Accessed.{Accessed}
use Rattle.server.specs.Objects.{items, is_at, item_at}
use Rattle.server.specs.Reading.{value_of, read_of}
use Rattle.server.specs.Naming.{number_of, named_from, named_at}
use Rattle.server.specs.Access.{unchanged_with, accessed_by, called_on, call_at, access_by, access_on, get_response, get_at, get_on, responded_with, responded_on}
use Rattle.server.specs.Service.{Service, refused_with, answering, parsed_on, service, served_by, filled_by}
use Rattle.server.specs.Laws.{is_whole, served_on, buffer_after, named_of, CarriedOut, Matches, named_for, LawsOf}
use Rattle.server.proofs.Services.{response_fits}

-- ---- bytes are refused, or answered

module _ (rows : List EventRow) (m : Meter) (s l : List ℕ) where
  cases : (P : Service → Type 0) → ((n : ℕ) → P (refused_with m n))
      → ((r : Request) → request_in s ≡ Ok r → 32 ≤ length l → P (answering (responded_on rows m r))) → P (service rows m s l)
  unfolding service
  cases P stop give = go (ltb (length l) 32) (sound_meter rows m) (request_in s) refl refl
    where
      go : (a b : Bool) (p : Parsed) → ltb (length l) 32 ≡ a → request_in s ≡ p → P (cond a (refused_with m 21) (cond b (parsed_on rows m p) (refused_with m 12)))
      go true b p h e = stop 21
      go false true (Ok r) h e = give r e (ltb-false (length l) 32 h)
      go false true NotWhole h e = stop 20
      go false false p h e = stop 12

  number : answer_number (served_on rows m s l).answer ≡ cond (ltb (length l) 32) 21 (cond (sound_meter rows m) (cond (is_whole (request_in s)) 0 20) 12)
  unfolding service
  number = go (ltb (length l) 32) (sound_meter rows m) (request_in s)
    where
      go : (a b : Bool) (p : Parsed) → answer_number (cond a (refused_with m 21) (cond b (parsed_on rows m p) (refused_with m 12))).answer
          ≡ cond a 21 (cond b (cond (is_whole p) 0 20) 12)
      go true b p = refl
      go false true (Ok r) = refl
      go false true (Err x) = refl
      go false false p = refl

  front : take (served_on rows m s l).length (buffer_after rows m s l) ≡ (service rows m s l).bytes
  front = take-append_seam (service rows m s l).bytes (drop (served_on rows m s l).length l)

  rest : drop (served_on rows m s l).length (buffer_after rows m s l) ≡ drop (served_on rows m s l).length l
  rest = drop-append_seam (service rows m s l).bytes (drop (served_on rows m s l).length l)

  same_length : length (buffer_after rows m s l) ≡ length l
  same_length = cases (λ x. length (filled_by x l) ≡ length l) (λ n. refl) (λ r e h. kept (responded_on rows m r).response h)
    where
      kept : (y : Response) → 32 ≤ length l → length (response_bytes y ++ drop (length (response_bytes y)) l) ≡ length l
      kept y h =
          let f = response_fits y l h in
          rw (length-append (response_bytes y) (drop (length (response_bytes y)) l), length-drop (length (response_bytes y)) l) (omega arith)

  refused_same : (n : ℕ) → (served_on rows m s l).answer ≡ Refused n
      → (served_on rows m s l ≡ record { meter = m; answer = Refused n; length = 0; letter = NoLetter; carried = false }) × (buffer_after rows m s l ≡ l)
  refused_same n =
      cases (λ x. x.answer ≡ Refused n → (served_by x ≡ record { meter = m; answer = Refused n; length = 0; letter = NoLetter; carried = false }) × (filled_by x l ≡ l))
      (λ k e. (ap (λ (a : Answer). record { meter = m; answer = a; length = 0; letter = NoLetter; carried = false }) e, refl))
      (λ r e h q. absurd (let z : ◌≡◌ {A = ℕ} 0 1 = cc in omega arith))

whole : (rows : List EventRow) (m : Meter) (r : Request) (l : List ℕ) → RequestInRange r → sound_meter rows m ≡ true → 32 ≤ length l
    → service rows m (request_bytes r) l ≡ answering (responded_on rows m r)
unfolding service
whole rows m r l h q room = rw (le-ltb (length l) 32 room, q, request_laws.read_written r h)

among_size : (y : Response) → among (4 ∷ 5 ∷ 6 ∷ 9 ∷ []) (size_of y) ≡ true
unfolding among
among_size (GetData i (data_of.Boolean v)) = refl
among_size (GetData i (data_of.DoubleLong v)) = refl
among_size (GetData i (data_of.DoubleLongUnsigned v)) = refl
among_size (GetData i (data_of.Integer v)) = refl
among_size (GetData i (data_of.Enum v)) = refl
among_size (GetResult i r) = refl
among_size (SetResult i r) = refl
among_size (ActionResult i r) = refl

module _ (rows : List EventRow) (m : Meter) (s l : List ℕ) where
  sizes : (served_on rows m s l).answer ≡ Accepted → among (4 ∷ 5 ∷ 6 ∷ 9 ∷ []) (served_on rows m s l).length ≡ true
  sizes =
      cases rows m s l (λ x. x.answer ≡ Accepted → among (4 ∷ 5 ∷ 6 ∷ 9 ∷ []) (length x.bytes) ≡ true)
      (λ n q. absurd (let z : ◌≡◌ {A = ℕ} 0 1 = cc in omega arith))
      (λ r e h q. let y = (responded_on rows m r).response in rw (size y) (among_size y))

-- ---- the first bytes

module _ (rows : List EventRow) (m : Meter) (l : List ℕ) where
  got_echo : (i : ℕ) (d : Descriptor) (x : Option Data) → take 3 (response_bytes (get_response i x) ++ l)
      ≡ (get_or (request_bytes (Get i d)) 0 0 + 4) ∷ 1 ∷ get_or (request_bytes (Get i d)) 2 0 ∷ []
  unfolding be response_bytes request_bytes
  got_echo i d (Some x) = refl
  got_echo i d None = refl

  get_echo : (i : ℕ) (d : Descriptor) (o : Option Item) → take 3 (response_bytes (get_at (scalars_of m) i o) ++ l)
      ≡ (get_or (request_bytes (Get i d)) 0 0 + 4) ∷ 1 ∷ get_or (request_bytes (Get i d)) 2 0 ∷ []
  get_echo i d None = got_echo i d None
  get_echo i d (Some a) = got_echo i d (read_of (scalars_of m) a.reads)

  echo : (r : Request) → take 3 (response_bytes (responded_on rows m r).response ++ l)
      ≡ (get_or (request_bytes r) 0 0 + 4) ∷ 1 ∷ get_or (request_bytes r) 2 0 ∷ []
  unfolding be response_bytes request_bytes responded_on get_on
  echo (Get i d) = get_echo i d (item_at items false d)
  echo (Set i d x) = refl
  echo (Action i d None) = refl
  echo (Action i d (Some x)) = refl

module _ (rows : List EventRow) (m : Meter) (s l : List ℕ) where
  first_bytes : Bytes s → (served_on rows m s l).answer ≡ Accepted → take 3 (buffer_after rows m s l) ≡ (get_or s 0 0 + 4) ∷ 1 ∷ get_or s 2 0 ∷ []
  first_bytes b =
      cases rows m s l (λ x. x.answer ≡ Accepted → take 3 (filled_by x l) ≡ (get_or s 0 0 + 4) ∷ 1 ∷ get_or s 2 0 ∷ [])
      (λ n q. absurd (let z : ◌≡◌ {A = ℕ} 0 1 = cc in omega arith))
      (λ r e h q. echo rows m (drop (length (response_bytes (responded_on rows m r).response)) l) r
      ∙ ap (λ (t : List ℕ). (get_or t 0 0 + 4) ∷ 1 ∷ get_or t 2 0 ∷ []) (request_laws.written_read s r b e))

-- ---- what a SET or an ACTION comes to

-- it leaves the record, or carries the named call out
record Fate (rows : List EventRow) (m : Meter) (n : Option Call) (a : Accessed) : Type 0 where
  pub same : is_success a.result ≡ false → (a.meter ≡ m) × (a.letter ≡ NoLetter)
  pub carried : is_success a.result ≡ true → CarriedOut rows m n (responded_with a (SetResult 0 a.result))

module _ (rows : List EventRow) (m : Meter) where
  left : (n : Option Call) (r : AccessResult) → is_success r ≡ false → Fate rows m n (unchanged_with m r)
  left n r e = record { same = λ h. (refl, refl); carried = λ h. absurd (let z : ◌≡◌ {A = ℕ} 0 1 = cc in omega arith) }

  called : (c : Call) → Fate rows m (Some c) (called_on rows m c)
  unfolding called_on
  called c = go (applied rows m c).answer refl
    where
      go : (a : Answer) → (applied rows m c).answer ≡ a → Fate rows m (Some c) (accessed_by m (applied rows m c).meter (applied rows m c).letter a)
      go Accepted e = record { same = λ h. absurd (let z : ◌≡◌ {A = ℕ} 0 1 = cc in omega arith); carried = λ h. (e, (refl, refl)) }
      go (Refused n) e = left (Some c) ReadWriteDenied refl

  -- a call, where the row names one: 'read-write-denied if not writable'
  abbrev named_on : Option Call → Accessed
  named_on n = access_by rows m (ok_or n ReadWriteDenied)

  named : (n : Option Call) → Fate rows m n (named_on n)
  named (Some c) = called c
  named None = left None ReadWriteDenied refl

  abbrev at : Option Data → Option Item → Option Call
  at x o = named_at m.limiter.threshold m.limiter.over m.limiter.under x o

  abbrev access_at : Option Data → Option Item → Accessed
  access_at x o = access_by rows m (call_at m.limiter x o)

  accessed : (x : Option Data) (o : Option Item) → Fate rows m (at x o) (access_at x o)
  accessed x None = left None ObjectUndefined refl
  accessed None (Some a) = left None TypeUnmatched refl
  accessed (Some x) (Some a) = go (eqb a.tag (tag_of x))
    where
      n : Option Call
      n = named_from m.limiter.threshold m.limiter.over m.limiter.under a.names (number_of x)

      go : (t : Bool) → Fate rows m (cond t n None) (access_by rows m (cond t (ok_or n ReadWriteDenied) (Err TypeUnmatched)))
      go true = named n
      go false = left None TypeUnmatched refl

  pub unchanged : (r : Request) → (responded_on rows m r).carried ≡ false → ((responded_on rows m r).meter ≡ m) × ((responded_on rows m r).letter ≡ NoLetter)
  unfolding responded_on access_on
  unchanged (Get i d) h = (refl, refl)
  unchanged (Set i d x) h = (accessed (Some x) (item_at items false d)).same h
  unchanged (Action i d x) h = (accessed x (item_at items true d)).same h

  carried_named : (n : Option Call) (a : Accessed) (y z : Response) → CarriedOut rows m n (responded_with a y) → CarriedOut rows m n (responded_with a z)
  carried_named (Some c) a y z h = h
  carried_named None a y z h = h

  pub carried_out_lem : (r : Request) → (responded_on rows m r).carried ≡ true → CarriedOut rows m (named_of m r) (responded_on rows m r)
  unfolding responded_on access_on
  carried_out_lem (Get i d) h = absurd (let z : ◌≡◌ {A = ℕ} 0 1 = cc in omega arith)
  carried_out_lem (Set i d x) h =
      let a = access_at (Some x) (item_at items false d) in
      carried_named (at (Some x) (item_at items false d)) a _ (SetResult i a.result) ((accessed (Some x) (item_at items false d)).carried h)
  carried_out_lem (Action i d x) h =
      let a = access_at x (item_at items true d) in
      carried_named (at x (item_at items true d)) a _ (ActionResult i a.result) ((accessed x (item_at items true d)).carried h)

  -- ---- its result

  module _ (method : Bool) (d : Descriptor) where
    undefined : (x : Option Data) → item_at items method d ≡ None → (access_on rows m method d x).result ≡ ObjectUndefined
    unfolding access_on
    undefined x e = rw e

    module _ (a : Item) (row : item_at items method d ≡ Some a) where
      unmatched : (x : Option Data) → (Matches a x → ⊥) → (access_on rows m method d x).result ≡ TypeUnmatched
      unfolding access_on
      unmatched None h = rw row
      unmatched (Some x) h = rw (row, ne_eqb a.tag (tag_of x) h)

      matched : (x : Option Data) → Matches a x → access_on rows m method d x ≡ named_on (named_for m a x)
      unfolding access_on
      matched None h = absurd h
      matched (Some x) h = rw (row, eq-eqb a.tag (tag_of x) h)

      result_named : (x : Option Data) (n : Option Call) → Matches a x → named_for m a x ≡ n → (access_on rows m method d x).result ≡ (named_on n).result
      result_named x n h e = ap (λ (y : Accessed). y.result) (matched x h) ∙ ap (λ (k : Option Call). (named_on k).result) e

      refused : (x : Option Data) → Matches a x → (c : Call) (n : ℕ) → named_for m a x ≡ Some c → (applied rows m c).answer ≡ Refused n
          → (access_on rows m method d x).result ≡ ReadWriteDenied
      unfolding called_on
      refused x h c n e q = result_named x (Some c) h e ∙ rw q

      accepted : (x : Option Data) → Matches a x → (c : Call) → named_for m a x ≡ Some c → (applied rows m c).answer ≡ Accepted
          → (access_on rows m method d x).result ≡ Success
      unfolding called_on
      accepted x h c e q = result_named x (Some c) h e ∙ rw q

-- ---- the rule of the rows, by one test of the table

-- the tag of what an attribute reads
abbrev tag_read : Value → ℕ
tag_read value.OutputState = 3
tag_read value.ControlState = 22
tag_read value.ControlMode = 22
tag_read value.Threshold = 5
tag_read value.OverDuration = 6
tag_read value.UnderDuration = 6
tag_read value.Errors = 6
tag_read value.Alarms = 6
tag_read value.AlarmFilter = 6

-- an attribute's tag is that of its value; a method's is another
abbrev reads_tagged : ℕ → Option Value → Bool
reads_tagged t (Some v) = eqb t (tag_read v)
reads_tagged t None = false

abbrev is_typed : Item → Bool
is_typed a = cond a.method true (reads_tagged a.tag a.reads)

all_typed : every is_typed items ≡ true
unfolding items every
all_typed = refl

found_passes : (f : Item → Bool) (rows : List Item) (m : Bool) (d : Descriptor) (a : Item) → every f rows ≡ true → item_at rows m d ≡ Some a
    → (f a ≡ true) × (is_at a m d ≡ true)
unfolding item_at every
found_passes f [] m d a h e = absurd (let z : ◌≡◌ {A = ℕ} 0 1 = cc in omega arith)
found_passes f (b ∷ rows) m d a h e = go (is_at b m d) refl e (found_passes f rows m d a (every_rest f b rows h))
  where
    go : (t : Bool) → is_at b m d ≡ t → cond t (Some b) (item_at rows m d) ≡ Some a → (item_at rows m d ≡ Some a → (f a ≡ true) × (is_at a m d ≡ true))
        → (f a ≡ true) × (is_at a m d ≡ true)
    go true p g later = let z : b ≡ a = cc in rw (← z) (every_first f b rows h, p)
    go false p g later = later g

valued : (s : Scalars) (v : Value) → tag_of (value_of s v) ≡ tag_read v
valued s value.OutputState = refl
valued s value.ControlState = refl
valued s value.ControlMode = refl
valued s value.Threshold = refl
valued s value.OverDuration = refl
valued s value.UnderDuration = refl
valued s value.Errors = refl
valued s value.Alarms = refl
valued s value.AlarmFilter = refl

read_typed : (s : Scalars) (t : ℕ) (r : Option Value) → reads_tagged t r ≡ true → (x : Data) × ((read_of s r ≡ Some x) × (tag_of x ≡ t))
read_typed s t (Some v) h = (value_of s v, (refl, valued s v ∙ sym (eqb-true t (tag_read v) h)))
read_typed s t None h = absurd (let z : ◌≡◌ {A = ℕ} 0 1 = cc in omega arith)

module _ (rows : List EventRow) (m : Meter) (i : ℕ) (d : Descriptor) where
  get_undefined : item_at items false d ≡ None → (responded_on rows m (Get i d)).response ≡ GetResult i ObjectUndefined
  unfolding responded_on get_on
  get_undefined e = rw e

  get_value : (a : Item) → item_at items false d ≡ Some a
      → (x : Data) × ((read_of (scalars_of m) a.reads ≡ Some x) × ((tag_of x ≡ a.tag) × ((responded_on rows m (Get i d)).response ≡ GetData i x)))
  unfolding responded_on get_on
  get_value a e =
      let (passes, at) = found_passes is_typed items false d a all_typed e in
      let attribute : a.method ≡ false = beq_eq a.method false (and_left (beq a.method false) _ (and_left _ _ at)) in
      let typed : reads_tagged a.tag a.reads ≡ true = rw attribute at passes in
      let (x, (reads, is)) = read_typed (scalars_of m) a.tag a.reads typed in
      (x, (reads, (is, rw (e, reads))))

pub laws_of : (rows : List EventRow) → LawsOf rows
unfolding responded_on
laws_of rows =
    record {
      number = number rows;
      whole = whole rows;
      front = front rows;
      rest = rest rows;
      same_length = same_length rows;
      sizes = sizes rows;
      first_bytes = first_bytes rows;
      refused_same = refused_same rows;
      unchanged = unchanged rows;
      get_not_carried = λ m i d. refl;
      set_carried = λ m i d x. refl;
      action_carried = λ m i d x. refl;
      carried_out_lem = carried_out_lem rows;
      undefined = undefined rows;
      unmatched = λ m method d x a row. unmatched rows m method d a row x;
      not_writable = λ m method d x a row h e. result_named rows m method d a row x None h e;
      refused = λ m method d x a row. refused rows m method d a row x;
      accepted = λ m method d x a row. accepted rows m method d a row x;
      get_undefined = get_undefined rows;
      get_value = get_value rows;
    }
