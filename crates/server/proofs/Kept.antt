-- A request keeps a sound record sound: the call that it names has numbers of their types.
use mathlib.Core.Path.{◌≡◌, refl, ap, ◌∙◌, sym}
use mathlib.Core.Bool.{Bool, true, false, cond}
use mathlib.Core.List.{List, [], ◌∷◌, nil≢cons}
use Prim.Native.Nat.{ℕ, ◌-◌, ◌<◌}
use native.Mathlib.Omega.{arith}
use lib.Dec.{eqb, ltb, leb}
use lib.IntN.{ℤ, pos, negsuc}
use lib.Signed.{le_z}
use borrow.Author.Tests.{le-leb, leb-true, ltb-true, ltb-false}
use Rattle.std.specs.Prelude.{ok_or, Err, Option, Some, None}
use Rattle.base.specs.Tests.{every}
use Rattle.base.proofs.Bools.{and_right}
use Rattle.events.specs.Table.{EventRow, lawful}
use Rattle.limiter.specs.Limiter.{is_duration, is_threshold}
use Rattle.logs.specs.Layout.{Sized}
use Rattle.calls.specs.declared.Call.{Call}
use Rattle.calls.specs.declared.Answer.{Answer}
use Rattle.calls.specs.declared.Answer.TheVariants.{Accepted, Refused}
use Rattle.calls.specs.declared.Letter.{Letter}
use Rattle.calls.specs.declared.Letter.TheVariants.{None as NoLetter}
use Rattle.calls.specs.Calls.{signed_of, Signed, Word, AllInRange}
use Rattle.requests.specs.declared.Data.{Data}
use Rattle.requests.specs.declared.Data.TheVariants.{Boolean, DoubleLong, DoubleLongUnsigned, Integer, Enum}
use Rattle.requests.specs.declared.Request.{Request}
use Rattle.requests.specs.declared.Request.TheVariants.{Get, Set, Action}
use Rattle.requests.specs.Requests.{tag_of, DataInRange, RequestInRange}
use Rattle.responses.specs.declared.AccessResult.TheVariants.{ReadWriteDenied, TypeUnmatched}
use Rattle.meter.specs.declared.Meter.{Meter}
use Rattle.meter.specs.Machine.{applied, record_after}
use Rattle.meter.specs.Sound.{sound_meter}
use Rattle.meter.proofs.Laws as meter
use Rattle.server.specs.declared.Accessed.{Accessed}
use Rattle.server.specs.declared.Item.{Item}
use Rattle.server.specs.declared.Operation.{Operation}
use Rattle.server.specs.declared.Operation.TheVariants as operation
use Rattle.server.specs.Objects.{items, item_at}
use Rattle.server.specs.Naming.{number_of, named_by, named_from, named_at, named_in}
use Rattle.server.specs.Access.{accessed_by, called_on, call_at, access_by, access_on, responded_on}
use Rattle.server.specs.Laws.{named_of, Laws}
use Rattle.server.specs.History.{named_calls}
use Rattle.server.proofs.AfterSet.{threshold_kept, over_kept, under_kept}
use Rattle.server.proofs.Laws.{laws_of}

-- ---- the numbers of a named call

signed_range : (n : ℕ) → n < 4294967296 → Signed (signed_of n)
signed_range n h = go (ltb n 2147483648) refl
  where
    go : (b : Bool) → ltb n 2147483648 ≡ b → Signed (cond b (pos n) (negsuc (4294967295 - n)))
    go true e = let k = ltb-true n 2147483648 e in (refl, le-leb n 2147483647 (omega arith))
    go false e = let k = ltb-false n 2147483648 e in (le-leb (4294967295 - n) 2147483647 (omega arith), refl)

threshold_range : (t : ℤ) → is_threshold t ≡ true → Signed t
threshold_range (pos n) e = (refl, and_right (le_z (pos 0) (pos n)) (le_z (pos n) (pos 2147483647)) e)
threshold_range (negsuc n) e = absurd (let z : ◌≡◌ {A = ℕ} 0 1 = cc in omega arith)

duration_range : (n : ℕ) → is_duration n ≡ true → Word n
duration_range n e = let k = leb-true n 86400 (and_right (leb 1 n) (leb n 86400) e) in omega arith

number_range : (x : Data) → DataInRange x → number_of x < 4294967296
number_range (Boolean v) h = omega arith
number_range (DoubleLong v) h = h
number_range (DoubleLongUnsigned v) h = h
number_range (Integer v) h = omega arith
number_range (Enum v) h = omega arith

abbrev CallInRange : Call → Type 0
CallInRange c = AllInRange (c ∷ [])

abbrev NamedInRange : Option Call → Type 0
NamedInRange n = AllInRange (named_calls n)

module _ (t : ℤ) (o u : ℕ) (ht : Signed t) (ho : Word o) (hu : Word u) where
  operation_range : (k : Operation) (n : ℕ) → n < 4294967296 → CallInRange (named_by t o u k n)
  operation_range operation.SetMode n h = (omega arith, tt)
  operation_range operation.SetThreshold n h = ((signed_range n h, (ho, hu)), tt)
  operation_range operation.SetOverDuration n h = ((ht, (omega arith, hu)), tt)
  operation_range operation.SetUnderDuration n h = ((ht, (ho, omega arith)), tt)
  operation_range operation.ClearErrors n h = (omega arith, tt)
  operation_range operation.ClearAlarms n h = (omega arith, tt)
  operation_range operation.SetAlarmFilter n h = (omega arith, tt)
  operation_range operation.RemoteDisconnect n h = (tt, tt)
  operation_range operation.RemoteReconnect n h = (tt, tt)

  row_range : (k : Option Operation) (n : ℕ) → n < 4294967296 → NamedInRange (named_from t o u k n)
  row_range (Some k) n h = operation_range k n h
  row_range None n h = tt

  given_range : (x : Data) (i : Option Item) → DataInRange x → NamedInRange (named_at t o u (Some x) i)
  given_range x None h = tt
  given_range x (Some a) h = go (eqb a.tag (tag_of x))
    where
      go : (b : Bool) → NamedInRange (cond b (named_from t o u a.names (number_of x)) None)
      go true = row_range a.names (number_of x) (number_range x h)
      go false = tt

  absent_range : (i : Option Item) → NamedInRange (named_at t o u None i)
  absent_range None = tt
  absent_range (Some a) = tt

  pub named_range : (r : Request) → RequestInRange r → NamedInRange (named_in t o u r)
  named_range (Get i d) h = tt
  named_range (Set i d x) h = given_range x (item_at items false d) h.1.1
  named_range (Action i d (Some x)) h = given_range x (item_at items true d) h.1.1
  named_range (Action i d None) h = absent_range (item_at items true d)

pub sound_range : (rows : List EventRow) (m : Meter) (r : Request) → RequestInRange r → sound_meter rows m ≡ true → NamedInRange (named_of m r)
sound_range rows m r h q =
    named_range m.limiter.threshold m.limiter.over m.limiter.under (threshold_range m.limiter.threshold (threshold_kept rows m q))
    (duration_range m.limiter.over (over_kept rows m q)) (duration_range m.limiter.under (under_kept rows m q)) r h

-- ---- the record after a request is the one after the call that it names, or the same

module _ (rows : List EventRow) (table : every lawful rows ≡ true) (m : Meter) where
  called_record : (c : Call) → (called_on rows m c).meter ≡ (applied rows m c).meter
  unfolding called_on
  called_record c = go (applied rows m c).answer refl
    where
      go : (a : Answer) → (applied rows m c).answer ≡ a → (accessed_by m (applied rows m c).meter (applied rows m c).letter a).meter ≡ (applied rows m c).meter
      go Accepted e = refl
      go (Refused n) e = sym (((meter.laws).1 rows table).refused_same m c n e)

  -- a call, where the row names one
  abbrev named_on : Option Call → Accessed
  named_on n = access_by rows m (ok_or n ReadWriteDenied)

  abbrev access_at : Option Data → Option Item → Accessed
  access_at x i = access_by rows m (call_at m.limiter x i)

  named_record : (n : Option Call) → (named_on n).meter ≡ record_after rows m (named_calls n)
  unfolding record_after
  named_record (Some c) = called_record c
  named_record None = refl

  access_record : (x : Option Data) (i : Option Item)
      → (access_at x i).meter ≡ record_after rows m (named_calls (named_at m.limiter.threshold m.limiter.over m.limiter.under x i))
  unfolding record_after
  access_record x None = refl
  access_record None (Some a) = refl
  access_record (Some x) (Some a) = go (eqb a.tag (tag_of x))
    where
      n : Option Call
      n = named_from m.limiter.threshold m.limiter.over m.limiter.under a.names (number_of x)

      go : (b : Bool) → (access_by rows m (cond b (ok_or n ReadWriteDenied) (Err TypeUnmatched))).meter ≡ record_after rows m (named_calls (cond b n None))
      go true = named_record n
      go false = refl

  pub request_record : (r : Request) → (responded_on rows m r).meter ≡ record_after rows m (named_calls (named_of m r))
  unfolding responded_on access_on record_after
  request_record (Get i d) = refl
  request_record (Set i d x) = access_record (Some x) (item_at items false d)
  request_record (Action i d x) = access_record x (item_at items true d)

  -- ---- and so is the letter

  abbrev named_letter : Option Call → Letter
  named_letter (Some c) = (applied rows m c).letter
  named_letter None = NoLetter

  called_letter : (c : Call) → (called_on rows m c).letter ≡ (applied rows m c).letter
  unfolding called_on
  called_letter c = go (applied rows m c).answer refl
    where
      go : (a : Answer) → (applied rows m c).answer ≡ a → (accessed_by m (applied rows m c).meter (applied rows m c).letter a).letter ≡ (applied rows m c).letter
      go Accepted e = refl
      go (Refused n) e = sym (((meter.laws).1 rows table).refused_letter m c n e)

  named_letter_lem : (n : Option Call) → (named_on n).letter ≡ named_letter n
  named_letter_lem (Some c) = called_letter c
  named_letter_lem None = refl

  access_letter : (x : Option Data) (i : Option Item)
      → (access_at x i).letter ≡ named_letter (named_at m.limiter.threshold m.limiter.over m.limiter.under x i)
  access_letter x None = refl
  access_letter None (Some a) = refl
  access_letter (Some x) (Some a) = go (eqb a.tag (tag_of x))
    where
      n : Option Call
      n = named_from m.limiter.threshold m.limiter.over m.limiter.under a.names (number_of x)

      go : (b : Bool) → (access_by rows m (cond b (ok_or n ReadWriteDenied) (Err TypeUnmatched))).letter ≡ named_letter (cond b n None)
      go true = named_letter_lem n
      go false = refl

  request_letter_lem : (r : Request) → (responded_on rows m r).letter ≡ named_letter (named_of m r)
  unfolding responded_on access_on
  request_letter_lem (Get i d) = refl
  request_letter_lem (Set i d x) = access_letter (Some x) (item_at items false d)
  request_letter_lem (Action i d x) = access_letter x (item_at items true d)

  pub letter_named : (r : Request) (c : Call) → named_calls (named_of m r) ≡ c ∷ [] → (responded_on rows m r).letter ≡ (applied rows m c).letter
  letter_named r c e = request_letter_lem r ∙ go (named_of m r) e
    where
      go : (n : Option Call) → named_calls n ≡ c ∷ [] → named_letter n ≡ (applied rows m c).letter
      go (Some d) e = let z : d ≡ c = cc in ap (λ (x : Call). (applied rows m x).letter) z
      go None e = absurd (let z : ◌≡◌ {A = ℕ} 0 1 = cc in omega arith)

  pub letter_unnamed : (r : Request) → named_calls (named_of m r) ≡ [] → (responded_on rows m r).letter ≡ NoLetter
  letter_unnamed r e = request_letter_lem r ∙ go (named_of m r) e
    where
      go : (n : Option Call) → named_calls n ≡ [] → named_letter n ≡ NoLetter
      go (Some d) e = absurd (nil≢cons (sym e))
      go None e = refl

  pub kept_sound : (r : Request) → Sized m.logs → RequestInRange r → sound_meter rows m ≡ true → sound_meter rows (responded_on rows m r).meter ≡ true
  unfolding record_after
  kept_sound r sized h q = ap (sound_meter rows) (request_record r) ∙ go (named_of m r) (sound_range rows m r h q)
    where
      go : (n : Option Call) → NamedInRange n → sound_meter rows (record_after rows m (named_calls n)) ≡ true
      go (Some c) k = ((meter.laws).1 rows table).kept_sound m c sized k.0 q
      go None k = q

pub laws : Laws
laws = record { by_table = laws_of; kept_sound = λ rows table m r sized h q. kept_sound rows table m r sized h q }
