-- Reading and writing of requests are inverse.
use mathlib.Core.Path.{◌≡◌, refl, ap, ◌∙◌, sym}
use mathlib.Core.Bool.{Bool, true, false, ◌&&◌, cond}
use mathlib.Core.List.{List, [], ◌∷◌, ◌++◌, append-nil}
use Prim.Native.Nat.{ℕ, zero, suc, ◌<◌, ◌≤◌}
use native.Mathlib.Omega.{arith}
use lib.Dec.{eqb, ltb}
use lib.ListN.{length, take, drop, length-append, length-drop, take-append-drop}
use borrow.Author.Tests.{le-ltb, eqb-true, ltb-false}
use Rattle.base.proofs.Bools.{and_left, and_right}
use Rattle.codec.specs.Format.{num_at}
use Rattle.codec.specs.Lawful.{Lawful, Bytes}
use Rattle.codec.proofs.Formats.{num_lawful, pair_lawful}
use Rattle.std.specs.Prelude.{Option, Some, None, Ok}
use Rattle.requests.specs.declared.Data.{Data}
use Rattle.requests.specs.declared.Data.TheVariants.{Boolean, DoubleLong, DoubleLongUnsigned, Integer, Enum}
use Rattle.requests.specs.declared.Descriptor.{Descriptor}
use Rattle.requests.specs.declared.Request.{Request}
use Rattle.requests.specs.declared.Request.TheVariants.{Get, Set, Action}
use Rattle.requests.specs.Requests.{Head, head_format, short_format, long_format, data_bytes, head_of, head_bytes, request_bytes, short_data, long_data, data_in}
use Rattle.requests.specs.Requests.{not_whole, descriptor_of, descriptor_in, setting, acting, request_of, request_in, DataInRange, DescriptorInRange, RequestInRange}
use Rattle.requests.specs.Laws.{Laws}

head_lawful : Lawful head_format
head_lawful =
    pair_lawful (num_lawful 1) (pair_lawful (num_lawful 1) (pair_lawful (num_lawful 1) (pair_lawful (num_lawful 2)
    (pair_lawful (num_lawful 6) (pair_lawful (num_lawful 1) (num_lawful 1))))))

short_lawful : Lawful short_format
short_lawful = pair_lawful (num_lawful 1) (num_lawful 1)

long_lawful : Lawful long_format
long_lawful = pair_lawful (num_lawful 1) (num_lawful 4)

-- ---- bytes that are read as a request are its bytes, and its numbers are in their ranges

-- what is shown of a request that bytes with this head are read as, and of the value behind the head
record Whole (tag flag i : ℕ) (d : Descriptor) (tail : List ℕ) (r : Request) : Type 0 where
  pub back : request_bytes r ≡ head_bytes tag i d flag ++ tail
  pub range : RequestInRange r

record Behind (tail : List ℕ) (v : Data) : Type 0 where
  pub back : data_bytes v ≡ tail
  pub range : DataInRange v

-- a request by its tag: what stands behind the head
module _ (tag flag : ℕ) (bare : Bool) (i : ℕ) (d : Descriptor) (x : Option Data) (tail : List ℕ) (r : Request) (hi : i < 256) (hd : DescriptorInRange d)
    (nothing : bare ≡ true → tail ≡ []) (value : (v : Data) → x ≡ Some v → Behind tail v) where
  abbrev Read : Type 0
  Read = Whole tag flag i d tail r

  got : (t : Bool) → bare && eqb flag 0 ≡ t → tag ≡ 192 → cond t (Ok (Get i d)) not_whole ≡ Ok r → Read
  unfolding request_bytes
  got true q e h =
      let z : Get i d ≡ r = cc in
      let f : flag ≡ 0 = eqb-true flag 0 (and_right bare (eqb flag 0) q) in
      record {
        back = rw (← z, e, f, nothing (and_left bare (eqb flag 0) q)) (sym (append-nil (head_bytes 192 i d 0)));
        range = rw (← z) (hi, hd);
      }
  got false q e h = absurd (let z : ◌≡◌ {A = ℕ} 0 1 = cc in omega arith)

  was_set : (t : Bool) → eqb flag 0 ≡ t → tag ≡ 193 → (y : Option Data) → x ≡ y → cond t (setting i d y) not_whole ≡ Ok r → Read
  unfolding request_bytes
  was_set true q e (Some v) w h =
      let z : Set i d v ≡ r = cc in
      let b = value v w in
      record { back = rw (← z, e, eqb-true flag 0 q, b.back); range = rw (← z) (hi, (hd, b.range)) }
  was_set true q e None w h = absurd (let z : ◌≡◌ {A = ℕ} 0 1 = cc in omega arith)
  was_set false q e y w h = absurd (let z : ◌≡◌ {A = ℕ} 0 1 = cc in omega arith)

  acted : (t u : Bool) → eqb flag 0 && bare ≡ t → eqb flag 1 ≡ u → tag ≡ 195 → (y : Option Data) → x ≡ y
      → cond t (Ok (Action i d None)) (cond u (acting i d y) not_whole) ≡ Ok r → Read
  unfolding request_bytes
  acted true u q p e y w h =
      let z : Action i d None ≡ r = cc in
      let f : flag ≡ 0 = eqb-true flag 0 (and_left (eqb flag 0) bare q) in
      record {
        back = rw (← z, e, f, nothing (and_right (eqb flag 0) bare q)) (sym (append-nil (head_bytes 195 i d 0)));
        range = rw (← z) (hi, hd);
      }
  acted false true q p e (Some v) w h =
      let z : Action i d (Some v) ≡ r = cc in
      let b = value v w in
      record { back = rw (← z, e, eqb-true flag 1 p, b.back); range = rw (← z) (hi, (hd, b.range)) }
  acted false true q p e None w h = absurd (let z : ◌≡◌ {A = ℕ} 0 1 = cc in omega arith)
  acted false false q p e y w h = absurd (let z : ◌≡◌ {A = ℕ} 0 1 = cc in omega arith)

  by_tag : request_of tag flag bare i d x ≡ Ok r → Read
  by_tag h = go (eqb tag 192) (eqb tag 193) (eqb tag 195) refl refl refl h
    where
      go : (a b c : Bool) → eqb tag 192 ≡ a → eqb tag 193 ≡ b → eqb tag 195 ≡ c
          → cond a (cond (bare && eqb flag 0) (Ok (Get i d)) not_whole) (cond b (cond (eqb flag 0) (setting i d x) not_whole)
          (cond c (cond (eqb flag 0 && bare) (Ok (Action i d None)) (cond (eqb flag 1) (acting i d x) not_whole)) not_whole)) ≡ Ok r
          → Read
      go true b c p q s g = got (bare && eqb flag 0) refl (eqb-true tag 192 p) g
      go false true c p q s g = was_set (eqb flag 0) refl (eqb-true tag 193 q) x refl g
      go false false true p q s g = acted (eqb flag 0 && bare) (eqb flag 1) refl refl (eqb-true tag 195 s) x refl g
      go false false false p q s g = absurd (let z : ◌≡◌ {A = ℕ} 0 1 = cc in omega arith)

-- a value that is read is what stands there
short_back : (t v : ℕ) (w : Data) → v < 256 → short_data t v ≡ Some w → Behind (short_format.enc (t, v)) w
short_back t v w hv h = go (eqb t 3) (eqb t 15) (eqb t 22) refl refl refl h
  where
    go : (a b c : Bool) → eqb t 3 ≡ a → eqb t 15 ≡ b → eqb t 22 ≡ c
        → cond a (Some (Boolean v)) (cond b (Some (Integer v)) (cond c (Some (Enum v)) None)) ≡ Some w → Behind (short_format.enc (t, v)) w
    go true b c p q s g = let z : Boolean v ≡ w = cc in record { back = rw (← z, eqb-true t 3 p); range = rw (← z) hv }
    go false true c p q s g = let z : Integer v ≡ w = cc in record { back = rw (← z, eqb-true t 15 q); range = rw (← z) hv }
    go false false true p q s g = let z : Enum v ≡ w = cc in record { back = rw (← z, eqb-true t 22 s); range = rw (← z) hv }
    go false false false p q s g = absurd (let z : ◌≡◌ {A = ℕ} 0 1 = cc in omega arith)

long_back : (t v : ℕ) (w : Data) → v < 4294967296 → long_data t v ≡ Some w → Behind (long_format.enc (t, v)) w
long_back t v w hv h = go (eqb t 5) (eqb t 6) refl refl h
  where
    go : (a b : Bool) → eqb t 5 ≡ a → eqb t 6 ≡ b → cond a (Some (DoubleLong v)) (cond b (Some (DoubleLongUnsigned v)) None) ≡ Some w
        → Behind (long_format.enc (t, v)) w
    go true b p q g = let z : DoubleLong v ≡ w = cc in record { back = rw (← z, eqb-true t 5 p); range = rw (← z) hv }
    go false true p q g = let z : DoubleLongUnsigned v ≡ w = cc in record { back = rw (← z, eqb-true t 6 q); range = rw (← z) hv }
    go false false p q g = absurd (let z : ◌≡◌ {A = ℕ} 0 1 = cc in omega arith)

take_all : (k : ℕ) (xs : List ℕ) → length xs ≡ k → take k xs ≡ xs
take_all zero [] h = refl
take_all zero (x ∷ xs) h = absurd (omega arith)
take_all (suc k) [] h = absurd (omega arith)
take_all (suc k) (x ∷ xs) h = ap (λ (l : List ℕ). x ∷ l) (take_all k xs (omega arith))

module _ (s : List ℕ) (b : Bytes s) where
  data_back : (v : Data) → data_in s ≡ Some v → Behind (drop 13 s) v
  unfolding data_in
  data_back v h = go (eqb (length s) 15) (eqb (length s) 18) refl refl h
    where
      go : (t u : Bool) → eqb (length s) 15 ≡ t → eqb (length s) 18 ≡ u
          → cond t (short_data (short_format.dec s 13).0 (short_format.dec s 13).1)
          (cond u (long_data (long_format.dec s 13).0 (long_format.dec s 13).1) None) ≡ Some v → Behind (drop 13 s) v
      go true u p q g =
          let n = eqb-true (length s) 15 p in
          let w = short_back _ _ v (short_lawful.held_read s 13 b refl).1 g in
          record {
            back = w.back ∙ short_lawful.write_read s 13 b refl (omega arith) ∙ take_all 2 (drop 13 s) (omega (arith, length-drop 13 s));
            range = w.range;
          }
      go false true p q g =
          let n = eqb-true (length s) 18 q in
          let w = long_back _ _ v (long_lawful.held_read s 13 b refl).1 g in
          record {
            back = w.back ∙ long_lawful.write_read s 13 b refl (omega arith) ∙ take_all 5 (drop 13 s) (omega (arith, length-drop 13 s));
            range = w.range;
          }
      go false false p q g = absurd (let z : ◌≡◌ {A = ℕ} 0 1 = cc in omega arith)

  bare_tail : eqb (length s) 13 ≡ true → drop 13 s ≡ []
  bare_tail h = none_left_lem (drop 13 s) (let n = eqb-true (length s) 13 h in omega (arith, length-drop 13 s))
    where
      none_left_lem : (xs : List ℕ) → length xs ≡ 0 → xs ≡ []
      none_left_lem [] e = refl
      none_left_lem (x ∷ xs) e = absurd (omega arith)

  head : Head
  head = head_format.dec s 0

  head_back : 13 ≤ length s → num_at 1 s 1 ≡ 1
      → head_bytes (head_format.dec s 0).0 (head_format.dec s 0).1.1.0 (descriptor_in s) (head_format.dec s 0).1.1.1.1.1.1 ++ drop 13 s ≡ s
  unfolding descriptor_in
  head_back h e =
      let h0 = head_format.dec s 0 in
      let k : head_bytes h0.0 h0.1.1.0 (descriptor_of h0) h0.1.1.1.1.1.1 ≡ take 13 s =
      ap (λ (n : ℕ). head_format.enc (h0.0, (n, h0.1.1))) (sym e) ∙ head_lawful.write_read s 0 b refl h in
      ap (λ (l : List ℕ). l ++ drop 13 s) k ∙ take-append-drop 13 s

  descriptor_range : DescriptorInRange (descriptor_in s)
  unfolding descriptor_in
  descriptor_range =
      let h = head_lawful.held_read s 0 b refl in
      (h.1.1.1.0, (h.1.1.1.1.0, h.1.1.1.1.1.0))

  was_read : (r : Request) → request_in s ≡ Ok r → (request_bytes r ≡ s) × RequestInRange r
  unfolding request_in
  was_read r h = go (ltb (length s) 13) (eqb (num_at 1 s 1) 1) refl refl h
    where
      go : (t u : Bool) → ltb (length s) 13 ≡ t → eqb (num_at 1 s 1) 1 ≡ u
          → cond t not_whole (cond u (request_of (head_format.dec s 0).0 (head_format.dec s 0).1.1.1.1.1.1 (eqb (length s) 13)
          (head_format.dec s 0).1.1.0 (descriptor_in s) (data_in s)) not_whole) ≡ Ok r → (request_bytes r ≡ s) × RequestInRange r
      go true u p q g = absurd (let z : ◌≡◌ {A = ℕ} 0 1 = cc in omega arith)
      go false true p q g =
          let w = by_tag _ _ (eqb (length s) 13) _ (descriptor_in s) (data_in s) (drop 13 s) r (head_lawful.held_read s 0 b refl).1.1.0 descriptor_range
          bare_tail data_back g in
          (w.back ∙ head_back (ltb-false (length s) 13 p) (eqb-true (num_at 1 s 1) 1 q), w.range)
      go false false p q g = absurd (let z : ◌≡◌ {A = ℕ} 0 1 = cc in omega arith)

-- ---- what is written is read

module _ (tag flag i : ℕ) (d : Descriptor) (tail : List ℕ) (ht : tag < 256) (hf : flag < 256) (hi : i < 256) (hd : DescriptorInRange d) where
  abbrev bytes : List ℕ
  bytes = head_bytes tag i d flag ++ tail

  fits : head_format.Holds (head_of tag i d flag)
  fits = (ht, (omega arith, (hi, (hd.0, (hd.1.0, (hd.1.1, hf))))))

  head_length : length (head_bytes tag i d flag) ≡ 13
  head_length = head_lawful.length_enc (head_of tag i d flag) fits

  head_read : head_format.dec bytes 0 ≡ head_of tag i d flag
  head_read = head_lawful.read_written (head_of tag i d flag) fits [] tail

  by_parts : request_in bytes ≡ request_of tag flag (eqb (length bytes) 13) i d (data_in bytes)
  unfolding request_in descriptor_in
  by_parts =
      let n : 13 ≤ length bytes = omega (arith, length-append (head_bytes tag i d flag) tail, head_length) in
      let by_head : Head → _ = λ (h : Head). cond (eqb h.1.0 1)
      (request_of h.0 h.1.1.1.1.1.1 (eqb (length bytes) 13) h.1.1.0 (descriptor_of h) (data_in bytes)) not_whole in
      ap (λ (t : Bool). cond t not_whole (by_head (head_format.dec bytes 0))) (le-ltb (length bytes) 13 n) ∙ ap by_head head_read

-- a value behind thirteen bytes
module _ (p : List ℕ) (n : length p ≡ 13) where
  short_there : (t v : ℕ) → t < 256 → v < 256 → data_in (p ++ short_format.enc (t, v)) ≡ short_data t v
  unfolding data_in
  short_there t v a b =
      let s = p ++ short_format.enc (t, v) in
      let l : length s ≡ 15 = omega (arith, length-append p (short_format.enc (t, v)), short_lawful.length_enc (t, v) (a, b)) in
      let r : short_format.dec s 13 ≡ (t, v) = rw (append-nil, n) at (short_lawful.read_written (t, v) (a, b) p []) in
      ap (λ (k : ℕ). cond (eqb k 15) (short_data (short_format.dec s 13).0 (short_format.dec s 13).1)
      (cond (eqb k 18) (long_data (long_format.dec s 13).0 (long_format.dec s 13).1) None)) l
      ∙ ap (λ (q : ℕ × ℕ). short_data q.0 q.1) r

  long_there : (t v : ℕ) → t < 256 → v < 4294967296 → data_in (p ++ long_format.enc (t, v)) ≡ long_data t v
  unfolding data_in
  long_there t v a b =
      let s = p ++ long_format.enc (t, v) in
      let l : length s ≡ 18 = omega (arith, length-append p (long_format.enc (t, v)), long_lawful.length_enc (t, v) (a, b)) in
      let r : long_format.dec s 13 ≡ (t, v) = rw (append-nil, n) at (long_lawful.read_written (t, v) (a, b) p []) in
      ap (λ (k : ℕ). cond (eqb k 15) (short_data (short_format.dec s 13).0 (short_format.dec s 13).1)
      (cond (eqb k 18) (long_data (long_format.dec s 13).0 (long_format.dec s 13).1) None)) l
      ∙ ap (λ (q : ℕ × ℕ). long_data q.0 q.1) r

  data_there : (v : Data) → DataInRange v → data_in (p ++ data_bytes v) ≡ Some v
  data_there (Boolean v) h = short_there 3 v (omega arith) h
  data_there (DoubleLong v) h = long_there 5 v (omega arith) h
  data_there (DoubleLongUnsigned v) h = long_there 6 v (omega arith) h
  data_there (Integer v) h = short_there 15 v (omega arith) h
  data_there (Enum v) h = short_there 22 v (omega arith) h

-- nothing behind the head
bare_read : (tag i : ℕ) (d : Descriptor) → tag < 256 → i < 256 → DescriptorInRange d
    → request_in (head_bytes tag i d 0) ≡ request_of tag 0 true i d (data_in (head_bytes tag i d 0))
bare_read tag i d t hi h =
    let s = head_bytes tag i d 0 in
    let k : request_in s ≡ request_of tag 0 (eqb (length s) 13) i d (data_in s) = rw (append-nil s) at (by_parts tag 0 i d [] t (omega arith) hi h) in
    k ∙ ap (λ (n : ℕ). request_of tag 0 (eqb n 13) i d (data_in s)) (head_length tag 0 i d [] t (omega arith) hi h)

read_written : (r : Request) → RequestInRange r → request_in (request_bytes r) ≡ Ok r
unfolding request_bytes
read_written (Get i d) h = bare_read 192 i d (omega arith) h.0 h.1
read_written (Set i d x) h =
    by_parts 193 0 i d (data_bytes x) (omega arith) (omega arith) h.0 h.1.0
    ∙ ap (setting i d) (data_there (head_bytes 193 i d 0) (head_length 193 0 i d [] (omega arith) (omega arith) h.0 h.1.0) x h.1.1)
read_written (Action i d None) h = bare_read 195 i d (omega arith) h.0 h.1
read_written (Action i d (Some x)) h =
    by_parts 195 1 i d (data_bytes x) (omega arith) (omega arith) h.0 h.1.0
    ∙ ap (acting i d) (data_there (head_bytes 195 i d 1) (head_length 195 1 i d [] (omega arith) (omega arith) h.0 h.1.0) x h.1.1)

pub laws : Laws
laws =
    record {
      read_written = read_written;
      written_read = λ s r b h. (was_read s b r h).0;
      read_in_range = λ s r b h. (was_read s b r h).1;
    }
