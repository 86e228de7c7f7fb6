-- An input in two parts: its records, their lines and the line `short` are those of the parts.
use Rattle.base.proofs.Prelude.{◌≡◌, refl, sym, ap, ◌∙◌, List, [], ◌∷◌, ◌++◌, append_assoc, ℕ, zero, suc, ◌+◌, ◌-◌, ◌*◌, ◌/◌, ◌≤◌, add-zero, add-suc, add_assoc}
use Rattle.base.proofs.Prelude.{suc-mul, arith, length, length-append, List·getD-append, get_or-append-add}
use Rattle.events.specs.Table.{built_in}
use Rattle.codec.specs.Format.{Format, num_at, decs}
use Rattle.codec.proofs.Stores.{decs_append}
use Rattle.calls.specs.declared.Command.{Command}
use Rattle.meter.specs.declared.Meter.{Meter}
use Rattle.meter.specs.Machine.{record_after}
use Rattle.replay.specs.Input.{record_format}
use Rattle.replay.specs.Replay.{first_in, later_in, records_from, calls_in, next_of, meter_after}
use Rattle.replay.proofs.{Records.record_numbers, Runs.{meter_next, records_next, records_end}}
use Rattle.listing.specs.Lines.{lines_from}

-- ---- values that are read from the first part, and from the second

module _ {A : Type 0} (F : Format A) (p s : List ℕ) where
  decs_inside : ((at : ℕ) → at + F.width ≤ length p → F.dec (p ++ s) at ≡ F.dec p at) → (n at : ℕ) → at + n * F.width ≤ length p
      → decs F n (p ++ s) at ≡ decs F n p at
  decs_inside h zero at le = refl
  decs_inside h (suc n) at le =
      let more : at + (n * F.width + F.width) ≤ length p = rw suc-mul at le in
      rw (h at (omega arith), decs_inside h n (at + F.width) (omega arith))

  decs_behind : ((at : ℕ) → F.dec (p ++ s) (length p + at) ≡ F.dec s at) → (n at : ℕ) → decs F n (p ++ s) (length p + at) ≡ decs F n s at
  decs_behind h zero at = refl
  decs_behind h (suc n) at = rw (h at, add_assoc, decs_behind h n (at + F.width))

length_decs : {A : Type 0} (F : Format A) (n : ℕ) (s : List ℕ) (at : ℕ) → length (decs F n s at) ≡ n
length_decs F zero s at = refl
length_decs F (suc n) s at = ap suc (length_decs F n s (at + F.width))

module _ (p s : List ℕ) where
  number_inside : (w at : ℕ) → at + w ≤ length p → num_at w (p ++ s) at ≡ num_at w p at
  unfolding num_at
  number_inside zero at h = refl
  number_inside (suc k) at h = rw (List·getD-append p s 0 at (omega arith), number_inside k (suc at) (omega arith))

  number_behind : (w at : ℕ) → num_at w (p ++ s) (length p + at) ≡ num_at w s at
  unfolding num_at
  number_behind zero at = refl
  number_behind (suc k) at = rw (get_or-append-add p s at 0, ← add-suc (length p) at, number_behind k (suc at))

  record_inside : (at : ℕ) → at + 21 ≤ length p → record_format.dec (p ++ s) at ≡ record_format.dec p at
  record_inside at h =
      record_numbers (p ++ s) at
      ∙ rw (number_inside 1 at (omega arith), number_inside 4 (at + 1) (omega arith), number_inside 4 (at + 5) (omega arith))
      (rw (number_inside 4 (at + 9) (omega arith), number_inside 4 (at + 13) (omega arith), number_inside 4 (at + 17) (omega arith))
      (sym (record_numbers p at)))

  record_behind : (at : ℕ) → record_format.dec (p ++ s) (length p + at) ≡ record_format.dec s at
  record_behind at = simp (add_assoc, number_behind)

  -- ---- the records

  pub first_inside : 21 ≤ length p → first_in (p ++ s) ≡ first_in p
  first_inside h = record_inside 0 (omega arith)

  pub later_behind : length p ≡ 21 → later_in (p ++ s) ≡ records_from 0 s
  later_behind h =
      let n : length (p ++ s) / 21 - 1 ≡ length s / 21 - 0 = omega (arith, length-append p s) in
      let at : 21 ≡ length p + 0 = omega arith in
      ap (λ (k : ℕ). decs record_format k (p ++ s) 21) n
      ∙ ap (λ (a : ℕ). decs record_format (length s / 21 - 0) (p ++ s) a) at
      ∙ decs_behind record_format p s record_behind (length s / 21 - 0) 0

  module _ (k : ℕ) (whole : length p ≡ k * 21) where
    pub records_cat : records_from 0 (p ++ s) ≡ records_from 0 p ++ records_from 0 s
    records_cat =
        let n : length (p ++ s) / 21 - 0 ≡ k + (length s / 21 - 0) = omega (arith, length-append p s) in
        let m : k ≡ length p / 21 - 0 = omega arith in
        let at : 0 + k * 21 ≡ length p + 0 = omega arith in
        let inside : decs record_format k (p ++ s) 0 ≡ records_from 0 p =
        decs_inside record_format p s record_inside k 0 (omega arith) ∙ ap (λ (j : ℕ). decs record_format j p 0) m in
        let behind : decs record_format (length s / 21 - 0) (p ++ s) (0 + k * 21) ≡ records_from 0 s =
        ap (λ (a : ℕ). decs record_format (length s / 21 - 0) (p ++ s) a) at
        ∙ decs_behind record_format p s record_behind (length s / 21 - 0) 0 in
        ap (λ (j : ℕ). decs record_format j (p ++ s) 0) n
        ∙ decs_append record_format k (length s / 21 - 0) (p ++ s) 0
        ∙ (λ i. inside i ++ behind i)

    pub records_count : length (records_from 0 p) ≡ k
    records_count = length_decs record_format (length p / 21 - 0) p 0 ∙ omega arith

-- the record at the start, and those behind it
pub record_ahead : (p s : List ℕ) → length p ≡ 21 → records_from 0 (p ++ s) ≡ record_format.dec p 0 ∷ records_from 0 s
record_ahead p s h =
    let first : records_from 0 p ≡ record_format.dec p 0 ∷ [] =
    records_next p 0 (omega arith) ∙ ap (λ (rs : List Command). record_format.dec p 0 ∷ rs) (records_end p 1 (omega arith)) in
    records_cat p s 1 (omega arith) ∙ ap (λ (rs : List Command). rs ++ records_from 0 s) first

-- ---- their lines

no_record : (m : Meter) → meter_after built_in m [] ≡ m
unfolding record_after calls_in
no_record m = refl

pub lines_cat : (position : ℕ) (m : Meter) (rs ts : List Command)
    → lines_from position m (rs ++ ts) ≡ lines_from position m rs ++ lines_from (position + length rs) (meter_after built_in m rs) ts
unfolding lines_from
lines_cat position m [] ts = rw (add-zero, no_record m)
lines_cat position m (r ∷ rs) ts =
    let at : position + suc (length rs) ≡ position + 1 + length rs = omega arith in
    rw (at, meter_next built_in m r rs, append_assoc, lines_cat (position + 1) (next_of built_in m r).meter rs ts)
