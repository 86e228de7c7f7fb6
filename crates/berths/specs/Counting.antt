-- What the code carries along the berths: whether one is faulty, and what guarantees and first parts leave of the limit.
use Rattle.std.specs.Prelude.{ℕ, ◌+◌, ◌-◌, Bool, false, ◌||◌, cond, List, [], ◌∷◌, eqb, ltb, ℤ, pos, Result, Ok, Err}
use Rattle.std.specs.Int.Signed.{lt_z}
use Rattle.base.specs.Numbers.{positive_part}
use Rattle.calls.specs.declared.Answer.{Answer}
use Rattle.calls.specs.declared.Answer.TheVariants.{Accepted, Refused}
use Rattle.berths.specs.declared.Berth.{Berth}
use Rattle.berths.specs.declared.Column.{Column}
use Rattle.berths.specs.declared.ColumnRefusal.{ColumnRefusal}
use Rattle.berths.specs.declared.ColumnRefusal.TheVariants.{BerthCount, BerthPower, GuaranteeSum}
use Rattle.berths.specs.declared.Share.{Share}
use Rattle.berths.specs.Allotments.{first_part, beyond_first, is_faulty}

-- no berth, or more than sixteen
abbrev pub is_wrong_count : ℕ → Bool
is_wrong_count n = ltb n 1 || ltb 16 n

-- a column with no berth yet
abbrev pub at_limit : ℤ → Column
at_limit limit = record { faulty = lt_z limit (pos 0); short = false; room = positive_part limit; left = positive_part limit }

-- one berth more
abbrev pub with_berth : Column → Berth → Column
with_berth c b =
    record {
      faulty = c.faulty || is_faulty b.guarantee b.cap;
      short = c.short || ltb c.room (positive_part b.guarantee);
      room = c.room - positive_part b.guarantee;
      left = c.left - first_part b;
    }

-- all berths of a list, one after the other
unfoldable pub with_berths : Column → List Berth → Column
with_berths c [] = c
with_berths c (b ∷ bs) = with_berths (with_berth c b) bs

-- each refusal by its number in the document
abbrev pub refusal_number : ColumnRefusal → ℕ
refusal_number BerthCount = 22
refusal_number BerthPower = 23
refusal_number GuaranteeSum = 24

-- what is left of the limit when all berths have been counted, or why they are refused: 23 before 24
abbrev pub left_over : Column → Result ℕ ColumnRefusal
left_over c = cond c.faulty (Err BerthPower) (cond c.short (Err GuaranteeSum) (Ok c.left))

-- a berth's share of what is left
abbrev pub share_of : ℕ → Berth → Share
share_of left b = record { allotment = pos (first_part b + beyond_first left b); left = left - beyond_first left b }

-- accepted by 0, else refused by its number
abbrev pub answered : ℕ → Answer
answered n = cond (eqb n 0) Accepted (Refused n)
