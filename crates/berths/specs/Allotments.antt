-- What each berth of a column gets, and where a column is refused (document 02, A10).
use Rattle.std.specs.Prelude.{ℕ, ◌+◌, ◌-◌, min, Bool, ◌||◌, cond, List, [], ◌∷◌, eqb, ltb, ℤ, pos, length}
use Rattle.std.specs.Int.Signed.{lt_z}
use Rattle.base.specs.Numbers.{positive_part}
use Rattle.base.specs.Tests.{any}
use Rattle.berths.specs.declared.Berth.{Berth}

-- 'Each berth first gets the smaller of demand and guarantee', and 'Negative demand counts as zero'
abbrev pub first_part : Berth → ℕ
first_part b = min (positive_part b.demand) (positive_part b.guarantee)

-- '.. up to the smaller of demand and cap'
abbrev pub wanted : Berth → ℕ
wanted b = min (positive_part b.demand) (positive_part b.cap)

-- of what is left of the limit, what a berth gets beyond its first part: the cap bounds both together
abbrev pub beyond_first : ℕ → Berth → ℕ
beyond_first left b = min left (wanted b - first_part b)

-- 'only allotments change'
abbrev pub with_allotment : Berth → ℕ → Berth
with_allotment b n = record { guarantee = b.guarantee; cap = b.cap; demand = b.demand; allotment = pos n }

-- a number of each berth, summed over all: with no bound of 32 bits
unfoldable pub sum : (Berth → ℕ) → List Berth → ℕ
sum f [] = 0
sum f (b ∷ bs) = f b + sum f bs

-- 'what is left of the column's limit goes in list order'
unfoldable pub allotted : ℕ → List Berth → List Berth
allotted left [] = []
allotted left (b ∷ bs) = with_allotment b (first_part b + beyond_first left b) ∷ allotted (left - beyond_first left b) bs

-- '23, a negative .. guarantee or cap, or a guarantee above its cap'
abbrev pub is_faulty : ℤ → ℤ → Bool
is_faulty guarantee cap = (lt_z guarantee (pos 0) || lt_z cap (pos 0)) || lt_z cap guarantee

-- one of the berths is
abbrev pub any_faulty : List Berth → Bool
any_faulty bs = any (λ b. is_faulty b.guarantee b.cap) bs

-- '24, guarantees summing above the limit'
abbrev pub guarantees : List Berth → ℕ
guarantees bs = sum (λ b. positive_part b.guarantee) bs

-- '22, no berth or over sixteen; 23, a negative limit, ..; 24, ..; tested in that order', and 0 if none of them
unfoldable pub refusal : ℤ → List Berth → ℕ
refusal limit bs =
    cond (ltb (length bs) 1 || ltb 16 (length bs)) 22
    (cond (lt_z limit (pos 0) || any_faulty bs) 23
    (cond (ltb (positive_part limit) (guarantees bs)) 24
    0))

-- 'A list of berth records, lent and filled in place': with its allotments, or on a refusal as it was
unfoldable pub filled : ℤ → List Berth → List Berth
filled limit bs = cond (eqb (refusal limit bs) 0) (allotted (positive_part limit - sum first_part bs) bs) bs
