-- What the allotments of a column satisfy, whatever its limit and its berths. The laws name the fields of the berths, and no definition by which
-- the allotments are made.
use Rattle.std.specs.Prelude.{◌≡◌, List, map, ℕ, ◌≤◌, ◌<◌, min, ℤ, pos, length, get_or}
use Rattle.base.specs.Numbers.{positive_part}
use Rattle.berths.specs.declared.Berth.{Berth}
use Rattle.berths.specs.Allotments.{sum, refusal, filled}

-- the berth at i, counted from 0
abbrev pub berth_at : List Berth → ℕ → Berth
berth_at bs i = get_or bs i (record { guarantee = pos 0; cap = pos 0; demand = pos 0; allotment = pos 0 })

-- its fields as numbers of watts; the allotment is one after the column is filled
abbrev pub guarantee_at : List Berth → ℕ → ℕ
guarantee_at bs i = positive_part (berth_at bs i).guarantee

abbrev pub cap_at : List Berth → ℕ → ℕ
cap_at bs i = positive_part (berth_at bs i).cap

abbrev pub demand_at : List Berth → ℕ → ℕ
demand_at bs i = positive_part (berth_at bs i).demand

abbrev pub allotment_at : List Berth → ℕ → ℕ
allotment_at bs i = positive_part (berth_at bs i).allotment

-- what a column's berths are judged by
abbrev pub bounds_of : Berth → ℤ × ℤ
bounds_of b = (b.guarantee, b.cap)

-- cs are the berths bs with their allotments
pub record Shares (limit : ℤ) (bs cs : List Berth) : Type 0 where
  pub same_length : length cs ≡ length bs
  -- 'only allotments change', and none is negative
  pub only_allotments : (i : ℕ) → i < length bs → berth_at cs i
      ≡ record {
        guarantee = (berth_at bs i).guarantee;
        cap = (berth_at bs i).cap;
        demand = (berth_at bs i).demand;
        allotment = pos (allotment_at cs i);
      }
  -- 'Whatever the neighbours draw, a berth gets at least that first part ..': whatever the other berths of the list are
  pub at_least_first : (i : ℕ) → i < length bs → min (demand_at bs i) (guarantee_at bs i) ≤ allotment_at cs i
  -- '.. and never above its cap', nor above its demand
  pub at_most_cap : (i : ℕ) → i < length bs → allotment_at cs i ≤ cap_at bs i
  pub at_most_demand : (i : ℕ) → i < length bs → allotment_at cs i ≤ demand_at bs i
  -- '.. and the allotments never pass the limit'
  pub at_most_limit : sum (λ b. positive_part b.allotment) cs ≤ positive_part limit
  -- nothing is held back: together they get the limit, or all that they want if that is less
  pub nothing_held_back : sum (λ b. positive_part b.allotment) cs
      ≡ min (positive_part limit) (sum (λ b. min (positive_part b.demand) (positive_part b.cap)) bs)
  -- 'in list order': behind a berth that gets less than it wants, none gets more than its first part
  pub in_list_order : (i j : ℕ) → i < j → j < length bs → allotment_at cs i < min (demand_at bs i) (cap_at bs i)
      → allotment_at cs j ≡ min (demand_at bs j) (guarantee_at bs j)

-- of every column
pub record LawsOf (limit : ℤ) (bs : List Berth) : Type 0 where
  -- one that is not refused has all of these, and no other list has them
  pub shared : refusal limit bs ≡ 0 → Shares limit bs (filled limit bs)
  pub no_other : refusal limit bs ≡ 0 → (cs : List Berth) → Shares limit bs cs → cs ≡ filled limit bs
  -- a refusal changes nothing
  pub refused_same : (refusal limit bs ≡ 0 → ⊥) → filled limit bs ≡ bs
  -- whether it is refused, and by which number, depends on no demand and on no allotment that stood there before
  pub same_refusal : (cs : List Berth) → map bounds_of cs ≡ map bounds_of bs → refusal limit cs ≡ refusal limit bs

-- of them all
abbrev pub Laws : Type 0
Laws = (limit : ℤ) (bs : List Berth) → LawsOf limit bs
