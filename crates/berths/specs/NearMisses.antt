-- Columns one step from accepted, each refusal at its edge, and a column shared out by hand. Computed.
use Rattle.std.specs.Prelude.{◌≡◌, List, [], ◌∷◌, ◌++◌, map, ℕ, ℤ, pos, negsuc, replicate}
use Rattle.berths.specs.declared.Berth.{Berth}
use Rattle.berths.specs.Allotments.{refusal, filled}

-- a berth by guarantee, cap, demand and allotment
abbrev pub berth : ℤ → ℤ → ℤ → ℤ → Berth
berth g c d a = record { guarantee = g; cap = c; demand = d; allotment = a }

-- one that demands 5 and has nothing yet, by guarantee and cap
abbrev pub demanding : ℤ → ℤ → Berth
demanding g c = berth g c (pos 5) (pos 0)

-- n of them alike
abbrev pub alike : ℕ → ℤ → ℤ → List Berth
alike n g c = replicate n (demanding g c)

pub record NearMisses : Type 0 where
  -- '22, no berth or over sixteen', before 23 and 24
  pub counts : map (λ n. refusal (pos 16) (alike n (pos 1) (pos 2))) (0 ∷ 1 ∷ 16 ∷ 17 ∷ []) ≡ 22 ∷ 0 ∷ 0 ∷ 22 ∷ []
  pub count_first : refusal (negsuc 0) (alike 17 (negsuc 0) (pos 2)) ∷ refusal (negsuc 0) [] ∷ refusal (pos 0) (alike 17 (pos 1) (pos 2)) ∷ []
      ≡ 22 ∷ 22 ∷ 22 ∷ []
  -- '23, a negative limit, ..', also where no berth is at fault
  pub limits : map (λ z. refusal z (alike 2 (pos 0) (pos 2))) (negsuc 2147483647 ∷ negsuc 0 ∷ pos 0 ∷ pos 2147483647 ∷ []) ≡ 23 ∷ 23 ∷ 0 ∷ 0 ∷ []
  -- '.. guarantee or cap, or a guarantee above its cap', of the first berth as of the last
  pub first_berths : map (λ b. refusal (pos 9) (b ∷ alike 15 (pos 0) (pos 2)))
      (demanding (negsuc 0) (pos 2) ∷ demanding (pos 0) (negsuc 0) ∷ demanding (negsuc 1) (negsuc 0) ∷ demanding (pos 3) (pos 2) ∷ demanding (pos 2) (pos 2) ∷ [])
      ≡ 23 ∷ 23 ∷ 23 ∷ 23 ∷ 0 ∷ []
  pub last_berths : map (λ b. refusal (pos 9) (alike 15 (pos 0) (pos 2) ++ (b ∷ [])))
      (demanding (negsuc 0) (pos 2) ∷ demanding (pos 0) (negsuc 0) ∷ demanding (pos 3) (pos 2) ∷ demanding (pos 2) (pos 2) ∷ []) ≡ 23 ∷ 23 ∷ 23 ∷ 0 ∷ []
  -- a negative demand is no fault, nor is any allotment that stood there before
  pub demands : map (λ d. refusal (pos 9) (berth (pos 1) (pos 2) d (negsuc 6) ∷ [])) (negsuc 2147483647 ∷ negsuc 0 ∷ pos 0 ∷ pos 2147483647 ∷ [])
      ≡ 0 ∷ 0 ∷ 0 ∷ 0 ∷ []
  -- '24, guarantees summing above the limit', after 23
  pub guarantees_summed : map (λ z. refusal z (alike 16 (pos 2) (pos 2))) (pos 31 ∷ pos 32 ∷ pos 33 ∷ []) ≡ 24 ∷ 0 ∷ 0 ∷ []
  pub fault_first : refusal (pos 3) (demanding (pos 4) (pos 4) ∷ demanding (pos 0) (negsuc 0) ∷ []) ≡ 23
  -- sixteen guarantees of 2,147,483,647, and of 268,435,456, which sum to 2^32
  pub large_sums : map (λ g. refusal (pos 2147483647) (alike 16 g g)) (pos 2147483647 ∷ pos 268435456 ∷ []) ≡ 24 ∷ 24 ∷ []
  -- by hand: first parts of 2,000, 1,000 and 1,000 leave 5,000 of 9,000; of these the first berth gets 3,000 up to its cap, the second none, as it
  -- demands no more, the third the last 2,000; the fourth demands a negative power
  pub by_hand : filled (pos 9000)
      (berth (pos 2000) (pos 5000) (pos 6000) (pos 7)
      ∷ berth (pos 2000) (pos 4000) (pos 1000) (pos 7)
      ∷ berth (pos 1000) (pos 8000) (pos 8000) (pos 7)
      ∷ berth (pos 1000) (pos 8000) (negsuc 499) (pos 7)
      ∷ [])
      ≡ berth (pos 2000) (pos 5000) (pos 6000) (pos 5000)
      ∷ berth (pos 2000) (pos 4000) (pos 1000) (pos 1000)
      ∷ berth (pos 1000) (pos 8000) (pos 8000) (pos 3000)
      ∷ berth (pos 1000) (pos 8000) (negsuc 499) (pos 0)
      ∷ []
