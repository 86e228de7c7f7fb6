-- Pages one step from accepted, with the numbers that the reader answers, and what the writer answers.
use Rattle.std.specs.Prelude.{◌≡◌, true, ℕ, ◌+◌, ◌-◌, eqb, get_or, length, set, take, drop, replicate}
use mathlib.Core.List.{List, [], ◌∷◌, ◌++◌, map, flat_map}
use Rattle.base.specs.Tests.{below}
use Rattle.codec.specs.BigEndian.{be}
use Rattle.events.specs.Table.{EventRow, plain, built_in}
use Rattle.calls.specs.Calls.{answer_number}
use Rattle.meter.specs.declared.Meter.{Meter}
use Rattle.meter.specs.Examples.{example_meter}
use Rattle.meter.specs.NearMisses.{of_control}
use Rattle.page.specs.Layout.{start, write_answer, read_of}
use Rattle.page.specs.Examples.{worked_bytes}

-- what the reader answers to some bytes: 'refusal or 0'
abbrev pub read_number : List ℕ → ℕ
read_number s = answer_number (read_of built_in s).answer

-- to the worked example's page with v as its byte i
abbrev pub read_with : ℕ → ℕ → ℕ
read_with i v = read_number (set worked_bytes i v)

-- to its page with alarm bits 0 and 31, a filter that has bit 0, and this count
abbrev pub read_alarms : ℕ → ℕ
read_alarms n = read_number (take 63 worked_bytes ++ (128 ∷ 0 ∷ 0 ∷ 1 ∷ 0 ∷ 0 ∷ 0 ∷ 1 ∷ n ∷ drop 72 worked_bytes))

-- to its page with three logs of 32 lines, and these counts
abbrev pub read_counts : ℕ → ℕ → ℕ → ℕ
read_counts a b c =
    let lines : List ℕ = flat_map (λ code. 0 ∷ 0 ∷ 0 ∷ 1 ∷ code ∷ []) (replicate 32 255) in
    read_number (take 80 worked_bytes ++ (a ∷ lines ++ (b ∷ lines ++ (c ∷ lines ++ drop 563 worked_bytes))))

-- to its page with an emergency profile of id 7 and activation 9, which has these threshold, duration, samples left and state, and with these groups:
-- a count and ids
abbrev pub read_emergency : ℕ → ℕ → ℕ → ℕ → ℕ → List ℕ → ℕ
read_emergency threshold duration left state count ids =
    let padded : List ℕ = ids ++ replicate (8 - length ids) 0 in
    read_number (take 563 worked_bytes ++ (be 2 7 ++ (be 4 threshold ++ (be 4 9 ++ (be 4 duration ++ (be 4 left ++ (be 1 state ++ (be 1 count
    ++ flat_map (be 2) padded))))))))

-- what the writer answers for a record and a buffer of n bytes
abbrev pub write_number : Meter → ℕ → ℕ
write_number m n = answer_number (write_answer built_in m (replicate n 0))

-- the worked example has mode 0, switch 1, Over 2, not Exceeded, six lines in log 3, and neither a profile nor groups
-- document 02, A8: an event table in which 20 is an event of the fraud log, and nothing else is one
abbrev pub twenty_in_fraud : List EventRow
twenty_in_fraud = plain 2 20 ∷ []

-- by that table and by the built-in one: the reader's number for these bytes
abbrev pub read_by_both : List ℕ → List ℕ
read_by_both s = map (λ rows. answer_number (read_of rows s).answer) (twenty_in_fraud ∷ built_in ∷ [])

pub record NearMisses : Type 0 where
  pub unchanged : read_number worked_bytes ≡ 0
  -- document 02, A8: 'soundness of log codes is against that table .., the reader too': the page with the line of an event 20 in the fraud log, and with one
  -- of 68 in the disconnect log
  pub by_table : map read_by_both (worked_bytes ∷ set (set worked_bytes 241 1) 246 20 ∷ set worked_bytes 407 68 ∷ []) ≡ (0 ∷ 0 ∷ []) ∷ (0 ∷ 11 ∷ []) ∷ (11 ∷ 0 ∷ []) ∷ []
  -- 'reader | 9 | length not 558'; document 02, A3: '8 and 9 go by the page's present length'
  pub lengths : map read_number (take 598 worked_bytes ∷ (worked_bytes ++ (0 ∷ [])) ∷ []) ≡ 9 ∷ 9 ∷ []
  -- 'reader | 10 | a pair differs': any of their bytes one more
  pub pairs_bytes : below start (λ i. eqb (read_with i (get_or worked_bytes i 0 + 1)) 10) ≡ true
  -- 'Place, in order': 9, 10, 11, of bytes in which more than one is wrong
  pub reader_order :
      map read_number ([] ∷ set (take 598 worked_bytes) 0 1 ∷ set (set worked_bytes 0 1) 36 7 ∷ set worked_bytes 36 7 ∷ []) ≡ 9 ∷ 9 ∷ 10 ∷ 11 ∷ []
  -- 'reader | 11 | the record would not be sound': the mode ..
  pub modes : map (read_with 36) (6 ∷ 7 ∷ []) ≡ 0 ∷ 11 ∷ []
  -- .. the switch, which mode 0 has at 1 ..
  pub switches : map (read_with 37) (0 ∷ 1 ∷ 2 ∷ []) ≡ 11 ∷ 0 ∷ 11 ∷ []
  -- .. the threshold's top bit ..
  pub thresholds : map (read_with 42) (127 ∷ 128 ∷ []) ≡ 0 ∷ 11 ∷ []
  -- 'or Exceeded above 1'
  pub exceeded : map (read_with 54) (0 ∷ 1 ∷ 2 ∷ []) ≡ 0 ∷ 0 ∷ 11 ∷ []
  -- .. Run, below Over ..
  pub runs : map (read_with 58) (1 ∷ 2 ∷ []) ≡ 0 ∷ 11 ∷ []
  -- document 02, A6: 'A record or page with another number isn't sound': of no alarm; of two, with a filter that would hide one of them ..
  pub alarm_counts :
      map (read_with 71) (0 ∷ 1 ∷ 32 ∷ 255 ∷ []) ++ map read_alarms (0 ∷ 1 ∷ 2 ∷ 3 ∷ []) ≡ 0 ∷ 11 ∷ 11 ∷ 11 ∷ 11 ∷ 11 ∷ 0 ∷ 11 ∷ []
  -- .. log 3's count, below its lines and above them ..
  pub count : map (read_with 402) (5 ∷ 6 ∷ 7 ∷ []) ≡ 11 ∷ 0 ∷ 11 ∷ []
  -- .. each log's, of full logs ..
  pub counts : read_counts 32 32 32 ∷ read_counts 33 32 32 ∷ read_counts 32 33 32 ∷ read_counts 32 32 33 ∷ [] ≡ 0 ∷ 11 ∷ 11 ∷ 11 ∷ []
  -- .. the code of log 3's first line ..
  pub codes : map (read_with 407) (58 ∷ 59 ∷ 69 ∷ 70 ∷ []) ≡ 11 ∷ 0 ∷ 0 ∷ 11 ∷ []
  -- .. the first and the last byte past each log's lines ..
  pub past : map (λ i. read_with i 1) (81 ∷ 240 ∷ 242 ∷ 401 ∷ 433 ∷ 562 ∷ []) ≡ replicate 6 11
  -- document 02, A3: 'with state 0 the first five are zero': any of their bytes ..
  pub no_profile : below 18 (λ i. eqb (read_with (563 + i) 1) 11) ≡ true
  -- 'state is at most 2': here 1 and 2 stand beside zeros, 3 beside a profile ..
  pub states : map (read_with 581) (0 ∷ 1 ∷ 2 ∷ []) ++ map (λ s. read_emergency 5 3 3 s 0 []) (0 ∷ 1 ∷ 2 ∷ 3 ∷ []) ≡ 0 ∷ 11 ∷ 11 ∷ 11 ∷ 0 ∷ 0 ∷ 11 ∷ []
  -- 'samples left equals the duration while waiting' ..
  pub waiting : map (λ n. read_emergency 5 3 n 1 0 []) (2 ∷ 3 ∷ 4 ∷ []) ≡ 11 ∷ 0 ∷ 11 ∷ []
  -- 'and is 1 to the duration while active' ..
  pub active : map (λ n. read_emergency 5 3 n 2 0 []) (0 ∷ 1 ∷ 3 ∷ 4 ∷ []) ≡ 11 ∷ 0 ∷ 0 ∷ 11 ∷ []
  -- 'threshold and duration then within kind 17's ranges': 'duration outside 1 to 604,800, or threshold negative' ..
  pub durations : map (λ n. read_emergency 5 n n 1 0 []) (0 ∷ 1 ∷ 604800 ∷ 604801 ∷ []) ≡ 11 ∷ 0 ∷ 0 ∷ 11 ∷ []
  pub emergency_thresholds : map (λ n. read_emergency n 3 1 2 0 []) (0 ∷ 2147483647 ∷ 2147483648 ∷ []) ≡ 0 ∷ 0 ∷ 11 ∷ []
  -- 'count at most 8' ..
  pub group_counts : map (read_with 582) (8 ∷ 9 ∷ []) ≡ 0 ∷ 11 ∷ []
  -- 'ids past the count are zero': the first id past it, and the last
  pub ids_past : map (λ n. read_emergency 5 3 3 1 n (7 ∷ 65535 ∷ [])) (1 ∷ 2 ∷ []) ++ map (λ i. read_with i 1) (583 ∷ 598 ∷ []) ≡ 11 ∷ 0 ∷ 11 ∷ 11 ∷ []
  -- 'record | 12 | not sound; .. the writer', then 'writer | 8 | buffer under 558 bytes', now 599
  pub unsound_written : map (write_number (of_control 7 1)) (598 ∷ 599 ∷ []) ≡ 12 ∷ 12 ∷ []
  pub buffers : map (write_number example_meter) (598 ∷ 599 ∷ []) ≡ 8 ∷ 0 ∷ []
