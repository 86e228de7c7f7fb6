-- Pages of the three-phase meter one step from accepted, with the numbers that the reader answers, and what the writer answers. More of
-- control, alarms and logs is in document 01's page (`NearMisses` of page), which is judged by the same functions.
use Rattle.std.specs.Prelude.{◌≡◌, true, false, List, [], ◌∷◌, ◌++◌, map, ℕ, ◌+◌, eqb, negsuc, get_or, set, take, replicate}
use Rattle.base.specs.Tests.{below}
use Rattle.events.specs.Table.{built_in}
use Rattle.calls.specs.Calls.{answer_number}
use Rattle.page.specs.NearMisses.{twenty_in_fraud}
use Rattle.phases_meter.specs.declared.ThreePhaseMeter.{ThreePhaseMeter}
use Rattle.phases_meter.specs.NearMisses.{usual_value, value_with, limiters_with, of_limiters}
use Rattle.phases_page.specs.Layout.{three_phase_start, three_phase_write_answer, three_phase_read_of}
use Rattle.phases_page.specs.Examples.{sampled_bytes}

-- what the reader answers to some bytes: 'refusal or 0'
abbrev pub three_phase_read_number : List ℕ → ℕ
three_phase_read_number s = answer_number (three_phase_read_of built_in s).answer

-- to the page after the five samples with v as its byte i
abbrev pub three_phase_read_with : ℕ → ℕ → ℕ
three_phase_read_with i v = three_phase_read_number (set sampled_bytes i v)

-- by a table in which 20 is an event of the fraud log, and by the built-in one: the reader's number for these bytes
abbrev pub three_phase_read_by_both : List ℕ → List ℕ
three_phase_read_by_both s = map (λ rows. answer_number (three_phase_read_of rows s).answer) (twenty_in_fraud ∷ built_in ∷ [])

-- where the monitored values begin: L1, L2, L3 and the sum
abbrev pub values_at : List ℕ
values_at = 46 ∷ 55 ∷ 64 ∷ 73 ∷ []

-- what the writer answers for a record and a buffer of n bytes
abbrev pub three_phase_write_number : ThreePhaseMeter → ℕ → ℕ
three_phase_write_number m n = answer_number (three_phase_write_answer built_in m (replicate n 0))

-- the page after the five samples has mode 5, switch 2, Over 3 and Under 4; Exceeded, Run are yes, 1 of L1; no, 2 of L2; no, 1 of L3; yes, 0 of the sum
pub record NearMisses : Type 0 where
  pub unchanged : three_phase_read_number sampled_bytes ≡ 0
  -- 'reader | 9 | length not 558', here '.. a page of 586'
  pub lengths : map three_phase_read_number (take 585 sampled_bytes ∷ (sampled_bytes ++ (0 ∷ [])) ∷ []) ≡ 9 ∷ 9 ∷ []
  -- 'reader | 10 | a pair differs': any of their bytes one more
  pub pairs_bytes : below three_phase_start (λ i. eqb (three_phase_read_with i (get_or sampled_bytes i 0 + 1)) 10) ≡ true
  -- 9 before 10, and 10 before 11: of pages with two faults
  pub first_fault : map three_phase_read_number (take 585 (set sampled_bytes 0 1) ∷ set (set sampled_bytes 0 1) 50 2 ∷ []) ≡ 9 ∷ 10 ∷ []
  -- 'reader | 11 | the record would not be sound': 'Mode 0–6', 'mode 0 has switch 1', 'Switch: 0 .., 1 .., 2 ..'
  pub controls : map (three_phase_read_with 32) (6 ∷ 7 ∷ 0 ∷ []) ++ map (three_phase_read_with 33) (0 ∷ 1 ∷ 2 ∷ 3 ∷ []) ≡ 0 ∷ 11 ∷ 11 ∷ 0 ∷ 0 ∷ 0 ∷ 11 ∷ []
  -- document 02, A6: 'A record or page with another number isn't sound'
  pub alarm_counts : map (three_phase_read_with 94) (0 ∷ 1 ∷ []) ≡ 0 ∷ 11 ∷ []
  -- 'lines past its count are zero', 'each of up to 32 lines': log 3 with another count than its 3
  pub log_counts : map (three_phase_read_with 425) (2 ∷ 3 ∷ 4 ∷ 33 ∷ []) ≡ 11 ∷ 0 ∷ 11 ∷ 11 ∷ []
  -- the top bit of each threshold ..
  pub thresholds : map (λ at. three_phase_read_with at 127 ∷ three_phase_read_with at 128 ∷ []) values_at ≡ replicate 4 (0 ∷ 11 ∷ [])
  -- 'or Exceeded above 1': of each ..
  pub exceeded : map (λ at. map (three_phase_read_with (at + 4)) (0 ∷ 1 ∷ 2 ∷ 255 ∷ [])) values_at ≡ replicate 4 (0 ∷ 0 ∷ 11 ∷ 11 ∷ [])
  -- .. each Run, below Over (not Exceeded) or below Under (Exceeded) ..
  pub runs : map (λ at. map (three_phase_read_with (at + 8)) (2 ∷ 3 ∷ 4 ∷ [])) values_at
      ≡ (0 ∷ 0 ∷ 11 ∷ []) ∷ (0 ∷ 11 ∷ 11 ∷ []) ∷ (0 ∷ 11 ∷ 11 ∷ []) ∷ (0 ∷ 0 ∷ 11 ∷ []) ∷ []
  -- .. the shared Over and Under
  pub durations : map (three_phase_read_with 41) (0 ∷ 2 ∷ 3 ∷ []) ++ map (three_phase_read_with 45) (0 ∷ 1 ∷ 2 ∷ []) ≡ 11 ∷ 11 ∷ 0 ∷ 11 ∷ 11 ∷ 0 ∷ []
  -- document 02, A8: 'soundness of log codes is against that table .., the reader too': the page with the line of an event 20 in the fraud log, and with one
  -- of 68 in the disconnect log
  pub by_table : map three_phase_read_by_both (sampled_bytes ∷ set (set sampled_bytes 264 1) 269 20 ∷ set sampled_bytes 430 68 ∷ [])
      ≡ (0 ∷ 0 ∷ []) ∷ (0 ∷ 11 ∷ []) ∷ (11 ∷ 0 ∷ []) ∷ []
  -- 'record | 12 | not sound; .. the writer', then 'writer | 8 | buffer under 558 bytes', here 586
  pub unsound_written : map (three_phase_write_number (let n = usual_value in of_limiters (limiters_with 5 9 n n n (value_with (negsuc 0) false 0)))) (585 ∷ 586 ∷ [])
      ≡ 12 ∷ 12 ∷ []
  pub buffers : map (three_phase_write_number (let n = usual_value in of_limiters (limiters_with 5 9 n n n n))) (585 ∷ 586 ∷ []) ≡ 8 ∷ 0 ∷ []
