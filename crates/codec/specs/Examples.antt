-- Formats computed: bytes of a number, a flag and a pair, and reads inside a list and past its end.
use Rattle.std.specs.Prelude.{◌≡◌, true, false, [], ◌∷◌}
use Rattle.codec.specs.BigEndian.{be}
use Rattle.codec.specs.Format.{num_at, num, flag, ◌⊗◌, times}

-- the examples
pub record Examples : Type 0 where
  -- 16909060 is 1 * 256^3 + 2 * 256^2 + 3 * 256 + 4: the highest byte stands first
  pub highest_first : be 4 16909060 ≡ 1 ∷ 2 ∷ 3 ∷ 4 ∷ []
  pub read_inside : num_at 4 (9 ∷ 1 ∷ 2 ∷ 3 ∷ 4 ∷ []) 1 ≡ 16909060
  -- the bytes that a list lacks read as zero
  pub read_cut : num_at 4 (9 ∷ 1 ∷ 2 ∷ []) 1 ≡ 16908288
  pub read_past : num_at 4 (9 ∷ 1 ∷ []) 7 ≡ 0
  pub flag_byte : flag.enc true ≡ 1 ∷ []
  -- 2 is no flag: it reads as false, and its byte is not valid
  pub no_flag : (flag.dec (2 ∷ []) 0 ≡ false) × (flag.valid (2 ∷ []) 0 ≡ false)
  -- 'clock 4, code 1': a clock of 258 and the code 7
  pub pair_bytes : (num 4 ⊗ num 1).enc (258, 7) ≡ 0 ∷ 0 ∷ 1 ∷ 2 ∷ 7 ∷ []
  pub times_read : (times 2 (num 4 ⊗ num 1)).dec (0 ∷ 0 ∷ 1 ∷ 2 ∷ 7 ∷ 0 ∷ 0 ∷ 0 ∷ 9 ∷ 8 ∷ []) 0 ≡ (258, 7) ∷ (9, 8) ∷ []
  -- the second part of a pair and the second of two values are tested too: 2 is no flag
  pub pair_tested : (num 1 ⊗ flag).valid (0 ∷ 2 ∷ []) 0 ≡ false
  pub times_tested : (times 2 flag).valid (1 ∷ 2 ∷ []) 0 ≡ false
