-- Document 01's worked example by its records, numbers and a line as they are printed, and each answer to an input.
use Rattle.std.specs.Prelude.{◌≡◌, List, [], ◌∷◌, ◌++◌, ℕ, negsuc, replicate, Ok, Err}
use Rattle.codec.specs.BigEndian.{be}
use Rattle.calls.specs.declared.Command.{Command}
use Rattle.calls.specs.Calls.{command_of}
use Rattle.history.specs.Examples.{example_settings, example_calls}
use Rattle.replay.specs.declared.ReplayError.TheVariants.{Empty, Bad, Short, Refused}
use Rattle.replay.specs.Replay.{first_in, settings_in, calls_in, replay_answer}
use Rattle.replay.specs.Listing.{decimal, line_bytes}

-- a record of a kind and its first number; 'unused ones ignored'
abbrev pub record_of_kind : ℕ → ℕ → Command
record_of_kind k n = command_of k n 0 0 0 0

-- 'Fresh (5, 3000, 2, 3, 1000)'
abbrev pub first_record : Command
first_record = command_of 0 5 3000 2 3 1000

-- 'samples 3000, 3001, 3001; call 5; samples 0, −5, 0; call 2; call 5; script 3; script 2; mode 7; mode 0; call 2'
abbrev pub later_records : List Command
later_records =
    record_of_kind 1 3000 ∷ record_of_kind 1 3001 ∷ record_of_kind 1 3001
    ∷ record_of_kind 5 0
    ∷ record_of_kind 1 0 ∷ record_of_kind 1 4294967291 ∷ record_of_kind 1 0
    ∷ record_of_kind 2 0 ∷ record_of_kind 5 0 ∷ record_of_kind 15 3 ∷ record_of_kind 15 2 ∷ record_of_kind 6 7 ∷ record_of_kind 6 0 ∷ record_of_kind 2 0
    ∷ []

-- the bytes of a fresh of that mode, and no call
abbrev pub only : ℕ → List ℕ
only m = 0 ∷ be 4 m ++ (be 4 3000 ++ (be 4 2 ++ (be 4 3 ++ be 4 1000)))

-- the records of the worked example, the digits, and the answers
pub record Examples : Type 0 where
  pub settings : settings_in first_record ≡ example_settings
  -- '.. kind, five 32-bit big-endian numbers': the bytes of that record
  pub first_bytes :
      first_in (0 ∷ 0 ∷ 0 ∷ 0 ∷ 5 ∷ 0 ∷ 0 ∷ 11 ∷ 184 ∷ 0 ∷ 0 ∷ 0 ∷ 2 ∷ 0 ∷ 0 ∷ 0 ∷ 3 ∷ 0 ∷ 0 ∷ 3 ∷ 232 ∷ []) ≡ first_record
  -- 'a sample or threshold is two's complement': 4,294,967,291 is −5 (negsuc 4)
  pub settings_signed :
      settings_in (command_of 0 5 4294967291 2 3 1000) ≡ record { mode = 5; threshold = negsuc 4; over = 2; under = 3; clock = 1000 }
  pub calls : calls_in later_records ≡ example_calls
  -- document 02, A3: 'Refusal 13 now means not 1–17': such a record names no call
  pub no_kind : calls_in (record_of_kind 0 1 ∷ record_of_kind 18 1 ∷ record_of_kind 255 1 ∷ []) ≡ []
  -- 0, and the largest number of 32 bits
  pub zero : decimal 0 ≡ 48 ∷ []
  pub largest : decimal 4294967295 ≡ 52 ∷ 50 ∷ 57 ∷ 52 ∷ 57 ∷ 54 ∷ 55 ∷ 50 ∷ 57 ∷ 53 ∷ []
  -- '15 2 1 2', and the end of the line
  pub line : line_bytes 15 2 1 2 ≡ 49 ∷ 53 ∷ 32 ∷ 50 ∷ 32 ∷ 49 ∷ 32 ∷ 50 ∷ 10 ∷ []
  -- each answer, in the order of the tests: a cut first record is short, whatever its kind
  pub empty : replay_answer [] [] ≡ Err Empty
  pub first_cut : replay_answer (replicate 20 1) [] ≡ Err Short
  pub bad : replay_answer (replicate 21 1) [] ≡ Err Bad
  -- a refused fresh ends the run before a cut record is seen
  pub refused : replay_answer (only 7 ++ (1 ∷ [])) [] ≡ Err (Refused 1)
  pub cut : replay_answer (only 5 ++ (1 ∷ [])) [] ≡ Err Short
  pub small_buffer : replay_answer (only 5) (replicate 598 0) ≡ Err (Refused 8)
  pub taken : replay_answer (only 5) (replicate 599 0) ≡ Ok tt
