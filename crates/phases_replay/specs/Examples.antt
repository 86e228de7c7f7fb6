-- The records of a three-phase input, and each answer to one.
use Rattle.std.specs.Prelude.{◌≡◌, List, [], ◌∷◌, ◌++◌, ℕ, pos, negsuc, replicate, Ok, Err}
use Rattle.codec.specs.BigEndian.{be}
use Rattle.phases.specs.declared.ThreePhaseCall.TheVariants.{Sample, ManualReconnect, SetMode, SetLimiter, Script}
use Rattle.phases.specs.Calls.{three_phase_command_of}
use Rattle.phases.specs.Laws.{naming}
use Rattle.phases.specs.Examples.{settings_with}
use Rattle.replay.specs.declared.ReplayError.TheVariants.{Empty, Bad, Short, Refused}
use Rattle.phases_replay.specs.Replay.{three_phase_settings_in, three_phase_calls_in, three_phase_replay_answer}

-- the bytes of a fresh of that mode, first threshold and Over, and no call
abbrev pub fresh_only : ℕ → ℕ → ℕ → List ℕ
fresh_only m a o = 0 ∷ be 4 m ++ (be 4 a ++ (be 4 200 ++ (be 4 300 ++ (be 4 400 ++ (be 4 o ++ (be 4 3 ++ be 4 1000))))))

-- the settings and the calls that records name, and the answers
pub record Examples : Type 0 where
  -- 'Fresh and call 7 take four thresholds ..': mode, these, Over, Under and clock
  pub settings : three_phase_settings_in (three_phase_command_of 0 5 100 200 300 400 2 3 1000) ≡ settings_with 5 100 200 300 400 2 3
  -- '.. three powers a second', two's complement; 'unused ones ignored'
  pub calls :
      three_phase_calls_in
      (three_phase_command_of 1 100 4294967291 300 7 7 7 7 7 ∷ three_phase_command_of 7 100 200 300 4294967295 2 3 7 7
      ∷ naming 5 7 ∷ naming 6 4 ∷ naming 15 2 ∷ [])
      ≡ Sample (pos 100) (negsuc 4) (pos 300) ∷ SetLimiter (pos 100) (pos 200) (pos 300) (negsuc 0) 2 3
      ∷ ManualReconnect ∷ SetMode 4 ∷ Script 2 ∷ []
  -- '.. A3's profile and area aren't offered here, its kinds get 13 ..': such a record names no call, nor does a second fresh
  pub no_kind : three_phase_calls_in (naming 0 1 ∷ naming 16 1 ∷ naming 17 1 ∷ naming 255 1 ∷ []) ≡ []
  -- each answer, in the order of the tests: a cut first record is short, whatever its kind
  pub empty : three_phase_replay_answer [] [] ≡ Err Empty
  pub first_cut : three_phase_replay_answer (replicate 32 1) [] ≡ Err Short
  pub bad : three_phase_replay_answer (replicate 33 1) [] ≡ Err Bad
  -- a refused fresh ends the run before a cut record is seen: 'mode above 6', '.. 4 if one is negative', 'Over or Under out of range'
  pub mode_refused : three_phase_replay_answer (fresh_only 7 4294967295 0 ++ (1 ∷ [])) [] ≡ Err (Refused 1)
  pub threshold_refused : three_phase_replay_answer (fresh_only 5 4294967295 0 ++ (1 ∷ [])) [] ≡ Err (Refused 4)
  pub duration_refused : three_phase_replay_answer (fresh_only 5 100 0 ++ (1 ∷ [])) [] ≡ Err (Refused 5)
  pub cut : three_phase_replay_answer (fresh_only 5 100 2 ++ (1 ∷ [])) [] ≡ Err Short
  -- '.. in a page of 586'
  pub small_buffer : three_phase_replay_answer (fresh_only 5 100 2) (replicate 585 0) ≡ Err (Refused 8)
  pub taken : three_phase_replay_answer (fresh_only 5 100 2) (replicate 586 0) ≡ Ok tt
