-- What holds of the reading of a command of the three-phase meter: what a reader wants beside the definition.
use Rattle.std.specs.Prelude.{◌≡◌, ℕ, true, false, [], ◌∷◌, map, pos, Ok, Err}
use Rattle.base.specs.Tests.{numbers_from, within}
use Rattle.calls.specs.Laws.{bits_of}
use Rattle.phases.specs.declared.ThreePhaseCall.{ThreePhaseCall}
use Rattle.phases.specs.declared.ThreePhaseCall.TheVariants.{Sample, RemoteDisconnect, RemoteReconnect, ManualDisconnect, ManualReconnect, SetMode}
use Rattle.phases.specs.declared.ThreePhaseCall.TheVariants.{SetLimiter, SetClock, Event, SetAlarmFilter, SetErrorFilter, ClearAlarms, ClearErrors}
use Rattle.phases.specs.declared.ThreePhaseCall.TheVariants.{ClearLog, Script}
use Rattle.phases.specs.declared.ThreePhaseCommand.{ThreePhaseCommand}
use Rattle.calls.specs.declared.CommandError.TheVariants.{NoKind}
use Rattle.phases.specs.Calls.{three_phase_kind_of, three_phase_call_of, three_phase_command_of, ThreePhaseInRange}

-- of this kind and first number, zero in the places of the others
abbrev pub naming : ℕ → ℕ → ThreePhaseCommand
naming k n = three_phase_command_of k n 0 0 0 0 0 0 0

-- 'with its numbers': a call's kind and its numbers in the documents' order, zero where it has none
abbrev pub three_phase_command_naming : ThreePhaseCall → ThreePhaseCommand
three_phase_command_naming (Sample a b c) = three_phase_command_of 1 (bits_of a) (bits_of b) (bits_of c) 0 0 0 0 0
three_phase_command_naming RemoteDisconnect = naming 2 0
three_phase_command_naming RemoteReconnect = naming 3 0
three_phase_command_naming ManualDisconnect = naming 4 0
three_phase_command_naming ManualReconnect = naming 5 0
three_phase_command_naming (SetMode n) = naming 6 n
three_phase_command_naming (SetLimiter a b c d o u) = three_phase_command_of 7 (bits_of a) (bits_of b) (bits_of c) (bits_of d) o u 0 0
three_phase_command_naming (SetClock n) = naming 8 n
three_phase_command_naming (Event c) = naming 9 c
three_phase_command_naming (SetAlarmFilter n) = naming 10 n
three_phase_command_naming (SetErrorFilter n) = naming 11 n
three_phase_command_naming (ClearAlarms n) = naming 12 n
three_phase_command_naming (ClearErrors n) = naming 13 n
three_phase_command_naming (ClearLog n) = naming 14 n
three_phase_command_naming (Script n) = naming 15 n

-- of every command
pub record Laws : Type 0 where
  -- 'A call is one of fifteen kinds with its numbers': the call that a kind names is of that kind
  pub kind_named : (r : ThreePhaseCommand) (c : ThreePhaseCall) → three_phase_call_of r ≡ Ok c → three_phase_kind_of c ≡ r.kind
  -- each call is what its own kind and numbers name
  pub call_named : (c : ThreePhaseCall) → ThreePhaseInRange c → three_phase_call_of (three_phase_command_naming c) ≡ Ok c
  -- '13 | not 1–15', and document 02, A13, of A3's kinds: '.. its kinds get 13 ..'
  pub no_kind : (r : ThreePhaseCommand) → within 1 15 r.kind ≡ false → three_phase_call_of r ≡ Err NoKind
  pub some_kind : (r : ThreePhaseCommand) → within 1 15 r.kind ≡ true → three_phase_call_of r ≡ Err NoKind → ⊥
  -- 'unused ones ignored': of each kind with the numbers 1 to 8, the first ones in their order, 'three powers a second', '.. four thresholds ..' and Over and
  -- Under behind them
  pub unused_ignored :
      map (λ k. three_phase_call_of (three_phase_command_of k 1 2 3 4 5 6 7 8)) (numbers_from 1 15)
      ≡ map Ok
      (Sample (pos 1) (pos 2) (pos 3)
      ∷ RemoteDisconnect
      ∷ RemoteReconnect
      ∷ ManualDisconnect
      ∷ ManualReconnect
      ∷ SetMode 1
      ∷ SetLimiter (pos 1) (pos 2) (pos 3) (pos 4) 5 6
      ∷ SetClock 1
      ∷ Event 1
      ∷ SetAlarmFilter 1
      ∷ SetErrorFilter 1
      ∷ ClearAlarms 1
      ∷ ClearErrors 1
      ∷ ClearLog 1
      ∷ Script 1
      ∷ [])
