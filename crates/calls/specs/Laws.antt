-- What holds of the reading of a command, and of the numbers of answers and letters: what a reader wants beside the definitions.
use Rattle.std.specs.Prelude.{◌≡◌, ℕ, ◌-◌, true, false, [], ◌∷◌, map, ℤ, pos, negsuc, Ok, Err}
use Rattle.base.specs.Tests.{within}
use Rattle.calls.specs.declared.Call.{Call}
use Rattle.calls.specs.declared.Call.TheVariants.{Sample, RemoteDisconnect, RemoteReconnect, ManualDisconnect, ManualReconnect, SetMode}
use Rattle.calls.specs.declared.Call.TheVariants.{SetLimiter, SetClock, Event, SetAlarmFilter, SetErrorFilter, ClearAlarms, ClearErrors, ClearLog}
use Rattle.calls.specs.declared.Call.TheVariants.{Script, SetGroups, SetProfile}
use Rattle.calls.specs.declared.Answer.TheVariants.{Accepted, Refused}
use Rattle.calls.specs.declared.Letter.TheVariants.{A, B, C, D, E, F, G, H, None}
use Rattle.calls.specs.declared.Command.{Command}
use Rattle.calls.specs.declared.CommandError.TheVariants.{NoKind}
use Rattle.calls.specs.Calls.{answer_number, letter_byte, kind_of, signed_of, call_of, command_of, InRange}

-- a signed number of 32 bits in two's complement
abbrev pub bits_of : ℤ → ℕ
bits_of (pos n) = n
bits_of (negsuc n) = 4294967295 - n

-- 'with its numbers': a call's kind and its numbers in the documents' order, zero where it has none
abbrev pub command_naming : Call → Command
command_naming (Sample p) = command_of 1 (bits_of p) 0 0 0 0
command_naming RemoteDisconnect = command_of 2 0 0 0 0 0
command_naming RemoteReconnect = command_of 3 0 0 0 0 0
command_naming ManualDisconnect = command_of 4 0 0 0 0 0
command_naming ManualReconnect = command_of 5 0 0 0 0 0
command_naming (SetMode n) = command_of 6 n 0 0 0 0
command_naming (SetLimiter t o u) = command_of 7 (bits_of t) o u 0 0
command_naming (SetClock n) = command_of 8 n 0 0 0 0
command_naming (Event c) = command_of 9 c 0 0 0 0
command_naming (SetAlarmFilter n) = command_of 10 n 0 0 0 0
command_naming (SetErrorFilter n) = command_of 11 n 0 0 0 0
command_naming (ClearAlarms n) = command_of 12 n 0 0 0 0
command_naming (ClearErrors n) = command_of 13 n 0 0 0 0
command_naming (ClearLog n) = command_of 14 n 0 0 0 0
command_naming (Script n) = command_of 15 n 0 0 0 0
command_naming (SetGroups n a b c d) = command_of 16 n a b c d
command_naming (SetProfile i t a d) = command_of 17 i (bits_of t) a d 0

-- of every command, and of each answer and letter
pub record Laws : Type 0 where
  -- 'A call is one of fifteen kinds with its numbers', seventeen with document 02, A3: the call that a kind names is of that kind
  pub kind_named : (r : Command) (c : Call) → call_of r ≡ Ok c → kind_of c ≡ r.kind
  -- each call is what its own kind and numbers name
  pub call_named : (c : Call) → InRange c → call_of (command_naming c) ≡ Ok c
  -- document 02, A3: 'Refusal 13 now means not 1–17': no other kind names a call, and each of these does
  pub no_kind : (r : Command) → within 1 17 r.kind ≡ false → call_of r ≡ Err NoKind
  pub some_kind : (r : Command) → within 1 17 r.kind ≡ true → call_of r ≡ Err NoKind → ⊥
  -- '.. unused ones ignored', of the bench program's five numbers: a kind takes the first ones that it uses, in their order, whatever the others are
  pub unused_ignored :
      (a b c d e : ℕ)
      → map (λ k. call_of (command_of k a b c d e)) (1 ∷ 2 ∷ 3 ∷ 4 ∷ 5 ∷ 6 ∷ 7 ∷ 8 ∷ 9 ∷ 10 ∷ 11 ∷ 12 ∷ 13 ∷ 14 ∷ 15 ∷ 16 ∷ 17 ∷ [])
      ≡ map Ok
      (Sample (signed_of a) ∷ RemoteDisconnect ∷ RemoteReconnect ∷ ManualDisconnect ∷ ManualReconnect ∷ SetMode a ∷ SetLimiter (signed_of a) b c
      ∷ SetClock a ∷ Event a ∷ SetAlarmFilter a ∷ SetErrorFilter a ∷ ClearAlarms a ∷ ClearErrors a ∷ ClearLog a ∷ Script a ∷ SetGroups a b c d e
      ∷ SetProfile a (signed_of b) c d ∷ [])
  -- 'refusal or 0'
  pub answer_numbers : (n : ℕ) → (answer_number Accepted ≡ 0) × (answer_number (Refused n) ≡ n)
  -- document 02, A2: 'The switch rule now answers a to h or none': a to h in ASCII, and 0
  pub letter_bytes : map letter_byte (A ∷ B ∷ C ∷ D ∷ E ∷ F ∷ G ∷ H ∷ None ∷ []) ≡ 97 ∷ 98 ∷ 99 ∷ 100 ∷ 101 ∷ 102 ∷ 103 ∷ 104 ∷ 0 ∷ []
