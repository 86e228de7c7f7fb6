-- The calls: the fifteen of document 01, 'A call is one of fifteen kinds with its numbers', and kinds 16 and 17 of document 02, A3.
use Rattle.std.specs.Prelude.{◌≡◌, ℕ, ◌-◌, ◌≤◌, true, cond, List, [], ◌∷◌, eqb, ltb, ℤ, pos, negsuc, Result, Ok, Err}
use Rattle.std.specs.Int.Signed.{le_z}
use Rattle.calls.specs.declared.Call.{Call}
use Rattle.calls.specs.declared.Call.TheVariants.{Sample, RemoteDisconnect, RemoteReconnect, ManualDisconnect, ManualReconnect, SetMode}
use Rattle.calls.specs.declared.Call.TheVariants.{SetLimiter, SetClock, Event, SetAlarmFilter, SetErrorFilter, ClearAlarms, ClearErrors, ClearLog}
use Rattle.calls.specs.declared.Call.TheVariants.{Script, SetGroups, SetProfile}
use Rattle.calls.specs.declared.Answer.{Answer}
use Rattle.calls.specs.declared.Answer.TheVariants.{Accepted, Refused}
use Rattle.calls.specs.declared.Letter.{Letter}
use Rattle.calls.specs.declared.Letter.TheVariants.{A, B, C, D, E, F, G, H, None}
use Rattle.calls.specs.declared.Command.{Command}
use Rattle.calls.specs.declared.CommandError.{CommandError}
use Rattle.calls.specs.declared.CommandError.TheVariants.{NoKind}

-- an answer's number: 'refusal or 0'
abbrev pub answer_number : Answer → ℕ
answer_number Accepted = 0
answer_number (Refused n) = n

-- document 02, A2: 'The centre's screen shows the transition by its letter': its byte in ASCII, 0 for none
abbrev pub letter_byte : Letter → ℕ
letter_byte A = 97
letter_byte B = 98
letter_byte C = 99
letter_byte D = 100
letter_byte E = 101
letter_byte F = 102
letter_byte G = 103
letter_byte H = 104
letter_byte None = 0

-- the number of a call's kind in document 01's list, and of the two kinds of document 02, A3
abbrev pub kind_of : Call → ℕ
kind_of (Sample p) = 1
kind_of RemoteDisconnect = 2
kind_of RemoteReconnect = 3
kind_of ManualDisconnect = 4
kind_of ManualReconnect = 5
kind_of (SetMode n) = 6
kind_of (SetLimiter t o u) = 7
kind_of (SetClock n) = 8
kind_of (Event c) = 9
kind_of (SetAlarmFilter n) = 10
kind_of (SetErrorFilter n) = 11
kind_of (ClearAlarms n) = 12
kind_of (ClearErrors n) = 13
kind_of (ClearLog n) = 14
kind_of (Script n) = 15
kind_of (SetGroups n a b c d) = 16
kind_of (SetProfile i t a d) = 17

-- 'a sample or threshold is two's complement', the emergency threshold too
abbrev pub signed_of : ℕ → ℤ
signed_of n = cond (ltb n 2147483648) (pos n) (negsuc (4294967295 - n))

-- a command of this kind and these numbers
abbrev pub command_of : ℕ → ℕ → ℕ → ℕ → ℕ → ℕ → Command
command_of k n1 n2 n3 n4 n5 = record { kind = k; n1 = n1; n2 = n2; n3 = n3; n4 = n4; n5 = n5 }

-- what a command is read as: the call that it names, or that it names none
abbrev pub Parsed : Type 0
Parsed = Result Call CommandError

-- the call of a command's kind and five numbers, 'unused ones ignored'; document 02, A3: 'Kind 16 sets up to eight group ids (16 bits): a count, then the ids
-- two to a number, high half first. Kind 17 takes an id, an emergency threshold, an activation clock and a duration in samples', and 'Refusal 13 now means not
-- 1–17'
unfoldable pub call_of : Command → Parsed
call_of r =
    let k = r.kind in
    cond (eqb k 1) (Ok (Sample (signed_of r.n1)))
    (cond (eqb k 2) (Ok RemoteDisconnect)
    (cond (eqb k 3) (Ok RemoteReconnect)
    (cond (eqb k 4) (Ok ManualDisconnect)
    (cond (eqb k 5) (Ok ManualReconnect)
    (cond (eqb k 6) (Ok (SetMode r.n1))
    (cond (eqb k 7) (Ok (SetLimiter (signed_of r.n1) r.n2 r.n3))
    (cond (eqb k 8) (Ok (SetClock r.n1))
    (cond (eqb k 9) (Ok (Event r.n1))
    (cond (eqb k 10) (Ok (SetAlarmFilter r.n1))
    (cond (eqb k 11) (Ok (SetErrorFilter r.n1))
    (cond (eqb k 12) (Ok (ClearAlarms r.n1))
    (cond (eqb k 13) (Ok (ClearErrors r.n1))
    (cond (eqb k 14) (Ok (ClearLog r.n1))
    (cond (eqb k 15) (Ok (Script r.n1))
    (cond (eqb k 16) (Ok (SetGroups r.n1 r.n2 r.n3 r.n4 r.n5))
    (cond (eqb k 17) (Ok (SetProfile r.n1 (signed_of r.n2) r.n3 r.n4))
    (Err NoKind)))))))))))))))))

-- a number of 32 bits
abbrev pub Word : ℕ → Type 0
Word n = n ≤ 4294967295

-- a signed number of 32 bits
abbrev pub Signed : ℤ → Type 0
Signed z = (le_z (negsuc 2147483647) z ≡ true) × (le_z z (pos 2147483647) ≡ true)

-- the numbers of a call are values of their types
abbrev pub InRange : Call → Type 0
InRange (Sample p) = Signed p
InRange RemoteDisconnect = Unit
InRange RemoteReconnect = Unit
InRange ManualDisconnect = Unit
InRange ManualReconnect = Unit
InRange (SetMode n) = Word n
InRange (SetLimiter t o u) = Signed t × (Word o × Word u)
InRange (SetClock n) = Word n
InRange (Event c) = Word c
InRange (SetAlarmFilter n) = Word n
InRange (SetErrorFilter n) = Word n
InRange (ClearAlarms n) = Word n
InRange (ClearErrors n) = Word n
InRange (ClearLog n) = Word n
InRange (Script n) = Word n
InRange (SetGroups n a b c d) = Word n × (Word a × (Word b × (Word c × Word d)))
InRange (SetProfile i t a d) = Word i × (Signed t × (Word a × Word d))

-- of each call of a list
abbrev pub AllInRange : List Call → Type 0
AllInRange [] = Unit
AllInRange (c ∷ cs) = InRange c × AllInRange cs
