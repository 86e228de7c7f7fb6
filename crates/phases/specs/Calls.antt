-- The calls of the three-phase meter (document 02, A13): document 01's fifteen, with three powers in a sample and four thresholds in a limiter setting.
-- '.. A3's profile and area aren't offered here, its kinds get 13 ..'
use Rattle.std.specs.Prelude.{ℕ, cond, List, [], ◌∷◌, eqb, Result, Ok, Err}
use Rattle.calls.specs.Calls.{signed_of, Word, Signed}
use Rattle.phases.specs.declared.ThreePhaseCall.{ThreePhaseCall}
use Rattle.phases.specs.declared.ThreePhaseCall.TheVariants.{Sample, RemoteDisconnect, RemoteReconnect, ManualDisconnect, ManualReconnect, SetMode}
use Rattle.phases.specs.declared.ThreePhaseCall.TheVariants.{SetLimiter, SetClock, Event, SetAlarmFilter, SetErrorFilter, ClearAlarms, ClearErrors}
use Rattle.phases.specs.declared.ThreePhaseCall.TheVariants.{ClearLog, Script}
use Rattle.phases.specs.declared.ThreePhaseCommand.{ThreePhaseCommand}
use Rattle.calls.specs.declared.CommandError.{CommandError}
use Rattle.calls.specs.declared.CommandError.TheVariants.{NoKind}

-- the number of a call's kind in document 01's list
abbrev pub three_phase_kind_of : ThreePhaseCall → ℕ
three_phase_kind_of (Sample a b c) = 1
three_phase_kind_of RemoteDisconnect = 2
three_phase_kind_of RemoteReconnect = 3
three_phase_kind_of ManualDisconnect = 4
three_phase_kind_of ManualReconnect = 5
three_phase_kind_of (SetMode n) = 6
three_phase_kind_of (SetLimiter a b c d o u) = 7
three_phase_kind_of (SetClock n) = 8
three_phase_kind_of (Event c) = 9
three_phase_kind_of (SetAlarmFilter n) = 10
three_phase_kind_of (SetErrorFilter n) = 11
three_phase_kind_of (ClearAlarms n) = 12
three_phase_kind_of (ClearErrors n) = 13
three_phase_kind_of (ClearLog n) = 14
three_phase_kind_of (Script n) = 15

-- a command of this kind and these numbers
abbrev pub three_phase_command_of : ℕ → ℕ → ℕ → ℕ → ℕ → ℕ → ℕ → ℕ → ℕ → ThreePhaseCommand
three_phase_command_of k n1 n2 n3 n4 n5 n6 n7 n8 =
    record { kind = k; n1 = n1; n2 = n2; n3 = n3; n4 = n4; n5 = n5; n6 = n6; n7 = n7; n8 = n8 }

-- what a command is read as: the call that it names, or that it names none
abbrev pub ThreePhaseParsed : Type 0
ThreePhaseParsed = Result ThreePhaseCall CommandError

-- the call of a command's kind and numbers: '.. three powers a second', 'Fresh and call 7 take four thresholds ..', and Over and Under behind them; 'a
-- sample or threshold is two's complement', 'unused ones ignored'
unfoldable pub three_phase_call_of : ThreePhaseCommand → ThreePhaseParsed
three_phase_call_of r =
    let k = r.kind in
    cond (eqb k 1) (Ok (Sample (signed_of r.n1) (signed_of r.n2) (signed_of r.n3)))
    (cond (eqb k 2) (Ok RemoteDisconnect)
    (cond (eqb k 3) (Ok RemoteReconnect)
    (cond (eqb k 4) (Ok ManualDisconnect)
    (cond (eqb k 5) (Ok ManualReconnect)
    (cond (eqb k 6) (Ok (SetMode r.n1))
    (cond (eqb k 7) (Ok (SetLimiter (signed_of r.n1) (signed_of r.n2) (signed_of r.n3) (signed_of r.n4) r.n5 r.n6))
    (cond (eqb k 8) (Ok (SetClock r.n1))
    (cond (eqb k 9) (Ok (Event r.n1))
    (cond (eqb k 10) (Ok (SetAlarmFilter r.n1))
    (cond (eqb k 11) (Ok (SetErrorFilter r.n1))
    (cond (eqb k 12) (Ok (ClearAlarms r.n1))
    (cond (eqb k 13) (Ok (ClearErrors r.n1))
    (cond (eqb k 14) (Ok (ClearLog r.n1))
    (cond (eqb k 15) (Ok (Script r.n1))
    (Err NoKind)))))))))))))))

-- the numbers of a call are values of their types
abbrev pub ThreePhaseInRange : ThreePhaseCall → Type 0
ThreePhaseInRange (Sample a b c) = Signed a × (Signed b × Signed c)
ThreePhaseInRange RemoteDisconnect = Unit
ThreePhaseInRange RemoteReconnect = Unit
ThreePhaseInRange ManualDisconnect = Unit
ThreePhaseInRange ManualReconnect = Unit
ThreePhaseInRange (SetMode n) = Word n
ThreePhaseInRange (SetLimiter a b c d o u) = Signed a × (Signed b × (Signed c × (Signed d × (Word o × Word u))))
ThreePhaseInRange (SetClock n) = Word n
ThreePhaseInRange (Event c) = Word c
ThreePhaseInRange (SetAlarmFilter n) = Word n
ThreePhaseInRange (SetErrorFilter n) = Word n
ThreePhaseInRange (ClearAlarms n) = Word n
ThreePhaseInRange (ClearErrors n) = Word n
ThreePhaseInRange (ClearLog n) = Word n
ThreePhaseInRange (Script n) = Word n

-- of each call of a list
abbrev pub AllThreePhaseInRange : List ThreePhaseCall → Type 0
AllThreePhaseInRange [] = Unit
AllThreePhaseInRange (c ∷ cs) = ThreePhaseInRange c × AllThreePhaseInRange cs
