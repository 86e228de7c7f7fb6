-- The call that a kind names is of that kind, and the kinds from 1 to 15 name one.
use Rattle.base.proofs.Prelude.{◌≡◌, refl, sym, ◌∙◌, true, false, cond, false≢true, and-false, ℕ, suc, ◌≤◌, arith, eqb, lt-leb, eqb-true, eqb-false, within}
use Rattle.base.proofs.Prelude.{by_test}
use Rattle.phases.specs.declared.{ThreePhaseCall.ThreePhaseCall, ThreePhaseCommand.ThreePhaseCommand}
use Rattle.phases.specs.declared.ThreePhaseCall.TheVariants.{Sample, RemoteDisconnect, RemoteReconnect, ManualDisconnect, ManualReconnect, SetMode}
use Rattle.phases.specs.declared.ThreePhaseCall.TheVariants.{SetLimiter, SetClock, Event, SetAlarmFilter, SetErrorFilter, ClearAlarms, ClearErrors}
use Rattle.phases.specs.declared.ThreePhaseCall.TheVariants.{ClearLog, Script}
use Rattle.phases.specs.Calls.{ThreePhaseParsed}
use Rattle.calls.specs.declared.CommandError.TheVariants.{NoKind}
use Rattle.std.specs.Prelude.{Ok, Err}
use Rattle.base.specs.Tests.{numbers_from}
use Rattle.calls.proofs.Named.{signed_back}
use Rattle.phases.specs.Calls.{three_phase_kind_of, three_phase_call_of, ThreePhaseInRange}
use Rattle.phases.specs.Laws.{three_phase_command_naming, Laws}

-- what was read of a kind: a call of that kind, which is one from 1 to 15, or none, and then it is none of them
abbrev Read : ℕ → ThreePhaseParsed → Type 0
Read k (Ok c) = (three_phase_kind_of c ≡ k) × (within 1 15 k ≡ true)
Read k (Err NoKind) = within 1 15 k ≡ false

-- one kind of the list: it is this one, or a later one
or_later : (k j : ℕ) (x : ThreePhaseCall) (rest : ThreePhaseParsed) → three_phase_kind_of x ≡ j → within 1 15 j ≡ true → (suc j ≤ k → Read k rest) → j ≤ k
    → Read k (cond (eqb k j) (Ok x) rest)
or_later k j x rest d w later h =
    by_test (eqb k j) (λ q. rw (q, eqb-true k j q) (d, w)) (λ q. rw q (later (omega (arith, eqb-false k j q))))

from_one : (r : ThreePhaseCommand) → 1 ≤ r.kind → Read r.kind (three_phase_call_of r)
unfolding three_phase_call_of
from_one r =
    let k = r.kind in
    or_later k 1 _ _ refl refl (or_later k 2 _ _ refl refl (or_later k 3 _ _ refl refl (or_later k 4 _ _ refl refl (or_later k 5 _ _ refl refl
    (or_later k 6 _ _ refl refl (or_later k 7 _ _ refl refl (or_later k 8 _ _ refl refl (or_later k 9 _ _ refl refl (or_later k 10 _ _ refl refl
    (or_later k 11 _ _ refl refl (or_later k 12 _ _ refl refl (or_later k 13 _ _ refl refl (or_later k 14 _ _ refl refl (or_later k 15 _ _ refl refl
    (λ h. simp (lt-leb k 15 h, and-false))))))))))))))))

module _ (r : ThreePhaseCommand) where
  read : Read r.kind (three_phase_call_of r)
  unfolding three_phase_call_of
  read = by_test (eqb r.kind 0) (λ q. rw (eqb-true r.kind 0 q)) (λ q. from_one r (omega (arith, eqb-false r.kind 0 q)))

  kind_named : (c : ThreePhaseCall) → three_phase_call_of r ≡ Ok c → three_phase_kind_of c ≡ r.kind
  kind_named c e = (rw e at read).0

  no_kind : within 1 15 r.kind ≡ false → three_phase_call_of r ≡ Err NoKind
  no_kind out = go (three_phase_call_of r) refl
    where
      go : (p : ThreePhaseParsed) → three_phase_call_of r ≡ p → p ≡ Err NoKind
      go (Ok c) e = absurd (false≢true (sym out ∙ (rw e at read).1))
      go (Err NoKind) e = refl

  some_kind : within 1 15 r.kind ≡ true → three_phase_call_of r ≡ Err NoKind → ⊥
  some_kind kind e = false≢true (sym (rw e at read) ∙ kind)

call_named : (c : ThreePhaseCall) → ThreePhaseInRange c → three_phase_call_of (three_phase_command_naming c) ≡ Ok c
unfolding three_phase_call_of
call_named (Sample a b c) h = rw (signed_back a h.0, signed_back b h.1.0, signed_back c h.1.1)
call_named RemoteDisconnect h = refl
call_named RemoteReconnect h = refl
call_named ManualDisconnect h = refl
call_named ManualReconnect h = refl
call_named (SetMode n) h = refl
call_named (SetLimiter a b c d o u) h =
    rw (signed_back a h.0, signed_back b h.1.0, signed_back c h.1.1.0, signed_back d h.1.1.1.0)
call_named (SetClock n) h = refl
call_named (Event c) h = refl
call_named (SetAlarmFilter n) h = refl
call_named (SetErrorFilter n) h = refl
call_named (ClearAlarms n) h = refl
call_named (ClearErrors n) h = refl
call_named (ClearLog n) h = refl
call_named (Script n) h = refl

pub laws : Laws
unfolding three_phase_call_of numbers_from
laws = record { kind_named = kind_named; call_named = call_named; no_kind = no_kind; some_kind = some_kind; unused_ignored = refl }
