-- The call that a kind names is of that kind, and the kinds from 1 to 17 name one.
use Rattle.calls.specs.Calls.{Parsed}
use Rattle.base.proofs.Prelude.{◌≡◌, refl, sym, ◌∙◌, true, false, cond, false≢true, and-false, ℕ, suc, ◌≤◌, arith, eqb, lt-leb, eqb-true, eqb-false, within}
use Rattle.base.proofs.Prelude.{by_test, ℤ, pos, negsuc, ◌-◌, lt-ltb, le-ltb, leb-true}
use Rattle.calls.specs.declared.{Call.Call, Command.Command, CommandError.CommandError}
use Rattle.calls.specs.declared.Call.TheVariants.{Sample, RemoteDisconnect, RemoteReconnect, ManualDisconnect, ManualReconnect, SetMode}
use Rattle.calls.specs.declared.Call.TheVariants.{SetLimiter, SetClock, Event, SetAlarmFilter, SetErrorFilter, ClearAlarms, ClearErrors, ClearLog}
use Rattle.calls.specs.declared.Call.TheVariants.{Script, SetGroups, SetProfile}
use Rattle.calls.specs.declared.CommandError.TheVariants.{NoKind}
use Rattle.std.specs.Prelude.{Ok, Err}
use mathlib.Core.List.{[], ◌∷◌, map}
use Rattle.calls.specs.Calls.{kind_of, signed_of, call_of, command_of, Signed, InRange}
use Rattle.calls.specs.Laws.{bits_of, command_naming, Laws}

-- a command names no call for one reason alone
pub one_error : (e : CommandError) → e ≡ NoKind
one_error NoKind = refl

-- what was read of a kind: a call of that kind, which is one from 1 to 17, or none, and then it is none of them
abbrev Read : ℕ → Parsed → Type 0
Read k (Ok c) = (kind_of c ≡ k) × (within 1 17 k ≡ true)
Read k (Err NoKind) = within 1 17 k ≡ false

-- one kind of the list: it is this one, or a later one
or_later : (k j : ℕ) (x : Call) (rest : Parsed) → kind_of x ≡ j → within 1 17 j ≡ true → (suc j ≤ k → Read k rest) → j ≤ k
    → Read k (cond (eqb k j) (Ok x) rest)
or_later k j x rest d w later h =
    by_test (eqb k j) (λ q. rw (q, eqb-true k j q) (d, w)) (λ q. rw q (later (omega (arith, eqb-false k j q))))

from_one : (r : Command) → 1 ≤ r.kind → Read r.kind (call_of r)
unfolding call_of
from_one r =
    let k = r.kind in
    or_later k 1 _ _ refl refl (or_later k 2 _ _ refl refl (or_later k 3 _ _ refl refl (or_later k 4 _ _ refl refl (or_later k 5 _ _ refl refl
    (or_later k 6 _ _ refl refl (or_later k 7 _ _ refl refl (or_later k 8 _ _ refl refl (or_later k 9 _ _ refl refl (or_later k 10 _ _ refl refl
    (or_later k 11 _ _ refl refl (or_later k 12 _ _ refl refl (or_later k 13 _ _ refl refl (or_later k 14 _ _ refl refl (or_later k 15 _ _ refl refl
    (or_later k 16 _ _ refl refl (or_later k 17 _ _ refl refl (λ h. simp (lt-leb k 17 h, and-false))))))))))))))))))

module _ (r : Command) where
  read : Read r.kind (call_of r)
  unfolding call_of
  read = by_test (eqb r.kind 0) (λ q. rw (eqb-true r.kind 0 q)) (λ q. from_one r (omega (arith, eqb-false r.kind 0 q)))

  kind_named : (c : Call) → call_of r ≡ Ok c → kind_of c ≡ r.kind
  kind_named c e = (rw e at read).0

  no_kind : within 1 17 r.kind ≡ false → call_of r ≡ Err NoKind
  no_kind out = go (call_of r) refl
    where
      go : (p : Parsed) → call_of r ≡ p → p ≡ Err NoKind
      go (Ok c) e = absurd (false≢true (sym out ∙ (rw e at read).1))
      go (Err NoKind) e = refl

  some_kind : within 1 17 r.kind ≡ true → call_of r ≡ Err NoKind → ⊥
  some_kind kind e = false≢true (sym (rw e at read) ∙ kind)

-- two's complement gives every signed number of 32 bits back
pub signed_back : (z : ℤ) → Signed z → signed_of (bits_of z) ≡ z
signed_back (pos n) h = rw (lt-ltb n 2147483648 (omega (arith, leb-true n 2147483647 h.1)))
signed_back (negsuc n) h =
    let most = leb-true n 2147483647 h.0 in
    let back : 4294967295 - (4294967295 - n) ≡ n = omega (arith, most) in
    rw (le-ltb (4294967295 - n) 2147483648 (omega (arith, most)), back)

call_named : (c : Call) → InRange c → call_of (command_naming c) ≡ Ok c
unfolding call_of
call_named (Sample p) h = rw (signed_back p h)
call_named RemoteDisconnect h = refl
call_named RemoteReconnect h = refl
call_named ManualDisconnect h = refl
call_named ManualReconnect h = refl
call_named (SetMode n) h = refl
call_named (SetLimiter t o u) h = rw (signed_back t h.0)
call_named (SetClock n) h = refl
call_named (Event c) h = refl
call_named (SetAlarmFilter n) h = refl
call_named (SetErrorFilter n) h = refl
call_named (ClearAlarms n) h = refl
call_named (ClearErrors n) h = refl
call_named (ClearLog n) h = refl
call_named (Script n) h = refl
call_named (SetGroups n a b c d) h = refl
call_named (SetProfile i t a d) h = rw (signed_back t h.1.0)

unused_ignored :
    (a b c d e : ℕ)
    → map (λ k. call_of (command_of k a b c d e)) (1 ∷ 2 ∷ 3 ∷ 4 ∷ 5 ∷ 6 ∷ 7 ∷ 8 ∷ 9 ∷ 10 ∷ 11 ∷ 12 ∷ 13 ∷ 14 ∷ 15 ∷ 16 ∷ 17 ∷ [])
    ≡ map Ok
    (Sample (signed_of a) ∷ RemoteDisconnect ∷ RemoteReconnect ∷ ManualDisconnect ∷ ManualReconnect ∷ SetMode a ∷ SetLimiter (signed_of a) b c
    ∷ SetClock a ∷ Event a ∷ SetAlarmFilter a ∷ SetErrorFilter a ∷ ClearAlarms a ∷ ClearErrors a ∷ ClearLog a ∷ Script a ∷ SetGroups a b c d e
    ∷ SetProfile a (signed_of b) c d ∷ [])
unfolding call_of
unused_ignored a b c d e = refl

pub laws : Laws
laws =
    record {
      kind_named = kind_named;
      call_named = call_named;
      no_kind = no_kind;
      some_kind = some_kind;
      unused_ignored = unused_ignored;
      answer_numbers = λ n. (refl, refl);
      letter_bytes = refl;
    }
