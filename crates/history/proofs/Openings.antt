-- Refused calls count for nothing: the account of a list of calls, its openings too, is that of its accepted calls.
use Prim.Native.Nat.{ℕ, suc}
use mathlib.Core.Path.{◌≡◌, refl, sym, ap, ◌∙◌}
use mathlib.Core.Bool.{Bool, true, false, not, ◌&&◌, cond}
use mathlib.Core.List.{List, [], ◌∷◌}
use lib.Dec.{eqb}
use lib.ListN.{length}
use Rattle.events.specs.Table.{EventRow}
use Rattle.history.specs.Effects.{AnyCall, AnyFresh, Reading, refused, accepted, reading}
use Rattle.history.specs.Last.{History, mode_of}
use Rattle.history.specs.Profile.{groups_of}
use Rattle.history.specs.Switch.{switch_of}
use Rattle.history.specs.Account.{grown, accepted_calls, opens, openings, account_of, account_after, switch_after}
use Rattle.history.specs.Splits.{opening_prefixes}
use Rattle.history.specs.Laws.{openings_of}

-- 'refused calls count for nothing'
pub refused_nothing :
    (rows : List EventRow) (f : AnyFresh) (c : AnyCall) (cs : List AnyCall) (n : ℕ)
    → reading rows (mode_of f (accepted_calls rows f cs)) (groups_of (accepted_calls rows f cs)) c ≡ refused n
    → accepted_calls rows f (c ∷ cs) ≡ accepted_calls rows f cs
unfolding accepted_calls
refused_nothing rows f c cs n q = rw q

-- a call that leaves the switch opens nothing
opens_not : (n : ℕ) → opens n n ≡ false
opens_not n = go (eqb n 1)
  where
    go : (x : Bool) → x && not x ≡ false
    go true = refl
    go false = refl

one_call :
    (f : AnyFresh) (r : Reading) (h : History)
    → cond (opens (switch_of f h) (switch_of f (grown r h))) (suc (openings_of f h)) (openings_of f h) ≡ openings_of f (grown r h)
unfolding openings_of
one_call f (refused n) h = rw (opens_not (switch_of f h))
one_call f (accepted e) h = refl

pub openings_accepted : (rows : List EventRow) (f : AnyFresh) (cs : List AnyCall) → openings rows f cs ≡ openings_of f (accepted_calls rows f cs)
unfolding openings accepted_calls openings_of
openings_accepted rows f [] = refl
openings_accepted rows f (c ∷ cs) =
    let h = accepted_calls rows f cs in
    rw (openings_accepted rows f cs) (one_call f (reading rows (mode_of f h) (groups_of h) c) h)

-- 'prefixes with switch 1 whose next call gives another', counted
pub openings_count_prefixes : (rows : List EventRow) (f : AnyFresh) (cs : List AnyCall) → openings rows f cs ≡ length (opening_prefixes rows f cs)
unfolding openings opening_prefixes
openings_count_prefixes rows f [] = refl
openings_count_prefixes rows f (c ∷ cs) = rw (openings_count_prefixes rows f cs) (go (opens (switch_after rows f cs) (switch_after rows f (c ∷ cs))))
  where
    go : (x : Bool) → let ps = opening_prefixes rows f cs in cond x (suc (length ps)) (length ps) ≡ length (cond x (cs ∷ ps) ps)
    go true = refl
    go false = refl

-- the whole account: of the accepted calls alone, and the same before and after a refused call
pub account_accepted :
    (rows : List EventRow) (f : AnyFresh) (cs : List AnyCall)
    → account_after rows f cs ≡ account_of f (accepted_calls rows f cs) (openings_of f (accepted_calls rows f cs))
account_accepted rows f cs = ap (account_of f (accepted_calls rows f cs)) (openings_accepted rows f cs)

pub refused_account :
    (rows : List EventRow) (f : AnyFresh) (c : AnyCall) (cs : List AnyCall) (n : ℕ)
    → reading rows (mode_of f (accepted_calls rows f cs)) (groups_of (accepted_calls rows f cs)) c ≡ refused n
    → account_after rows f (c ∷ cs) ≡ account_after rows f cs
refused_account rows f c cs n q =
    account_accepted rows f (c ∷ cs)
    ∙ ap (λ (h : History). account_of f h (openings_of f h)) (refused_nothing rows f c cs n q)
    ∙ sym (account_accepted rows f cs)
