-- What the switch table's rows answer, in the shape of the code's `match`.
use mathlib.Core.Path.{◌≡◌, refl}
use mathlib.Core.Bool.{Bool, true, false, ◌||◌, cond, and-false}
use mathlib.Core.List.{[], ◌∷◌}
use Prim.Native.Nat.{ℕ, zero, suc, ◌<◌, ◌≤◌}
use native.Mathlib.Omega.{arith}
use lib.Dec.{eqb, ltb}
use borrow.Author.Tests.{ltb-true, ltb-false}
use Rattle.base.specs.Tests.{among, within}
use Rattle.base.proofs.Bools.{by_test}
use Rattle.base.proofs.Tests.{tests, above_leb}
use Rattle.calls.specs.declared.Letter.{Letter}
use Rattle.calls.specs.declared.Letter.TheVariants.{A, B, C, D, E, F, G, H}
use Rattle.control.specs.declared.Request.{Request}
use Rattle.control.specs.declared.Request.TheVariants.{RemoteDisconnect, RemoteReconnect, ManualDisconnect, ManualReconnect, LocalDisconnect}
use Rattle.control.specs.declared.Request.TheVariants.{LocalReconnect}
use Rattle.control.specs.declared.Decision.{Decision}
use Rattle.control.specs.declared.Decision.TheVariants.{Move, Stay, NotListed}
use Rattle.control.specs.Table.{switch_table}
use Rattle.control.specs.Control.{or_stay, decision}
use Rattle.control.proofs.Moves.{outside}

-- what `from` ensures
abbrev from : ℕ → ℕ → ℕ → ℕ → Letter → Decision
from start s t n x = cond (eqb s start) (Move t n (eqb s 1) x) Stay

abbrev in_listed_mode : Request → ℕ → ℕ → Decision
in_listed_mode RemoteReconnect m s = cond (among (2 ∷ 4 ∷ []) m) (cond (among (0 ∷ 2 ∷ []) s) (Move 1 63 (eqb s 1) A) Stay) (from 0 s 2 59 D)
in_listed_mode RemoteDisconnect m s = cond (eqb s 1) (Move 0 62 (eqb s 1) B) (from 2 s 0 62 C)
in_listed_mode ManualReconnect m s = from 2 s 1 61 E
in_listed_mode ManualDisconnect m s = cond (eqb m 5 || within 1 2 m) (from 1 s 2 60 F) NotListed
in_listed_mode LocalDisconnect m s = from 1 s 2 64 G
in_listed_mode LocalReconnect m s = cond (within 5 6 m) (from 2 s 1 69 H) NotListed

unfoldable pub answered : Request → ℕ → ℕ → Decision
answered q m s = cond (within 1 6 m) (in_listed_mode q m s) NotListed

-- a family at each number below k
abbrev Below : ℕ → (ℕ → Type 0) → Type 0
Below zero P = Unit
Below (suc k) P = Below k P × P k

at : (P : ℕ → Type 0) (k : ℕ) → Below k P → (m : ℕ) → m < k → P m
at P zero h m b = absurd (omega arith)
at P (suc k) h m b =
    by_test (ltb m k) (λ e. at P k h.0 m (ltb-true m k e)) (λ e. let z : m ≡ k = omega (arith, ltb-false m k e) in rw z h.1)

-- a remote disconnect has two rows, from 1 and from 2; so has a remote reconnect in modes 2 and 4, from 0 and from 2, with one letter
two_rows : (a b o : Bool) (t n : ℕ) (x y : Letter)
    → cond a (Move t n o x) (or_stay (cond b (Move t n o y) Stay)) ≡ cond a (Move t n o x) (cond b (Move t n o y) Stay)
two_rows true b o t n x y = refl
two_rows false true o t n x y = refl
two_rows false false o t n x y = refl

one_letter : (a b o : Bool) (t n : ℕ) (x : Letter) → cond a (Move t n o x) (or_stay (cond b (Move t n o x) Stay)) ≡ cond (a || (b || false)) (Move t n o x) Stay
one_letter true b o t n x = refl
one_letter false true o t n x = refl
one_letter false false o t n x = refl

-- modes 0 to 6, by computing
computed : (q : Request) (s : ℕ) → Below 7 (λ m. decision switch_table q m s ≡ answered q m s)
unfolding decision switch_table among answered
computed RemoteDisconnect s = search two_rows depth 9
computed RemoteReconnect s = search one_letter depth 9
computed ManualDisconnect s = search
computed ManualReconnect s = search
computed LocalDisconnect s = search
computed LocalReconnect s = search

-- modes above 6, which no row lists
above : (q : Request) (m s : ℕ) → 7 ≤ m → decision switch_table q m s ≡ answered q m s
unfolding answered
above q m s h =
    let z : within 1 6 m ≡ false = search (above_leb, and-false) in
    rw (outside q m s z, z)

pub rows : (q : Request) (m s : ℕ) → decision switch_table q m s ≡ answered q m s
rows q m s =
    by_test (ltb m 7) (λ e. at (λ k. decision switch_table q k s ≡ answered q k s) 7 (computed q s) m (ltb-true m 7 e))
    (λ e. above q m s (ltb-false m 7 e))

-- the same at a return, where the request was told, and where the mode alone decides
pub asked : (q q' : Request) (m s : ℕ) (d : Decision) → q ≡ q' → d ≡ answered q' m s → d ≡ decision switch_table q m s
asked q q' m s d e h = rw (rows q m s, e) h

pub in_mode_lem : (q : Request) (m s : ℕ) (d : Decision) → d ≡ answered q m s → d ≡ decision switch_table q m s
in_mode_lem q m s d h = rw (rows q m s) h

pub ruleset answers = (asked, in_mode_lem, tests)
