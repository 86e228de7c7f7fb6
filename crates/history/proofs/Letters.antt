-- The letter of each accepted call is that of the row of the switch table by which the account's switch went.
use Prim.Native.Nat.{ℕ}
use mathlib.Core.Path.{◌≡◌, refl, ap, subst}
use mathlib.Core.Bool.{Bool, true, false, not, ◌&&◌, cond}
use mathlib.Core.List.{List, [], ◌∷◌}
use mathlib.Core.Logic.{◌↔◌}
use mathlib.Core.Option.{none, some}
use lib.Dec.{eqb}
use lib.IntN.{ℤ}
use borrow.Author.Tests.{eqb-true, eq-eqb}
use Rattle.base.specs.Tests.{among}
use Rattle.events.specs.Table.{EventRow}
use Rattle.calls.specs.declared.Letter.{Letter}
use Rattle.calls.specs.declared.Letter.TheVariants.{None}
use Rattle.history.specs.Effects.{AnyFresh, remote_disconnect, remote_reconnect, manual_disconnect, manual_reconnect, AnyCall, Effect, sampled, requested}
use Rattle.history.specs.Effects.{mode_set, limits_set, clock_set, occurred, filter_set, bits_cleared, log_cleared, groups_set, profile_set, refused, reading}
use Rattle.history.specs.Last.{History, otherwise, given, last, mode_of}
use Rattle.history.specs.Profile.{groups_of}
use Rattle.history.specs.Switch.{spell, tries_disconnect, tries_reconnect, observations, last_decided, switch_of}
use Rattle.history.specs.Account.{accepted_calls}
use Rattle.history.specs.Letters.{move_letter, letter_of, letter_after, TableMove, row_a, rowAFrom_ready, row_b, row_c, row_d, row_e, row_f}
use Rattle.history.specs.Letters.{row_g, row_h, AnswersLetter, by_row, unmoved, mode_zero}

-- ---- what the last deciding call gives: 1 or 2
pub data OneOrTwo : ℕ → Type 0 where
  one : OneOrTwo 1
  two : OneOrTwo 2

decided_given : (x : Bool) {k c : ℕ} → OneOrTwo k → OneOrTwo c → OneOrTwo (otherwise (given x k) c)
decided_given true p q = p
decided_given false p q = q

decided_sample : (s a x u : Bool) {c : ℕ} → OneOrTwo c → OneOrTwo (otherwise (cond s none (cond a (given x 2) (given u 1))) c)
decided_sample true a x u p = p
decided_sample false true x u p = decided_given x two p
decided_sample false false x u p = decided_given u one p

decided_reconnect : (s x : Bool) {c : ℕ} → OneOrTwo c → OneOrTwo (otherwise (cond s (some (cond x 1 2)) (given x 1)) c)
decided_reconnect true true p = one
decided_reconnect true false p = two
decided_reconnect false x p = decided_given x one p

-- whether a sample tries g, and whether h
abbrev pub tried_g : AnyFresh → History → List ℤ → Bool
tried_g f h ps = tries_disconnect f (λ k. observations f k h) (λ k. observations f k (sampled ps ∷ h))

abbrev pub tried_h : AnyFresh → History → List ℤ → Bool
tried_h f h ps = tries_reconnect f (λ k. observations f k h) (λ k. observations f k (sampled ps ∷ h))

pub last_decided_lem : (f : AnyFresh) (h : History) → OneOrTwo (last_decided f h)
unfolding observations last_decided
last_decided_lem f [] = one
last_decided_lem f (sampled ps ∷ h) =
    decided_sample (spell h) (tried_g f h ps) (not (eqb (mode_of f h) 0)) (tried_h f h ps && among (5 ∷ 6 ∷ []) (mode_of f h)) (last_decided_lem f h)
last_decided_lem f (requested remote_disconnect ∷ h) = last_decided_lem f h
last_decided_lem f (requested remote_reconnect ∷ h) = decided_reconnect (spell h) (among (2 ∷ 4 ∷ []) (mode_of f h)) (last_decided_lem f h)
last_decided_lem f (requested manual_disconnect ∷ h) = decided_given (not (spell h)) two (last_decided_lem f h)
last_decided_lem f (requested manual_reconnect ∷ h) = decided_given (not (spell h)) one (last_decided_lem f h)
last_decided_lem f (mode_set n ∷ h) = decided_given (eqb n 0) one (last_decided_lem f h)
last_decided_lem f (limits_set t o u ∷ h) = last_decided_lem f h
last_decided_lem f (clock_set n ∷ h) = last_decided_lem f h
last_decided_lem f (occurred r ∷ h) = last_decided_lem f h
last_decided_lem f (filter_set r n ∷ h) = last_decided_lem f h
last_decided_lem f (bits_cleared r n ∷ h) = last_decided_lem f h
last_decided_lem f (log_cleared n ∷ h) = last_decided_lem f h
last_decided_lem f (groups_set g ∷ h) = last_decided_lem f h
last_decided_lem f (profile_set w ∷ h) = last_decided_lem f h

-- ---- the letter of a row, by where the switch is inside a spell (s) and outside one (what the last deciding call gave)
abbrev letter_by : Effect → ℕ → ℕ → Letter
letter_by e from to = cond (not (eqb from to)) (move_letter e from to) None

abbrev ByRule : Effect → ℕ → ℕ → Type 0
ByRule e from to = AnswersLetter (letter_by e from to) e from to

disconnect_rule : (s : Bool) {k : ℕ} → OneOrTwo k → ByRule (requested remote_disconnect) (cond s 0 k) 0
disconnect_rule true p = unmoved refl refl
disconnect_rule false one = by_row (row_b refl refl refl refl)
disconnect_rule false two = by_row (row_c refl refl refl refl)

reconnect_rule : (s x : Bool) {k : ℕ} → OneOrTwo k
    → ByRule (requested remote_reconnect) (cond s 0 k) (otherwise (cond s (some (cond x 1 2)) (given x 1)) k)
reconnect_rule true true p = by_row (row_a refl refl refl refl)
reconnect_rule true false p = by_row (row_d refl refl refl refl)
reconnect_rule false true one = unmoved refl refl
reconnect_rule false true two = by_row (rowAFrom_ready refl refl refl refl)
reconnect_rule false false one = unmoved refl refl
reconnect_rule false false two = unmoved refl refl

manual_disconnect_rule : (s : Bool) {k : ℕ} → OneOrTwo k → ByRule (requested manual_disconnect) (cond s 0 k) (cond s 0 (otherwise (given (not s) 2) k))
manual_disconnect_rule true p = unmoved refl refl
manual_disconnect_rule false one = by_row (row_f refl refl refl refl)
manual_disconnect_rule false two = unmoved refl refl

manual_reconnect_rule : (s : Bool) {k : ℕ} → OneOrTwo k → ByRule (requested manual_reconnect) (cond s 0 k) (cond s 0 (otherwise (given (not s) 1) k))
manual_reconnect_rule true p = unmoved refl refl
manual_reconnect_rule false one = unmoved refl refl
manual_reconnect_rule false two = by_row (row_e refl refl refl refl)

mode_rule : (n : ℕ) (s z : Bool) → eqb n 0 ≡ z → {k : ℕ} → OneOrTwo k
    → ByRule (mode_set n) (cond s 0 k) (cond (otherwise (given z false) s) 0 (otherwise (given z 1) k))
mode_rule n true true q p = mode_zero refl (ap mode_set (eqb-true n 0 q))
mode_rule n false true q one = unmoved refl refl
mode_rule n false true q two = mode_zero refl (ap mode_set (eqb-true n 0 q))
mode_rule n true false q p = unmoved refl refl
mode_rule n false false q one = unmoved refl refl
mode_rule n false false q two = unmoved refl refl

sample_rule : (ps : List ℤ) (s a x u : Bool) {k : ℕ} → OneOrTwo k
    → ByRule (sampled ps) (cond s 0 k) (cond s 0 (otherwise (cond s none (cond a (given x 2) (given u 1))) k))
sample_rule ps true a x u p = unmoved refl refl
sample_rule ps false true true u one = by_row (row_g ps refl refl refl refl)
sample_rule ps false true true u two = unmoved refl refl
sample_rule ps false true false u one = unmoved refl refl
sample_rule ps false true false u two = unmoved refl refl
sample_rule ps false false x true one = unmoved refl refl
sample_rule ps false false x true two = by_row (row_h ps refl refl refl refl)
sample_rule ps false false x false one = unmoved refl refl
sample_rule ps false false x false two = unmoved refl refl

-- a call that leaves the switch
stays : (e : Effect) (from : ℕ) → ByRule e from from
stays e from = unmoved (rw (eq-eqb from from refl)) refl

letter_rule : (f : AnyFresh) (e : Effect) (h : History) → AnswersLetter (letter_of f e h) e (switch_of f h) (switch_of f (e ∷ h))
unfolding switch_of spell last observations last_decided
letter_rule f (sampled ps) h =
    sample_rule ps (spell h) (tried_g f h ps) (not (eqb (mode_of f h) 0)) (tried_h f h ps && among (5 ∷ 6 ∷ []) (mode_of f h)) (last_decided_lem f h)
letter_rule f (requested remote_disconnect) h = disconnect_rule (spell h) (last_decided_lem f h)
letter_rule f (requested remote_reconnect) h = reconnect_rule (spell h) (among (2 ∷ 4 ∷ []) (mode_of f h)) (last_decided_lem f h)
letter_rule f (requested manual_disconnect) h = manual_disconnect_rule (spell h) (last_decided_lem f h)
letter_rule f (requested manual_reconnect) h = manual_reconnect_rule (spell h) (last_decided_lem f h)
letter_rule f (mode_set n) h = mode_rule n (spell h) (eqb n 0) refl (last_decided_lem f h)
letter_rule f (limits_set ts o u) h = stays (limits_set ts o u) (switch_of f h)
letter_rule f (clock_set n) h = stays (clock_set n) (switch_of f h)
letter_rule f (occurred r) h = stays (occurred r) (switch_of f h)
letter_rule f (filter_set s n) h = stays (filter_set s n) (switch_of f h)
letter_rule f (bits_cleared s n) h = stays (bits_cleared s n) (switch_of f h)
letter_rule f (log_cleared n) h = stays (log_cleared n) (switch_of f h)
letter_rule f (groups_set g) h = stays (groups_set g) (switch_of f h)
letter_rule f (profile_set w) h = stays (profile_set w) (switch_of f h)

-- a row has one letter
none_either : (x : Bool) → cond x None None ≡ None
none_either true = refl
none_either false = refl

row_letter : {x : Letter} {e : Effect} {from to : ℕ} → TableMove x e from to → letter_by e from to ≡ x
row_letter (row_a x e s t) = rw (x, e, s, t)
row_letter (rowAFrom_ready x e s t) = rw (x, e, s, t)
row_letter (row_d x e s t) = rw (x, e, s, t)
row_letter (row_b x e s t) = rw (x, e, s, t)
row_letter (row_c x e s t) = rw (x, e, s, t)
row_letter (row_e x e s t) = rw (x, e, s, t)
row_letter (row_f x e s t) = rw (x, e, s, t)
row_letter (row_g ps x e s t) = rw (x, e, s, t)
row_letter (row_h ps x e s t) = rw (x, e, s, t)

rule_letter : {x : Letter} {e : Effect} {from to : ℕ} → AnswersLetter x e from to → letter_by e from to ≡ x
rule_letter (by_row r) = row_letter r
rule_letter {from = from} (unmoved x t) = rw (x, t, eq-eqb from from refl)
rule_letter {from = from} {to = to} (mode_zero x e) = rw (x, e) (none_either (not (eqb from to)))

pub letter_row : (f : AnyFresh) (x : Letter) (e : Effect) (h : History) → (letter_of f e h ≡ x) ↔ AnswersLetter x e (switch_of f h) (switch_of f (e ∷ h))
letter_row f x e h = (λ q. subst (λ (y : Letter). AnswersLetter y e (switch_of f h) (switch_of f (e ∷ h))) q (letter_rule f e h), rule_letter)

-- a refused call answers none
pub letter_refused : (rows : List EventRow) (f : AnyFresh) (c : AnyCall) (cs : List AnyCall) (n : ℕ)
    → reading rows (mode_of f (accepted_calls rows f cs)) (groups_of (accepted_calls rows f cs)) c ≡ refused n → letter_after rows f cs c ≡ None
letter_refused rows f c cs n q = rw q
