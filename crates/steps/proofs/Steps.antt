-- The machine's results by what the code learns on its way: the sign of a threshold, the status's step, the letter of a manual reconnect.
use native.Mathlib.Omega.{arith}
use mathlib.Core.Path.{◌≡◌, refl, sym, ap, ◌∙◌}
use mathlib.Core.Bool.{Bool, true, false, not, cond}
use mathlib.Core.List.{List, [], ◌∷◌}
use Prim.Native.Nat.{ℕ}
use lib.Dec.{eqb}
use lib.IntN.{ℤ, pos, negsuc}
use lib.Signed.{lt_z, le_z}
use mir.Facts.{to_z-of_z}
use mir.Val.{to_z, of_z, SFits}
use mir.Syntax.{w32}
use types.Run.{OneOf, miss}
use denote.Enum.Declared.{tag_of}
use borrow.Author.Tests.{le-leb, le-ltb}
use Rattle.base.specs.Tests.{within, eq_z}
use Rattle.base.proofs.Prelude.{by_test, ne_eqb, eq-eqb, false≢true}
use Rattle.base.proofs.Signed.{number_same, same_number as eq_same}
use Rattle.events.specs.Table.{EventRow}
use Rattle.control.specs.declared.Request.TheVariants.{ManualReconnect}
use Rattle.control.specs.declared.Decision.{Decision}
use Rattle.control.specs.declared.Decision.TheVariants.{Move, Stay, NotListed}
use Rattle.control.proofs.Answers.{answered, rows}
use Rattle.limiter.specs.declared.Limiter.{Limiter}
use Rattle.limiter.specs.Limiter.{armed}
use Rattle.calls.specs.declared.Letter.TheVariants.{E}
use Rattle.calls.specs.contracts.Letter as letters
use Rattle.calls.specs.declared.Answer.{Answer}
use Rattle.history.specs.Effects.{AnyCall}
use Rattle.machine.specs.Settings.{limits_answer}
use Rattle.machine.specs.Values.{with_limiters}
use Rattle.machine.specs.Machine.{Result, refusing, making, result, decided, answering, armed_by, request_result}
use Rattle.status.specs.Status.{status_values}
use Rattle.status.specs.declared.StatusStep.{StatusStep}
use Rattle.status.specs.Step.{status_step_of}
use Rattle.status.specs.Laws.{NoLimiter, result_with}
use Rattle.status.proofs.Limiters.{laws}
use Rattle.steps.specs.declared.Scalars.{Scalars}
use Rattle.steps.specs.declared.Step.{Step}
use Rattle.steps.specs.Scalars.{values_of, status_of}
use Rattle.steps.specs.Step.{step_of, step_with}

-- ---- a threshold, which is handed on as its bits: the test of its sign, and what a setting is answered
sign : (z : ℤ) (b : Bool) → lt_z z (pos 0) ≡ b → le_z (pos 0) z ≡ not b
sign (pos a) b e = rw (← e, le-ltb a 0 (omega arith)) (le-leb 0 a (omega arith))
sign (negsuc a) b e = ap not e

pub same_number : (z : ℤ) → SFits w32 z → to_z w32 (of_z w32 z) ≡ z
same_number z h = to_z-of_z {w = w32} {z = z} h

-- two numbers of which the bits are compared
pub same_bits : (a b : ℤ) → to_z w32 (of_z w32 a) ≡ a → to_z w32 (of_z w32 b) ≡ b → eqb (of_z w32 a) (of_z w32 b) ≡ eq_z a b
same_bits a b p q =
    by_test (eq_z a b) (λ e. rw (e, number_same a b e, eq-eqb (of_z w32 b) (of_z w32 b) refl))
    (λ n. rw (
      n,
      ne_eqb (of_z w32 a) (of_z w32 b)
          (λ e. let s : a ≡ b = sym p ∙ ap (to_z w32) e ∙ q in false≢true (sym n ∙ rw s (eq_same b))),
    ))

pub threshold_sign : (z : ℤ) (b : Bool) → SFits w32 z → lt_z (to_z w32 (of_z w32 z)) (pos 0) ≡ b → le_z (pos 0) z ≡ not b
threshold_sign z b h e = sign z b (rw (same_number z h) at e)

pub judged : (a : Answer) (z : ℤ) (o u : ℕ) → SFits w32 z → a ≡ limits_answer (to_z w32 (of_z w32 z) ∷ []) o u → a ≡ limits_answer (z ∷ []) o u
judged a z o u h e = rw (same_number z h) at e

-- ---- a call that touches no limiter, by the status's step
pub left_step : (rows : List EventRow) (s : Scalars) (c : AnyCall) → NoLimiter c
    → step_with s.limiter s.emergency (status_step_of (status_of s) (result rows (status_values (status_of s)) c)) ≡ step_of s (result rows (values_of s) c)
left_step rows s c none =
    rw (laws.limiters_left rows (status_values (status_of s)) (s.limiter ∷ []) s.emergency c none) (go (result rows (status_values (status_of s)) c))
  where
    go : (r : Result) → step_with s.limiter s.emergency (status_step_of (status_of s) r) ≡ step_of s (result_with (s.limiter ∷ []) s.emergency r)
    go (refusing n) = refl
    go (making k) = refl

-- ---- a manual reconnect, by the status's step: it arms the limiter exactly if its letter is e
-- the tags of the other letters
abbrev pub others_than_e : List ℕ
others_than_e = 0 ∷ 1 ∷ 2 ∷ 3 ∷ 5 ∷ 6 ∷ 7 ∷ 8 ∷ []

module _ (s : Scalars) where
  -- the step, and what it comes to with the limiter, by the decision
  abbrev step_by : List Limiter → Decision → StatusStep
  step_by ls d = status_step_of (status_of s) (answering (with_limiters (status_values (status_of s)) ls) d)

  abbrev with_by : List Limiter → Decision → Step
  with_by ls d = step_of s (result_with (armed_by ManualReconnect d (s.limiter ∷ [])) s.emergency (answering (with_limiters (status_values (status_of s)) ls) d))

  moved_by : (ls : List Limiter) (d : Decision) → (step_by ls d).letter ≡ E → step_with (armed s.limiter) s.emergency (step_by ls d) ≡ with_by ls d
  moved_by ls (Move t c o x) e = refl
  moved_by ls Stay e = cc
  moved_by ls NotListed e = cc

  unmoved_by : (ls : List Limiter) (o a b : Bool)
      → let d = cond a (cond b (Move 1 61 o E) Stay) NotListed in
      OneOf others_than_e (tag_of letters.the_type (step_by ls d).letter) → step_with s.limiter s.emergency (step_by ls d) ≡ with_by ls d
  unmoved_by ls o true true k = absurd (miss others_than_e 4 tt k)
  unmoved_by ls o true false k = refl
  unmoved_by ls o false b k = refl

  abbrev reconnect_step : StatusStep
  reconnect_step = status_step_of (status_of s) (request_result (status_values (status_of s)) ManualReconnect)

  pub moved_step : reconnect_step.letter ≡ E → step_with (armed s.limiter) s.emergency reconnect_step ≡ step_of s (request_result (values_of s) ManualReconnect)
  unfolding request_result
  moved_step e =
      moved_by _ (decided (status_values (status_of s)) ManualReconnect) e
      ∙ ap (step_of s) (sym (laws.limiters_armed (status_values (status_of s)) (s.limiter ∷ []) s.emergency ManualReconnect))

  pub unmoved_step : OneOf others_than_e (tag_of letters.the_type reconnect_step.letter)
      → step_with s.limiter s.emergency reconnect_step ≡ step_of s (request_result (values_of s) ManualReconnect)
  unfolding request_result answered
  unmoved_step k =
      let m = s.control.mode in
      let from = s.control.state in
      rw (laws.limiters_armed (status_values (status_of s)) (s.limiter ∷ []) s.emergency ManualReconnect, rows)
      (unmoved_by _ (eqb from 1) (within 1 6 m) (eqb from 2) (rw rows at k))
