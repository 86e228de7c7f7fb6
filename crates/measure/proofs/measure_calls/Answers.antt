-- `measure_calls` meets its contract: the rounds that are left, on the meter so far, are all of them on the meter that was read.
use mathlib.Core.Path.{◌≡◌, refl, sym, ◌∙◌}
use Prim.Native.Nat.{◌+◌, ◌-◌}
use native.Mathlib.Omega.{arith}
use Rattle.measure.proofs.Rounds.{next_round, no_round, rounds_refused, rounds_written}
use Rattle.measure.proofs.measure_calls.Goals as goal

pub returns-in-Refused : goal.returns-in-Refused
returns-in-Refused c = rw c.from.ensures (rounds_refused _ _ _ _ _ c.read_page-read.ensures.value _ c.in-Refused.is)

pub loop-init : goal.loop-init
loop-init c = let e : c.args.rounds - 0 ≡ c.args.rounds = omega arith in rw e refl

pub loop-preserved : goal.loop-preserved
loop-preserved c =
    let l = c.loop in
    let n = c.args.rounds - l.counter in
    let e : c.args.rounds - (l.counter + 1) ≡ n - 1 = omega arith in
    rw (c.run-meter.ensures, e) (next_round _ n l.meter _ (omega (arith, c.loop-test.true))) ∙ l.invariant

pub returns : goal.returns
returns c =
    let l = c.loop in
    let n = c.args.rounds - l.counter in
    rounds_written _ _ _ _ _ c.read_page-read.ensures.value _ _ _ _ c.in_default.is
    (sym (no_round _ n l.meter _ (omega (arith, c.loop-test.false))) ∙ l.invariant)
    c.write_page.ensures.value (c.from-2.ensures ∙ c.number.ensures)
