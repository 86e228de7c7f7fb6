use Rattle.base.proofs.Prelude.{◌≡◌, ◌+◌, ◌-◌, ◌*◌, arith, rules, length, take, take_all, lt-ltb, le-ltb}
use Rattle.base.specs.Numbers.{positive_part, negative_part}
use Rattle.energy.specs.Days.{total, measured}
use Rattle.energy.proofs.Sums.{total_next}
use Rattle.energy.proofs.Joins.{laws}
use Rattle.energy.proofs.NearMisses.{near_misses}
use Rattle.energy.proofs.measure.Goals as goal

pub returns-then-samples-gt-MOST_SAMPLES : goal.returns-then-samples-gt-MOST_SAMPLES
unfolding measured
returns-then-samples-gt-MOST_SAMPLES c = record { value = rw (lt-ltb _ _ c.if-samples-gt-MOST_SAMPLES.true); laws = laws; near_misses = near_misses }

pub loop-power-init : goal.loop-power-init
unfolding total
loop-power-init c = search rules

pub loop-power-preserved : goal.loop-power-preserved
loop-power-preserved c = grind (arith, total_next)

pub returns : goal.returns
unfolding measured
returns c =
    let xs = c.args.samples.now in
    let all = take_all c.loop-power.power-index xs c.loop-power-test.false in
    let import : c.loop-power.import ≡ total positive_part xs = rw (← all) c.loop-power.invariant.import_so_far in
    let exported : total negative_part (take c.loop-power.power-index xs) ≡ total negative_part xs = rw all in
    let export : c.loop-power.import + c.loop-power.distance - length xs * 2147483647 ≡ total negative_part xs = omega (arith, exported) in
    record { value = rw (le-ltb 86400 (length xs) c.if-samples-gt-MOST_SAMPLES.false, c.energy_of.ensures, c.energy_of-2.ensures, export, import); laws = laws; near_misses = near_misses }
