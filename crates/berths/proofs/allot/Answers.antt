-- What the loops compute is what the definitions say of the list: `Loops` has the steps.
use Rattle.std.proofs.Common.{◌≡◌, ◌∙◌, pos, arith, rules, w32, SFits, to_z-of_z}
use Rattle.berths.specs.declared.Berth.{Berth}
use Rattle.berths.proofs.Loops.{counted_next, counted_all, filled_next, filled_all, counted_column, refused_count, shared, refused}
use Rattle.berths.proofs.allot.Goals as goal

-- what lies past the end of a list; it is never read
abbrev none : Berth
none = record { guarantee = pos 0; cap = pos 0; demand = pos 0; allotment = pos 0 }

pub returns-then-is_wrong_count-clause-value : goal.returns-then-is_wrong_count-clause-value
returns-then-is_wrong_count-clause-value c = rw c.from.ensures (refused_count c.args.limit c.args.berths.now (rw (← c.is_wrong_count.ensures) c.if-is_wrong_count.true))

pub loop-berth-preserved : goal.loop-berth-preserved
loop-berth-preserved c = rw c.with_berth-column.ensures (counted_next c.args.berths.now c.loop-berth.berth-index none c.loop-berth.column _ c.loop-berth-test.true c.loop-berth.invariant)

pub returns-in-Err-clause-value : goal.returns-in-Err-clause-value
returns-in-Err-clause-value c =
    let xs = c.args.berths.now in
    let column : c.loop-berth.column ≡ counted_column c.args.limit xs =
    rw (to_z-of_z c.ranges.limit) at (counted_all xs c.loop-berth.berth-index none c.loop-berth.column _ c.loop-berth-test.false c.loop-berth.invariant) in
    rw c.from-in-Err.ensures (refused c.args.limit xs (rw (← c.is_wrong_count.ensures) c.if-is_wrong_count.false) c.in-Err.refusal (rw (← c.in-Err.is, c.left_over.ensures, column)))

pub loop-berth-2-preserved : goal.loop-berth-2-preserved
loop-berth-2-preserved c =
    let ys = c.loop-berth-2.berths in
    let allotment_fits : SFits w32 c.share_of-share.result.allotment = search rules in
    rw (to_z-of_z allotment_fits, c.share_of-share.ensures)
    (filled_next ys c.loop-berth-2.berth-index none c.loop-berth-2.left _ (omega arith) c.loop-berth-2.invariant)

pub returns-clause-value : goal.returns-clause-value
returns-clause-value c =
    let xs = c.args.berths.now in
    let column : c.loop-berth.column ≡ counted_column c.args.limit xs =
    rw (to_z-of_z c.ranges.limit) at (counted_all xs c.loop-berth.berth-index none c.loop-berth.column _ c.loop-berth-test.false c.loop-berth.invariant) in
    let outcome = shared c.args.limit xs (rw (← c.is_wrong_count.ensures) c.if-is_wrong_count.false) c.in-Ok.left (rw (← c.in-Ok.is, c.left_over.ensures, column)) in
    (outcome.0, filled_all c.loop-berth-2.berths c.loop-berth-2.berth-index none c.loop-berth-2.left _ (omega arith) c.loop-berth-2.invariant ∙ outcome.1)
