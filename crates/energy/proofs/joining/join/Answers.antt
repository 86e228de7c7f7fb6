use Rattle.base.proofs.Prelude.{◌≡◌, false, ◌||◌, arith}
use Rattle.energy.specs.Joins.{is_unreduced, sum_of}
use Rattle.energy.proofs.Joins.{both_below, join_unreduced, join_too_large, join_accepted}
use Rattle.energy.proofs.joining.join.Goals as goal
use Rattle.energy.proofs.joining.join.Goals.{Else-is_unreduced}

pub returns-then-is_unreduced : goal.returns-then-is_unreduced
returns-then-is_unreduced c = join_unreduced _ _ (rw (← c.is_unreduced.ensures, ← c.is_unreduced-2.ensures) c.if-is_unreduced.true)

reduced : (c : Else-is_unreduced) → (is_unreduced c.args.a || is_unreduced c.args.b) ≡ false
reduced c = rw (← c.is_unreduced.ensures, ← c.is_unreduced-2.ensures) c.if-is_unreduced.false

pub overflow_add-remainders : goal.overflow_add-remainders
overflow_add-remainders c =
    let below = both_below c.args.a c.args.b (reduced (goal.at.overflow_add-remainders c).Else-is_unreduced) in
    omega (arith, below.0, below.1)

pub returns-then-watthours-gt-MOST_WATTHOURS : goal.returns-then-watthours-gt-MOST_WATTHOURS
returns-then-watthours-gt-MOST_WATTHOURS c =
    join_too_large _ _ (reduced (goal.at.returns-then-watthours-gt-MOST_WATTHOURS c).Else-is_unreduced) (omega arith)

pub returns : goal.returns
returns c =
    let w : c.saturating_add-watthours.result ≡ (sum_of c.args.a c.args.b).watthours = omega arith in
    rw w (join_accepted _ _ (reduced (goal.at.returns c).Else-is_unreduced) (omega arith))
