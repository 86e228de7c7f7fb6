use Rattle.base.proofs.Prelude.{◌≤◌, ◌+◌, ◌*◌, arith}
use Rattle.tariff.proofs.Costs.{cost_most}
use Rattle.tariff.proofs.charges.with_rate.Goals as goal
use Rattle.tariff.proofs.charges.with_rate.Goals.{Start}

-- the rate's own cost is bounded
most : (c : Start) → c.args.price * (3600 * c.args.import.watthours + c.args.import.wattseconds) ≤ 7730941136399000000
most c = cost_most c.args.price c.args.import.watthours c.args.import.wattseconds c.requires.1.0 c.requires.1.1.0 c.requires.1.1.1

pub overflow_mul-parts : goal.overflow_mul-parts
overflow_mul-parts c = rw c.from-2.ensures (record { fits = omega (arith, most (goal.at.overflow_mul-parts c).Start) })
