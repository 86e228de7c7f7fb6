use Rattle.logs.specs.Layout.{padded, flat, laid}
use Rattle.phases.proofs.Sums.{same_32}
use Rattle.phases_meter.proofs.fresh.with_settings.Goals as goal

pub returns : goal.returns
unfolding padded flat laid
returns c =
    let a = c.args in
    let fits = c.ranges in
    rw (same_32 a.l1 fits.l1, same_32 a.l2 fits.l2, same_32 a.l3 fits.l3, same_32 a.sum fits.sum)
