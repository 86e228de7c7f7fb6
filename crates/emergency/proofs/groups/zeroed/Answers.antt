use Rattle.base.proofs.Prelude.{◌≡◌, ◌-◌, length, min, replicate, rules}
use Rattle.emergency.proofs.Places.{zeroed}
use Rattle.emergency.proofs.groups.zeroed.Goals as goal

pub returns : goal.returns
returns c =
    let held : c.from-held.result ≡ min c.args.count 8 = search rules in
    let zeros : c.fill.new.self ≡ replicate (8 - c.from-held.result) 0 = search rules in
    let eight : length c.args.ids ≡ 8 = search rules in
    rw (zeros, held) (zeroed c.args.count c.args.ids eight)
