use Rattle.base.proofs.Prelude.{◌≡◌, ◌≤◌, ◌+◌, ◌*◌, length}
use Rattle.tariff.specs.Charges.{costs, charge_of}
use Rattle.tariff.proofs.charges.charge.Given as goal

-- the charge of the rates passed, over the rate number; its cents are bounded
abbrev pub invariant-loop-price : goal.invariant-loop-price
invariant-loop-price l = record {
  charged : l.sum ≡ charge_of (l.rest + costs (length l.yielded) l.fn.prices l.fn.imports);
  cents_fit : l.sum.cents ≤ length l.yielded * 2147483649000;
  passed : length l.yielded ≤ 4;
}
