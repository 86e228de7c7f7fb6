use Rattle.base.proofs.Prelude.{◌≡◌, sym, ◌∙◌, true, arith, le-leb, lt-leb}
use Rattle.tariff.specs.Bills.{billed, are_prices, are_imports}
use Rattle.tariff.proofs.NearMisses.{near_misses}
use Rattle.tariff.proofs.Rows.{laws}
use Rattle.tariff.proofs.bill.Goals as goal
use Rattle.tariff.proofs.bill.Goals.{Else-not-are_imports, Else-not-are_prices}

-- the prices are taken, and the imports
prices : (c : Else-not-are_prices) → are_prices c.args.prices ≡ true
prices c = sym c.are_prices.ensures ∙ c.if-not-are_prices.false

imports : (c : Else-not-are_imports) → are_imports c.args.imports ≡ true
imports c = sym c.are_imports.ensures ∙ c.if-not-are_imports.false

pub returns-then-not-are_prices : goal.returns-then-not-are_prices
unfolding billed
returns-then-not-are_prices c = record {
  value = rw (← c.are_prices.ensures, c.if-not-are_prices.true);
  laws = laws;
  near_misses = near_misses;
}

pub returns-then-rest-ge3600000 : goal.returns-then-rest-ge3600000
unfolding billed
returns-then-rest-ge3600000 c = record {
  value = rw (prices c.before, le-leb _ _ c.if-rest-ge3600000.true);
  laws = laws;
  near_misses = near_misses;
}

pub returns-then-not-are_imports : goal.returns-then-not-are_imports
unfolding billed
returns-then-not-are_imports c =
    record {
      value = rw (prices c.before.before.before, lt-leb _ _ c.if-rest-ge3600000.false, ← c.are_imports.ensures, c.if-not-are_imports.true);
      laws = laws;
      near_misses = near_misses;
    }

pub charge-requires : goal.charge-requires
charge-requires c = (omega arith, (prices c.before.before.before, imports c))

pub returns : goal.returns
unfolding billed
returns c =
    record {
      value = rw (c.charge.ensures, prices c.before.before.before.before, lt-leb _ _ c.if-rest-ge3600000.false, imports c.before);
      laws = laws;
      near_misses = near_misses;
    }
