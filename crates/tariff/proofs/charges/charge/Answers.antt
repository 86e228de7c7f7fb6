use Rattle.base.proofs.Prelude.{◌≡◌, ◌∙◌, ◌+◌, ◌<◌, add-one, arith, rules, length, length-append, ◌++◌, ◌∷◌, []}
use Rattle.std.proofs.lemmas.Slice.Zip.{zip_turn, zip_end}
use Rattle.tariff.specs.Charges.{price_at, import_at, sum_below}
use Rattle.tariff.proofs.Costs.{rest_only, rate_next, price_at_lem, import_at_lem}
use Rattle.tariff.proofs.charges.charge.Goals as goal
use Rattle.tariff.proofs.charges.charge.Goals.{In-Some}

pub loop-price-init : goal.loop-price-init
unfolding sum_below
loop-price-init c = record { charged = rest_only c.args.rest c.requires.0; cents_fit = omega arith; passed = omega arith }

-- the rate of this iteration, with its own price and its own import
record Turn (c : In-Some) : Type 0 where
  below : length c.loop-price.yielded < 4
  price : c.in-Some.field-0-0.now ≡ price_at c.args.prices (length c.loop-price.yielded)
  import : c.in-Some.field-0-1.now ≡ import_at c.args.imports (length c.loop-price.yielded)

turn : (c : In-Some) → Turn c
turn c =
    let t =
    zip_turn c.args.prices c.args.imports c.loop-price.yielded c.into_iter-price-iterator.result c.loop-price.price-iterator c.next.new.self c.next.result
    (search rules) (search rules) c.loop-price.yielded_by _ c.in-Some.is c.next.ensures.steps
    in
    record { below = omega (arith, t.0); price = t.2 0; import = t.3 (record { watthours = 0; wattseconds = 0 }) }

pub with_rate-sum-requires : goal.with_rate-sum-requires
with_rate-sum-requires c =
    let a = c.args in
    let k = length c.loop-price.yielded in
    let t = turn (goal.at.with_rate-sum-requires c).In-Some in
    let less : c.loop-price.sum.rest < 3600000 = rw c.loop-price.invariant.charged (omega arith) in
    ((less, omega arith), (rw t.price (price_at_lem k a.prices t.below c.requires.1.0), rw t.import (import_at_lem k a.imports t.below c.requires.1.1)))

pub loop-price-preserved : goal.loop-price-preserved
loop-price-preserved c =
    let a = c.args in
    let t = turn (goal.at.loop-price-preserved c).In-Some in
    let more : length (c.loop-price.yielded ++ ((c.in-Some.field-0-0, c.in-Some.field-0-1) ∷ [])) ≡ length c.loop-price.yielded + 1 = rw length-append in
    rw (more, add-one) (record {
      charged = c.with_rate-sum.ensures.0 ∙ rw (c.loop-price.invariant.charged, t.price, t.import) (rate_next a.rest (length c.loop-price.yielded) a.prices a.imports);
      cents_fit = omega (arith, c.with_rate-sum.ensures.1);
      passed = omega (arith, t.below);
    })

pub returns : goal.returns
returns c =
    let all =
    zip_end c.args.prices c.args.imports c.loop-price.yielded c.into_iter-price-iterator.result c.loop-price.price-iterator c.next.new.self c.next.result
    (search rules) (search rules) c.loop-price.yielded_by c.in-None.is c.next.ensures.steps
    in
    let four : length c.loop-price.yielded ≡ 4 = omega (arith, all) in
    rw four at c.loop-price.invariant.charged
