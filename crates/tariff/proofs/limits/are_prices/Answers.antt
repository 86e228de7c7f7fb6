use Rattle.base.proofs.Prelude.{◌≡◌, true, false, ◌∙◌, ap, ℕ, arith, rules, length, get_or, below}
use Rattle.std.proofs.lemmas.Iterator.{YieldsList-from_slice, cases_from_all}
use Rattle.tariff.specs.Bills.{is_price}
use Rattle.tariff.proofs.AllRates.{all_below}
use Rattle.tariff.proofs.limits.are_prices.Goals as goal

pub returns : goal.returns
returns c =
    let xs = c.args.prices in
    let four : length xs ≡ 4 = omega arith in
    all_below is_price xs 0 c.all.result
    (cases_from_all _ _ _ (λ x. is_price x ≡ true) (λ x. is_price x ≡ false) c.all.ensures.ran (YieldsList-from_slice xs cc) (λ x q k. search rules) (λ x q k. search rules))
    ∙ ap (λ (n : ℕ). below n (λ k. is_price (get_or xs k 0))) four
