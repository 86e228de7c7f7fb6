use Rattle.base.proofs.Prelude.{◌≡◌, true, false, ◌∙◌, ap, ℕ, arith, rules, length, get_or, below}
use Rattle.std.proofs.lemmas.Iterator.{YieldsList-from_slice, cases_from_all}
use Rattle.tariff.specs.Bills.{is_import}
use Rattle.tariff.proofs.AllRates.{all_below}
use Rattle.tariff.proofs.limits.are_imports.Goals as goal

pub returns : goal.returns
returns c =
    let xs = c.args.imports in
    let four : length xs ≡ 4 = omega arith in
    all_below is_import xs (record { watthours = 0; wattseconds = 0 }) c.all.result
    (cases_from_all _ _ _ (λ x. is_import x ≡ true) (λ x. is_import x ≡ false) c.all.ensures.ran (YieldsList-from_slice xs cc) (λ x q k. search rules) (λ x q k. search rules))
    ∙ ap (λ (n : ℕ). below n (λ k. is_import (get_or xs k (record { watthours = 0; wattseconds = 0 })))) four
