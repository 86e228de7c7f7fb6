use Rattle.base.proofs.Prelude.{◌∙◌, take, eqb, rules}
use Rattle.base.proofs.Tests.{tests}
use Rattle.std.proofs.lemmas.Iterator.{YieldsList-from_slice, YieldsList-from_take}
use Rattle.std.proofs.lemmas.Iterator.Search.{find_from_yields_List}
use Rattle.emergency.proofs.Places.{found}
use Rattle.emergency.proofs.groups.find.Goals as goal

pub returns : goal.returns
returns c =
    let a = c.args in
    c.copied.ensures
    ∙ find_from_yields_List (λ id. eqb id a.asked) _ _ c.find.result c.find.ensures.ran
    (YieldsList-from_take a.count (YieldsList-from_slice a.ids (cc)) (cc)) (λ x b q k. search (rules, tests))
    ∙ found (take a.count a.ids) a.asked
