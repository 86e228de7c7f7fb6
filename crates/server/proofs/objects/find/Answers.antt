use mathlib.Core.Path.{◌∙◌}
use Rattle.std.proofs.Common.{rules}
use Rattle.std.proofs.lemmas.Iterator.Search.{find_from_yields_List}
use Rattle.std.proofs.lemmas.Iterator.{YieldsList-from_slice}
use Rattle.base.proofs.Tests.{tests}
use Rattle.server.specs.Objects.{items, is_at}
use Rattle.server.proofs.Scan.{first_at}
use Rattle.server.proofs.objects.find.Goals as goal

pub returns : goal.returns
unfolding items
returns c =
    c.copied.ensures
    ∙ find_from_yields_List (λ a. is_at a c.args.method c.args.about) _ _ _ c.find.ensures.ran (YieldsList-from_slice items cc) (λ x b q k. search (rules, tests))
    ∙ first_at items c.args.method c.args.about
