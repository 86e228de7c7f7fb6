use mathlib.Core.Path.{◌∙◌}
use borrow.Author.Rules.{rules}
use Rattle.meter.proofs.Meter.sample.Goals as goal

pub returns : goal.returns
returns c = c.apply.ensures.value ∙ search rules
