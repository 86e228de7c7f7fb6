use mathlib.Core.Path.{◌∙◌}
use Rattle.steps.proofs.Samples.{after_none, after_over, after_under}
use Rattle.steps.proofs.Scalars.watched.Goals as goal

pub returns-then-not-fired : goal.returns-then-not-fired
returns-then-not-fired c = rw (c.with.ensures, c.accepted.ensures, c.status.ensures) (after_none _ _ c.if-not-fired.true)

pub returns-then-self : goal.returns-then-self
returns-then-self c = c.fired.ensures ∙ after_over _ _ c.if-not-fired.false c.if-self.true

pub returns : goal.returns
returns c = c.fired-2.ensures ∙ after_under _ _ c.if-not-fired.false c.if-self.false
