use borrow.Author.Rules.{rules}
use Rattle.steps.proofs.Samples.{room}
use Rattle.steps.proofs.Step.led_by_change.Goals as goal

pub returns-then-same-self : goal.returns-then-same-self
returns-then-same-self c = rw c.if-same-self.true

pub overflow_add-self : goal.overflow_add-self
overflow_add-self c = let a = c.args in search (rules, room a.same a.self.count c.if-same-self.false)

pub returns : goal.returns
returns c = rw c.if-same-self.false
