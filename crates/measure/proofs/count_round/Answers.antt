use borrow.Author.Tests.{lt-ltb, le-ltb}
use Rattle.measure.proofs.count_round.Goals as goal

pub returns-then-page-gt-CLOCK_END : goal.returns-then-page-gt-CLOCK_END
returns-then-page-gt-CLOCK_END c = rw (lt-ltb _ _ c.if-page-gt-CLOCK_END.true)

pub returns-else-page-gt-CLOCK_END : goal.returns-else-page-gt-CLOCK_END
returns-else-page-gt-CLOCK_END c = rw (le-ltb _ _ c.if-page-gt-CLOCK_END.false)
