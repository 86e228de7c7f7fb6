-- `pillar_call` meets its contract: a command on the page, by the table of the bytes.
use Rattle.pillar.proofs.Laws.{laws, compared}
use Rattle.pillar.proofs.pillar_call.Goals as goal

pub returns : goal.returns
returns c =
    record {
      called = rw c.index_of-index.ensures at c.call_on_page.ensures;
      laws = laws;
      compared = compared;
    }
