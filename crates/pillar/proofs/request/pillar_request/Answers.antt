-- `pillar_request` meets its contract: a request on the page, by the table of the bytes.
use Rattle.pillar.proofs.RequestLaws.{request_laws}
use Rattle.pillar.proofs.request.pillar_request.Goals as goal

pub returns : goal.returns
returns c =
    record {
      requested = rw c.index_of-index.ensures at c.request_on_page.ensures;
      laws = request_laws;
    }
