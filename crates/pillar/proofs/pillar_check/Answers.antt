-- `pillar_check` meets its contract: the number is that of the reader's answer, by the table of the bytes.
use mathlib.Core.Path.{◌∙◌, ap}
use Rattle.calls.specs.Calls.{answer_number}
use Rattle.meter.specs.declared.Outcome.{Outcome}
use Rattle.pillar.proofs.pillar_check.Goals as goal

pub returns : goal.returns
returns c =
    let reads = rw c.index_of-index.ensures at c.read_page-read.ensures.value in
    c.number.ensures ∙ ap (λ (o : Outcome). answer_number o.answer) reads
