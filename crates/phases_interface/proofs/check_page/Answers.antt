-- `check_page` meets its contract: the number is that of the reader's answer, by the table of the bytes.
use mathlib.Core.Path.{◌∙◌, ap}
use Rattle.calls.specs.Calls.{answer_number}
use Rattle.phases_meter.specs.declared.ThreePhaseOutcome.{ThreePhaseOutcome}
use Rattle.phases_interface.proofs.check_page.Goals as goal

pub returns : goal.returns
returns c =
    let reads = rw c.index_of-index.ensures at c.read_three_phase_page-read.ensures.value in
    c.number.ensures ∙ ap (λ (o : ThreePhaseOutcome). answer_number o.answer) reads
