-- `replay_page` meets its contract: the number is that of `replay_three_phase`'s answer, and the bytes are its own, by the table of the bytes.
use mathlib.Core.Path.{◌∙◌, ap, sym}
use Rattle.replay.specs.Numbers.{replay_number}
use Rattle.phases_interface.proofs.Laws.{replay_numbers}
use Rattle.phases_interface.proofs.replay_page.Goals as goal

pub returns-in-Ok : goal.returns-in-Ok
returns-in-Ok c =
    let made = rw c.index_of-index.ensures at c.replay_three_phase.ensures.value in
    record {
      value = (ap replay_number (sym c.in-Ok.is ∙ made.0), made.1);
      numbers = replay_numbers;
    }

pub returns-in-Err : goal.returns-in-Err
returns-in-Err c =
    let made = rw c.index_of-index.ensures at c.replay_three_phase.ensures.value in
    record {
      value = (c.number.ensures ∙ ap replay_number (sym c.in-Err.is ∙ made.0), made.1);
      numbers = replay_numbers;
    }
