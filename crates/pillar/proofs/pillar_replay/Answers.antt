-- `pillar_replay` meets its contract: the number is that of `replay`'s answer, and the bytes are its own, by the table of the bytes.
use mathlib.Core.Path.{◌∙◌, ap, sym}
use Rattle.replay.specs.Numbers.{replay_number}
use Rattle.replay.proofs.Numbers.{replay_numbers}
use Rattle.pillar.proofs.pillar_replay.Goals as goal

pub returns-in-Ok : goal.returns-in-Ok
returns-in-Ok c =
    let made = rw c.index_of-index.ensures at c.replay.ensures.value in
    record {
      value = (ap replay_number (sym c.in-Ok.is ∙ made.0), made.1);
      numbers = replay_numbers;
    }

pub returns-in-Err : goal.returns-in-Err
returns-in-Err c =
    let made = rw c.index_of-index.ensures at c.replay.ensures.value in
    record {
      value = (c.number.ensures ∙ ap replay_number (sym c.in-Err.is ∙ made.0), made.1);
      numbers = replay_numbers;
    }
