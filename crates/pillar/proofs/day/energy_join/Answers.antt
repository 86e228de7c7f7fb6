use Rattle.pillar.proofs.Places.{day_laws}
use Rattle.pillar.proofs.day.energy_join.Goals as goal

pub returns : goal.returns
returns c =
    record {
      value = rw (← c.day_in-2.ensures, ← c.day_in.ensures, ← c.join_days.ensures.value) c.store.ensures;
      laws = day_laws;
    }
