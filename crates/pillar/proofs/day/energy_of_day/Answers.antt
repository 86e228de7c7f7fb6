use Rattle.pillar.proofs.Places.{day_laws}
use Rattle.pillar.proofs.day.energy_of_day.Goals as goal

pub returns : goal.returns
returns c =
    record {
      value = rw (← c.measure.ensures.value) c.store.ensures;
      laws = day_laws;
    }
