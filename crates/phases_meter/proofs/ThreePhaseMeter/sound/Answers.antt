use Rattle.tables.specs.Index.{table_in}
use Rattle.phases_meter.proofs.Tail.{sound_is}
use Rattle.phases_meter.proofs.Examples.{near_misses}
use Rattle.phases_meter.proofs.ThreePhaseMeter.sound.Goals as goal

pub returns : goal.returns
returns c =
    record {
      value = sound_is (table_in c.args.table.now) c.args.self _ _ c.sound.ensures c.sound-2.ensures;
      near_misses = near_misses;
    }
