use mathlib.Core.Path.{◌≡◌}
use Prim.Native.Nat.{◌-◌}
use Rattle.tables.specs.Index.{table_in}
use Rattle.replay.specs.Replay.{records_from}
use Rattle.measure.specs.Rounds.{rounds_from}
use Rattle.measure.proofs.measure_calls.Given as goal

abbrev pub invariant-loop : goal.invariant-loop
invariant-loop l =
    rounds_from (table_in l.table) (l.rounds - l.counter) l.meter (records_from 0 l.records)
    ≡ rounds_from (table_in l.table) l.rounds l.initial.meter (records_from 0 l.records)
