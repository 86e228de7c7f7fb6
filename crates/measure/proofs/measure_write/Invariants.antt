use mathlib.Core.Path.{◌≡◌}
use Prim.Native.Nat.{◌-◌, ◌≤◌}
use lib.ListN.{length}
use Rattle.tables.specs.Index.{table_in}
use Rattle.page.specs.Layout.{write_answer}
use Rattle.measure.specs.Rounds.{passing, is_accepted, in_round, written_rounds}
use Rattle.measure.proofs.measure_write.Given as goal

abbrev pub invariant-loop-round : goal.invariant-loop-round
invariant-loop-round l = (l.round ≤ l.rounds)
    × (l.accepted ≡ passing l.round (λ i. is_accepted (write_answer (table_in l.table) (in_round l.initial.meter i) l.initial.page)))
    × (in_round l.meter 0 ≡ in_round l.initial.meter 0)
    × (l.page ≡ written_rounds (table_in l.table) l.initial.meter l.initial.page l.round)
    × (length l.page ≡ length l.initial.page)

abbrev pub decreases-loop-round : goal.decreases-loop-round
decreases-loop-round l = l.rounds - l.round
