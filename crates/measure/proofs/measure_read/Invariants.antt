use mathlib.Core.Path.{◌≡◌}
use Prim.Native.Nat.{◌-◌, ◌≤◌}
use lib.ListN.{length}
use Rattle.tables.specs.Index.{table_in}
use Rattle.page.specs.Layout.{read_of}
use Rattle.measure.specs.Rounds.{passing, is_accepted, page_in_round, page_after_rounds}
use Rattle.measure.proofs.measure_read.Given as goal

abbrev pub invariant-loop-round : goal.invariant-loop-round
invariant-loop-round l = (l.round ≤ l.rounds)
    × (l.accepted ≡ passing l.round (λ i. is_accepted (read_of (table_in l.table) (page_in_round l.initial.page i)).answer))
    × (l.page ≡ page_after_rounds l.initial.page l.round)
    × (length l.page ≡ length l.initial.page)

abbrev pub decreases-loop-round : goal.decreases-loop-round
decreases-loop-round l = l.rounds - l.round
