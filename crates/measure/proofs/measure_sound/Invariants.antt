use mathlib.Core.Path.{◌≡◌}
use Prim.Native.Nat.{◌-◌, ◌≤◌}
use Rattle.tables.specs.Index.{table_in}
use Rattle.meter.specs.Sound.{sound_meter}
use Rattle.measure.specs.Rounds.{passing, in_round}
use Rattle.measure.proofs.measure_sound.Given as goal

abbrev pub invariant-loop-round : goal.invariant-loop-round
invariant-loop-round l = (l.round ≤ l.rounds)
    × (l.sound ≡ passing l.round (λ i. sound_meter (table_in l.table) (in_round l.initial.meter i)))
    × (in_round l.meter 0 ≡ in_round l.initial.meter 0)

abbrev pub decreases-loop-round : goal.decreases-loop-round
decreases-loop-round l = l.rounds - l.round
