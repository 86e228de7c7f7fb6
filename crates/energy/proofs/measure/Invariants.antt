use Rattle.base.proofs.Prelude.{◌≡◌, ◌+◌, ◌≤◌, ◌*◌, take}
use Rattle.base.specs.Numbers.{positive_part, negative_part}
use Rattle.energy.specs.Days.{total}
use Rattle.energy.proofs.measure.Given as goal

-- the import is that of the samples passed, and with it the sum of distances is their export and a highest power each; each power is bounded
abbrev pub invariant-loop-power : goal.invariant-loop-power
invariant-loop-power l = record {
  import_so_far : l.import ≡ total positive_part (take l.power-index l.samples);
  import_fits : l.import ≤ l.power-index * 2147483648;
  export_so_far : l.distance + l.import ≡ total negative_part (take l.power-index l.samples) + l.power-index * 2147483647;
  distance_fits : l.distance ≤ l.power-index * 4294967295;
}
