-- what is read lies within the part, and each turn fills more of it
use Rattle.std.proofs.Common.{◌≤◌, ◌-◌, length}
use Rattle.listing.proofs.reading.read_part.Given as goal

abbrev pub invariant-loop-count : goal.invariant-loop-count
invariant-loop-count g l = l.count ≤ length l.part

abbrev pub decreases-loop-count : goal.decreases-loop-count
decreases-loop-count g l = length l.initial.part - l.count
