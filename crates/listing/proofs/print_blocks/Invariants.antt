-- Some blocks have led to the progress. The loop ends: each block moves the position on, which stays below 2 ^ 64.
use Rattle.std.proofs.Common.{◌-◌}
use Rattle.listing.proofs.Chains.{Led}
use Rattle.listing.proofs.print_blocks.Given as goal

abbrev pub invariant-loop-printed : goal.invariant-loop-printed
invariant-loop-printed g l = Led l.initial.printed.progress l.printed.progress

abbrev pub decreases-loop-printed : goal.decreases-loop-printed
decreases-loop-printed g l = 18446744073709551615 - l.printed.progress.position
