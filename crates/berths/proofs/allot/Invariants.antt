-- The first loop has the berths behind its index still to be counted, the second those behind its index still to be filled.
use Rattle.std.proofs.Common.{◌≡◌, ◌++◌, take, drop}
use Rattle.berths.specs.Allotments.{allotted}
use Rattle.berths.specs.Counting.{with_berths}
use Rattle.berths.proofs.Loops.{counted_column}
use Rattle.berths.proofs.allot.Given as goal

abbrev pub invariant-loop-berth : goal.invariant-loop-berth
invariant-loop-berth l = with_berths l.column (drop l.berth-index l.berth-items) ≡ counted_column l.fn.limit l.fn.berths

abbrev pub invariant-loop-berth-2 : goal.invariant-loop-berth-2
invariant-loop-berth-2 l = take l.berth-index l.berths ++ allotted l.left (drop l.berth-index l.berths) ≡ allotted l.initial.left l.fn.berths
