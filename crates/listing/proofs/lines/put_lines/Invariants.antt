-- the lines that are put and those of the records that are left are the block's
use Rattle.std.proofs.Common.{◌≡◌, ◌+◌, ◌/◌, length}
use Rattle.std.specs.Iterator.Adapters.{enumerate_source, enumerate_count}
use Rattle.std.specs.Slice.Iter.{chunks_exact_rest, chunks_exact_size}
use Rattle.replay.specs.Replay.{records_from}
use Rattle.listing.proofs.Lists.{Listing}
use Rattle.listing.proofs.lines.put_lines.Given as goal

abbrev pub invariant-loop-i : goal.invariant-loop-i
invariant-loop-i l =
    let chunks = enumerate_source l.i-iterator in
    let i = enumerate_count l.i-iterator in
    let rest = chunks_exact_rest chunks in
    (chunks_exact_size chunks ≡ 21)
    × ((i + length rest / 21 ≡ length l.block / 21)
    × Listing l.initial.text l.position l.initial.meter (records_from 0 l.block) l.text l.meter l.len i (records_from 0 rest))
