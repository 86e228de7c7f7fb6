use Rattle.base.proofs.Prelude.{ap, ◌∙◌, arith, length, length-append}
use Rattle.std.specs.Iterator.Adapters.{enumerate_source}
use Rattle.std.specs.Slice.Iter.{chunks_exact_rest}
use Rattle.replay.specs.Replay.{records_from}
use Rattle.replay.proofs.Runs.{records_end}
use Rattle.listing.proofs.Lists.{one_listed, all_listed}
use Rattle.listing.proofs.Parts.{record_ahead}
use Rattle.listing.proofs.lines.put_lines.Goals as goal

-- one line more is put, and one record fewer is left
pub loop-i-preserved : goal.loop-i-preserved
loop-i-preserved c =
    let e = c.in-Some.ensures.steps in
    let s = e.0.1 in
    let bytes = c.in-Some.bytes.now in
    let rest = chunks_exact_rest (enumerate_source c.next.new.self) in
    let h = c.loop-i.invariant in
    let long = s.1 ∙ h.0 in
    let left = rw (s.0, record_ahead bytes rest long, ← c.record_at-record.ensures) at h.1.1 in
    let made = rw c.built_in-table.ensures at c.next-outcome.ensures in
    let drawn = rw e.1 at c.line_of.ensures in (
      e.0.0 ∙ h.0,
      (
        omega (arith, h.1.0, e.2, ap length s.0, length-append bytes rest, long),
        rw e.2
            (one_listed c.args.text.now c.args.position c.args.before (records_from 0 c.args.block.now) left made drawn c.put_line-len.ensures.put_behind
            c.put_line-len.ensures.upper_bound),
      ),
    )

-- no record is left
pub returns : goal.returns
returns c =
    let h = c.loop-i.invariant in
    let short = c.in-None.ensures.steps.0.1.0 in
    let none = records_end (chunks_exact_rest (enumerate_source c.loop-i.i-iterator)) 0 (omega (arith, short, h.0)) in
    let all = all_listed c.args.text.now c.args.position c.args.before (records_from 0 c.args.block.now) (rw none at h.1.1) in
    record { meter_value = all.0; put_at_start = all.1; len_bound = omega (arith, c.requires.1, h.1.0, h.1.1.room) }
