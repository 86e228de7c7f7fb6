-- each way the text is that of the first record
use Rattle.listing.proofs.Texts.{short_first, bad_first, line_first, first_put}
use Rattle.listing.proofs.lines.put_first.Goals as goal

pub returns-then-bytes-lt-RECORD_LEN-clause-put_at_start : goal.returns-then-bytes-lt-RECORD_LEN-clause-put_at_start
returns-then-bytes-lt-RECORD_LEN-clause-put_at_start c =
    first_put c.args.text.now (short_first c.args.bytes.now c.if-bytes-lt-RECORD_LEN.true) c.put_cut-len.ensures

pub returns-then-first-ne0-clause-put_at_start : goal.returns-then-first-ne0-clause-put_at_start
returns-then-first-ne0-clause-put_at_start c =
    let bad = bad_first c.args.bytes.now c.record_at-first.ensures c.if-bytes-lt-RECORD_LEN.false c.if-first-ne0.true in
    first_put c.args.text.now bad c.put_bytes-len.ensures

pub returns-clause-put_at_start : goal.returns-clause-put_at_start
returns-clause-put_at_start c =
    let line =
    line_first c.args.bytes.now c.record_at-first.ensures c.if-bytes-lt-RECORD_LEN.false c.if-first-ne0.false c.start-fresh.ensures
    c.line_of.ensures in
    first_put c.args.text.now line c.put_line-len.ensures.put_behind
