use Rattle.listing.proofs.Texts.{block_put}
use Rattle.listing.proofs.lines.put_block.Goals as goal

pub returns-clause-put_at_start : goal.returns-clause-put_at_start
returns-clause-put_at_start c =
    block_put c.args.before c.args.block.now c.args.text.now c.put_lines-listed.ensures.put_at_start c.put_cut-len.ensures
