use Rattle.listing.proofs.Chains.{led_nowhere, led_on}
use Rattle.listing.proofs.print_blocks.Goals as goal

pub loop-printed-init : goal.loop-printed-init
loop-printed-init g c = led_nowhere _

-- one block more
pub loop-printed-preserved : goal.loop-printed-preserved
loop-printed-preserved g c = led_on _ c.loop-printed.invariant c.if-printed.true c.print_block-printed.ensures
