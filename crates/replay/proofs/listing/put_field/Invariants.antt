use Rattle.replay.proofs.Stores.{Storing}
use Rattle.replay.proofs.listing.put_field.Given as goal

abbrev pub invariant-loop-rest : goal.invariant-loop-rest
invariant-loop-rest l = Storing l.initial.out l.initial.at l.n l.out l.at l.rest

abbrev pub decreases-loop-rest : goal.decreases-loop-rest
decreases-loop-rest l = l.rest
