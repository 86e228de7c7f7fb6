use Rattle.listing.proofs.{Laws.laws, Examples.examples}
use Rattle.listing.proofs.print_listing.Goals as goal

pub returns-clause-laws : goal.returns-clause-laws
returns-clause-laws g c = laws

pub returns-clause-examples : goal.returns-clause-examples
returns-clause-examples g c = examples
