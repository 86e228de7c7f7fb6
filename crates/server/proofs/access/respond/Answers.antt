use Rattle.server.specs.Access.{responded_on}
use Rattle.server.proofs.access.respond.Goals as goal

pub returns-in-Get : goal.returns-in-Get
unfolding responded_on
returns-in-Get c =
    rw (c.in-Get.is, c.get_on-response.ensures, c.scalars.ensures)

pub returns-in-Set : goal.returns-in-Set
unfolding responded_on
returns-in-Set c =
    rw (c.in-Set.is, c.is_success.ensures, c.access_on-accessed.ensures)

pub returns-in-Action : goal.returns-in-Action
unfolding responded_on
returns-in-Action c =
    rw (c.in-Action.is, c.is_success-in-Action.ensures, c.access_on-accessed-in-Action.ensures)
