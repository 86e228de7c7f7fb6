use Rattle.calls.proofs.Named.{one_error}
use Rattle.meter.specs.Machine.{commanded}
use Rattle.meter.proofs.Meter.command.Goals as goal

pub returns-in_default : goal.returns-in_default
unfolding commanded
returns-in_default c = rw (← c.read_kind.ensures.value, c.in_default.is, one_error c.in_default.field-0)

pub returns : goal.returns
unfolding commanded
returns c = rw (← c.read_kind.ensures.value, c.in-Ok.is) c.apply.ensures.value
