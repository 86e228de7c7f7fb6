use Rattle.calls.proofs.Named.{one_error}
use Rattle.meter.specs.Parts.{commanded_in_parts}
use Rattle.meter.proofs.parts.command_sound.Goals as goal

pub returns-in_default : goal.returns-in_default
unfolding commanded_in_parts
returns-in_default c = rw (← c.read_kind.ensures.value, c.in_default.is, one_error c.in_default.field-0)

pub returns : goal.returns
unfolding commanded_in_parts
returns c = rw (← c.read_kind.ensures.value, c.in-Ok.is) c.apply_sound.ensures
