use Rattle.calls.proofs.Named.{one_error}
use Rattle.phases_meter.specs.Parts.{three_phase_command_in_parts}
use Rattle.phases_meter.proofs.parts.command_sound.Goals as goal

pub returns-in_default : goal.returns-in_default
unfolding three_phase_command_in_parts
returns-in_default c = rw (← c.read_command.ensures.value, c.in_default.is, one_error c.in_default.field-0)

pub returns : goal.returns
unfolding three_phase_command_in_parts
returns c = rw (← c.read_command.ensures.value, c.in-Ok.is) c.apply_sound.ensures
