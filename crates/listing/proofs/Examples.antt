-- The examples, computed.
use Rattle.base.proofs.Prelude.{refl, flat_map, among, every, any, below, gathered, each_from}
use Rattle.codec.specs.{BigEndian.be, Format.num_at}
use Rattle.events.specs.{Line.newest, Table.built_in, Table.lookup, Codes.besides, Codes.may_hold}
use Rattle.control.specs.Table.{switch_table}
use Rattle.control.specs.Control.{decision, mode_decision, sound_control}
use Rattle.limiter.specs.Limiter.{watched, sound_limiter}
use Rattle.base.specs.Bits.{bit, how_many}
use Rattle.registers.specs.Alarms.{sound_alarms}
use Rattle.emergency.specs.Emergency.{sound_emergency}
use Rattle.logs.specs.Lists.{changed}
use Rattle.logs.specs.Arrays.{own_codes, zero_past, sound_log, sound_arrays}
use Rattle.logs.specs.Layout.{padded, flat, laid, lists_of, sound_logs}
use Rattle.calls.specs.Calls.{call_of}
use Rattle.meter.specs.{Settings.fresh_answer, Sound.sound_meter, Machine.applied, Machine.commanded}
use Rattle.steps.specs.Scalars.{sound_scalars}
use Rattle.machine.specs.Machine.{request_result, sample_result, mode_result, event_result, script_result}
use Rattle.replay.specs.Listing.{digits, decimal, field, line_bytes}
use Rattle.listing.specs.{Lines.lines_from, Listing.listing_of}
use Rattle.listing.specs.Examples.{Examples}

pub examples : Examples
unfolding listing_of lines_from flat_map decimal digits field line_bytes be num_at fresh_answer call_of commanded applied sound_meter sound_scalars
    sound_control sound_limiter sound_alarms bit how_many sound_emergency sound_logs sound_arrays sound_log own_codes zero_past padded flat laid lists_of changed
    newest among every any below
    gathered each_from built_in lookup besides may_hold switch_table decision mode_decision watched request_result sample_result mode_result event_result script_result
examples = record { empty = refl; first_cut = refl; bad = refl; refused = refl; cut = refl; taken = refl; events = refl; worked = refl }
