-- `call_on_page` meets its contract: a kind that names no call returns at once, then a page that the reader refuses, and a call that is refused; the
-- record that the call leaves is sound, as the one that was read is, and goes to the writer.
use mathlib.Core.Path.{◌≡◌, refl, ap, ◌∙◌}
use mathlib.Core.Bool.{true}
use mathlib.Core.List.{List}
use native.Mathlib.Omega.{arith}
use borrow.Author.Rules.{rules}
use Rattle.std.specs.Prelude.{Err}
use Rattle.calls.proofs.Named.{one_error}
use Rattle.events.specs.Table.{EventRow}
use Rattle.tables.specs.Index.{table_in}
use Rattle.tables.proofs.Index.{table_lawful}
use Rattle.logs.specs.Layout.{Sized}
use Rattle.phases.specs.declared.ThreePhaseCall.{ThreePhaseCall}
use Rattle.phases.specs.Calls.{ThreePhaseInRange}
use Rattle.phases_meter.specs.declared.ThreePhaseMeter.{ThreePhaseMeter}
use Rattle.phases_meter.specs.declared.ThreePhaseOutcome.{ThreePhaseOutcome}
use Rattle.phases_meter.specs.State.{sound_three_phase_meter}
use Rattle.phases_meter.specs.Machine.{three_phase_applied}
use Rattle.phases_meter.specs.Parts.{three_phase_outcome_of}
use Rattle.phases_meter.proofs.Laws.{laws_of}
use Rattle.phases_interface.proofs.Kept.{kept_refused, kept_written, call_no_kind, call_refused, call_kept, named_range}
use Rattle.phases_interface.proofs.Laws.{read_record, laws, compared}
use Rattle.phases_interface.proofs.call_on_page.Goals as goal
use Rattle.phases_interface.proofs.call_on_page.Goals.{After-apply_sound-called}

-- the event table's rows; the record that was read, the call, and what it makes of the record
abbrev rows : After-apply_sound-called → List EventRow
rows c = table_in c.index_of-index.result

abbrev given : After-apply_sound-called → ThreePhaseMeter
given c = c.read_three_phase_page-read.result.meter

abbrev call : After-apply_sound-called → ThreePhaseCall
call c = c.in-Ok.call

abbrev left : After-apply_sound-called → ThreePhaseOutcome
left c =
    let a = c.apply_sound-called in
    three_phase_outcome_of a.result a.new.counts a.new.clocks a.new.codes

accepted : (c : After-apply_sound-called) → (sound_three_phase_meter (rows c) (given c) ≡ true) × Sized (given c).logs
accepted c =
    read_record (rows c) (table_lawful c.index_of-index.result) _ _ (λ i. omega (arith, c.slice_known-1.given i)) c.read_three_phase_page-read.ensures.value
    c.in_default-answer.is

in_range : (c : After-apply_sound-called) → ThreePhaseInRange (call c)
in_range c =
    named_range _ _ _ c.read_command.ensures.value c.in-Ok.is (search rules) (search rules) (search rules) (search rules) (search rules) (search rules)

applies : (c : After-apply_sound-called) → left c ≡ three_phase_applied (rows c) (given c) (call c)
applies c =
    let (sound, sized) = accepted c in
    c.apply_sound-called.ensures ∙ (laws_of (rows c) (table_lawful c.index_of-index.result)).sound_in_parts (given c) (call c) sized sound

left_sound : (c : After-apply_sound-called) → sound_three_phase_meter (rows c) (left c).meter ≡ true
left_sound c =
    let (sound, sized) = accepted c in
    ap (λ (o : ThreePhaseOutcome). sound_three_phase_meter (rows c) o.meter) (applies c)
    ∙ (laws_of (rows c) (table_lawful c.index_of-index.result)).kept_sound (given c) (call c) sized (in_range c) sound

pub returns-in_default : goal.returns-in_default
returns-in_default c = record {
  three_phase_called = call_no_kind _ _ _ _ c.read_command.ensures.value _ (c.in_default.is ∙ ap Err (one_error c.in_default.field-0)) refl;
  laws = laws;
  compared = compared;
}

pub returns-in-Refused : goal.returns-in-Refused
returns-in-Refused c = record {
  three_phase_called = rw c.index_of-index.ensures at
      (call_refused (table_in c.index_of-index.result) _ _ _ c.read_command.ensures.value _ c.in-Ok.is _ c.read_three_phase_page-read.ensures.value _ _
      c.in-Refused.is refl);
  laws = laws;
  compared = compared;
}

pub returns-in-Refused-refusal : goal.returns-in-Refused-refusal
returns-in-Refused-refusal c =
    let a = (goal.at.returns-in-Refused-refusal c).After-apply_sound-called in record {
      three_phase_called = rw c.index_of-index.ensures at
          (call_kept (table_in c.index_of-index.result) _ _ _ c.read_command.ensures.value _ c.in-Ok.is _ c.read_three_phase_page-read.ensures.value _ _ _ _
          c.in_default-answer.is (applies a) (kept_refused _ (left a) _ _ c.in-Refused-refusal.is) c.byte.ensures);
      laws = laws;
      compared = compared;
    }

pub returns : goal.returns
returns c =
    let a = (goal.at.returns c).After-apply_sound-called in record {
      three_phase_called = rw c.index_of-index.ensures at
          (call_kept (table_in c.index_of-index.result) _ _ _ c.read_command.ensures.value _ c.in-Ok.is _ c.read_three_phase_page-read.ensures.value _ _ _ _
          c.in_default-answer.is (applies a)
          (kept_written _ (left a) _ _ _ _ c.in_default-refusal.is c.number.ensures (c.write_three_phase_sound.ensures.three_phase_writes_sound.sound _ (left_sound a)))
          c.byte.ensures);
      laws = laws;
      compared = compared;
    }
