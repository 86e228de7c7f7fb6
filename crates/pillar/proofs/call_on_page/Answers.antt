-- `call_on_page` meets its contract: a kind that names no call returns at once, then a page that the reader refuses, and a call that is refused; the
-- record that the call leaves is sound, as the one that was read is, and goes to the writer.
use mathlib.Core.Path.{◌≡◌, refl, ap, ◌∙◌}
use Rattle.std.specs.Prelude.{Err}
use Rattle.calls.proofs.Named.{one_error}
use mathlib.Core.Bool.{true}
use native.Mathlib.Omega.{arith}
use borrow.Author.Rules.{rules}
use mathlib.Core.List.{List}
use Rattle.events.specs.Table.{EventRow}
use Rattle.tables.specs.Index.{table_in}
use Rattle.tables.proofs.Index.{table_lawful}
use Rattle.logs.specs.Layout.{Sized}
use Rattle.calls.specs.declared.Call.{Call}
use Rattle.calls.specs.Calls.{InRange}
use Rattle.meter.specs.declared.Meter.{Meter}
use Rattle.meter.specs.declared.Outcome.{Outcome}
use Rattle.meter.specs.Sound.{sound_meter}
use Rattle.meter.specs.Machine.{applied}
use Rattle.meter.specs.Parts.{outcome_of}
use Rattle.meter.proofs.Laws.{laws_of}
use Rattle.pillar.proofs.Kept.{kept_refused, kept_written, call_no_kind, call_refused, call_kept, named_range}
use Rattle.pillar.proofs.Laws.{read_record}
use Rattle.pillar.proofs.call_on_page.Goals as goal
use Rattle.pillar.proofs.call_on_page.Goals.{After-apply_sound-called}

-- the event table's rows; the record that was read, the call, and what it makes of the record
abbrev rows : After-apply_sound-called → List EventRow
rows c = table_in c.args.table.now

abbrev given : After-apply_sound-called → Meter
given c = c.read_page-read.result.meter

abbrev call : After-apply_sound-called → Call
call c = c.in-Ok.call

abbrev left : After-apply_sound-called → Outcome
left c =
    let a = c.apply_sound-called in
    outcome_of a.result a.new.counts a.new.clocks a.new.codes

accepted : (c : After-apply_sound-called) → (sound_meter (rows c) (given c) ≡ true) × Sized (given c).logs
accepted c =
    read_record (rows c) (table_lawful c.args.table.now) _ _ (λ i. omega (arith, c.slice_known-1.given i)) c.read_page-read.ensures.value
    c.in_default-answer.is

in_range : (c : After-apply_sound-called) → InRange (call c)
in_range c = named_range _ _ _ c.read_kind.ensures.value c.in-Ok.is (search rules) (search rules) (search rules) (search rules) (search rules)

applies : (c : After-apply_sound-called) → left c ≡ applied (rows c) (given c) (call c)
applies c =
    let (sound, sized) = accepted c in
    (rw c.scalars-before.ensures at c.apply_sound-called.ensures)
    ∙ (laws_of (rows c) (table_lawful c.args.table.now)).sound_in_parts (given c) (call c) sized sound

left_sound : (c : After-apply_sound-called) → sound_meter (rows c) (left c).meter ≡ true
left_sound c =
    let (sound, sized) = accepted c in
    ap (λ (o : Outcome). sound_meter (rows c) o.meter) (applies c)
    ∙ (laws_of (rows c) (table_lawful c.args.table.now)).kept_sound (given c) (call c) sized (in_range c) sound

pub returns-in_default : goal.returns-in_default
returns-in_default c = call_no_kind _ _ _ _ c.read_kind.ensures.value _ (c.in_default.is ∙ ap Err (one_error c.in_default.field-0)) refl

pub returns-in-Refused : goal.returns-in-Refused
returns-in-Refused c =
    call_refused _ _ _ _ c.read_kind.ensures.value _ c.in-Ok.is _ c.read_page-read.ensures.value _ _ c.in-Refused.is refl

pub returns-in-Refused-refusal : goal.returns-in-Refused-refusal
returns-in-Refused-refusal c =
    let a = (goal.at.returns-in-Refused-refusal c).After-apply_sound-called in
    call_kept _ _ _ _ c.read_kind.ensures.value _ c.in-Ok.is _ c.read_page-read.ensures.value _ _ _ _
    c.in_default-answer.is (applies a) (kept_refused _ (left a) _ _ c.in-Refused-refusal.is) c.byte.ensures

pub returns : goal.returns
returns c =
    let a = (goal.at.returns c).After-apply_sound-called in
    call_kept _ _ _ _ c.read_kind.ensures.value _ c.in-Ok.is _ c.read_page-read.ensures.value _ _ _ _
    c.in_default-answer.is (applies a)
    (kept_written _ (left a) _ _ _ _ c.in_default-refusal.is c.number.ensures (c.write_sound.ensures.writes_sound.sound _ (left_sound a)))
    c.byte.ensures
