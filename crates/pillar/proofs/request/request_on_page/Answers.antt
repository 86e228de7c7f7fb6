use borrow.Author.Tests.{not-true, not-false}
use mathlib.Core.Path.{◌≡◌, ap, ◌∙◌}
use mathlib.Core.Bool.{true}
use native.Mathlib.Omega.{arith}
use Rattle.tables.specs.Index.{table_in}
use Rattle.tables.proofs.Index.{table_lawful}
use Rattle.meter.specs.Sound.{sound_meter}
use Rattle.server.specs.declared.Served.{Served}
use Rattle.pillar.proofs.Laws.{read_record}
use Rattle.pillar.proofs.Asked.{short, unread, not_whole, not_carried, carried}
use Rattle.pillar.proofs.RequestLaws.{served_sound}
use Rattle.pillar.proofs.request.request_on_page.Goals as goal
use Rattle.pillar.proofs.request.request_on_page.Goals.{After-serve_sound-served}

-- the record that the request leaves is sound, as the one that was read is
left_sound : (c : After-serve_sound-served) → sound_meter (table_in c.args.table.now) c.serve_sound-served.result.meter ≡ true
left_sound c =
    let rows = table_in c.args.table.now in
    let (sound, sized) =
    read_record rows (table_lawful c.args.table.now) _ _ (λ i. omega (arith, c.slice_known-1.given i)) c.read_page-read.ensures.value c.in_default.is in
    ap (λ (x : Served). sound_meter rows x.meter) c.serve_sound-served.ensures.0
    ∙ served_sound rows c.read_page-read.result.meter (table_lawful c.args.table.now) sized sound _ _ (λ i. omega (arith, c.shared_slice_known-1.given i))

pub returns-then-answer-lt32 : goal.returns-then-answer-lt32
returns-then-answer-lt32 c = short _ _ _ _ c.if-answer-lt32.true

pub returns-in-Refused : goal.returns-in-Refused
returns-in-Refused c =
    unread _ _ _ _ c.if-answer-lt32.false _ c.read_page-read.ensures.value _ c.in-Refused.is

pub returns-in-Refused-refusal : goal.returns-in-Refused-refusal
returns-in-Refused-refusal c =
    not_whole _ _ _ _ c.if-answer-lt32.false _ c.read_page-read.ensures.value c.in_default.is _ _ c.serve_sound-served.ensures _
    c.in-Refused-refusal.is

pub returns-then-not-served : goal.returns-then-not-served
returns-then-not-served c =
    not_carried _ _ _ _ c.if-answer-lt32.false _ c.read_page-read.ensures.value c.in_default.is _ _ c.serve_sound-served.ensures
    c.in_default-refusal.is _ c.byte.ensures (not-true _ c.if-not-served.true)

pub returns : goal.returns
returns c =
    carried _ _ _ _ c.if-answer-lt32.false _ c.read_page-read.ensures.value c.in_default.is _ _ c.serve_sound-served.ensures
    c.in_default-refusal.is _ c.byte.ensures (not-false _ c.if-not-served.false) _ _ _ c.number.ensures
    ((rw c.scalars-after.ensures at c.write_sound.ensures.writes_sound).sound _ (left_sound (goal.at.returns c).After-serve_sound-served))
