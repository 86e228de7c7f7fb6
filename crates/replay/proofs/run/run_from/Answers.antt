use mathlib.Core.Path.{◌≡◌, refl, sym, ◌∙◌}
use mathlib.Core.Bool.{true}
use native.Mathlib.Omega.{arith}
use borrow.Author.Rules.{rules}
use Rattle.tables.specs.Index.{table_in}
use Rattle.tables.proofs.Index.{table_lawful}
use Rattle.logs.specs.Layout.{Sized}
use Rattle.meter.specs.State.{with_logs}
use Rattle.meter.specs.Sound.{sound_meter}
use Rattle.meter.specs.Parts.{outcome_of}
use Rattle.meter.proofs.Laws.{laws_of}
use Rattle.replay.proofs.Runs.{next_turn, last_turn, not_sound_run}
use Rattle.replay.proofs.run.run_from.Goals as goal
use Rattle.replay.proofs.run.run_from.Goals.{Else-not-sound, Start}

sized : (c : Start) → Sized c.args.before.logs
sized c = record { counts = search rules; clocks = search rules; codes = search rules }

-- the test of the record, which says that it is sound from here on
before_sound : (c : Else-not-sound) → sound_meter (table_in c.args.table.now) c.args.before ≡ true
before_sound c = sym c.sound.ensures.value ∙ c.if-not-sound.false

pub returns-then-not-sound : goal.returns-then-not-sound
returns-then-not-sound c = not_sound_run _ _ _ (sym c.sound.ensures.value ∙ c.if-not-sound.true)

pub loop-i-init : goal.loop-i-init
loop-i-init c =
    ((sized (goal.at.loop-i-init c).Start, rw c.scalars-scalars.ensures (before_sound (goal.at.loop-i-init c).Else-not-sound)), refl)

pub loop-i-preserved : goal.loop-i-preserved
loop-i-preserved c =
    let call = c.command_sound-answered in
    let l = c.loop-i in
    let table = c.args.table.now in
    let m = with_logs l.scalars l.counts l.clocks l.codes in
    let k =
    next_turn (table_in table) c.args.records.now l.i m c.whole_record_at-record.result
    (outcome_of call.result call.new.counts call.new.clocks call.new.codes)
    c.loop-i-test.true
    (table_lawful table)
    c.whole_record_at-record.ensures
    (call.ensures ∙ (laws_of (table_in table) (table_lawful table)).command_in_parts m _ l.invariant.0.0 l.invariant.0.1)
    (λ i. omega (arith, c.type_inv.records i))
    l.invariant.0 in
    (k.0, k.1 ∙ l.invariant.1)

pub returns : goal.returns
returns c =
    let l = c.loop-i in
    let given = c.args in
    rw c.of_parts.ensures
    (sym (last_turn (table_in given.table.now) given.records.now l.i (with_logs l.scalars l.counts l.clocks l.codes) (search rules))
    ∙ l.invariant.1
    ∙ rw c.scalars-scalars.ensures)
