-- `run_by_method` meets its contract: the records that are left, on the meter so far, are all of them on the meter that was given.
use mathlib.Core.Path.{refl, sym, ◌∙◌}
use borrow.Author.Rules.{rules}
use Rattle.replay.proofs.Runs.{after_record, last_turn}
use Rattle.measure.proofs.run_by_method.Goals as goal

pub loop-i-init : goal.loop-i-init
loop-i-init c = refl

pub loop-i-preserved : goal.loop-i-preserved
loop-i-preserved c =
    let l = c.loop-i in
    after_record _ _ l.i l.meter c.record_at-record.result c.next-outcome.result c.loop-i-test.true
    c.record_at-record.ensures c.next-outcome.ensures
    ∙ l.invariant

pub returns : goal.returns
returns c =
    let l = c.loop-i in
    sym (last_turn _ c.args.records.now l.i l.meter (search rules)) ∙ l.invariant
