use Rattle.base.proofs.Prelude.{◌≡◌, sym, ◌∙◌, true, rules}
use Rattle.tables.specs.Index.{table_in}
use Rattle.logs.specs.Layout.{Sized}
use Rattle.phases_meter.specs.State.{sound_three_phase_meter}
use Rattle.phases_meter.specs.Parts.{three_phase_outcome_of}
use Rattle.phases_meter.proofs.Tail.{unsound_refused_lem, of_parts}
use Rattle.phases_meter.proofs.Laws.{laws}
use Rattle.phases_meter.proofs.ThreePhaseMeter.apply.Goals as goal
use Rattle.phases_meter.proofs.ThreePhaseMeter.apply.Goals.{Else-not-sound, Start}

sized : (c : Start) → Sized c.args.self.logs
sized c = record { counts = search rules; clocks = search rules; codes = search rules }

-- past the test the record is sound
tested : (c : Else-not-sound) → sound_three_phase_meter (table_in c.args.table.now) c.args.self ≡ true
tested c = sym c.sound.ensures.value ∙ c.if-not-sound.false

pub returns-then-not-sound : goal.returns-then-not-sound
returns-then-not-sound c =
    record {
      value = unsound_refused_lem _ _ _ (sym c.sound.ensures.value ∙ c.if-not-sound.true);
      laws = laws;
    }

pub returns : goal.returns
returns c =
    let a = c.args in
    let last = c.apply_sound-answered.new in
    let left = three_phase_outcome_of c.apply_sound-answered.result last.counts last.clocks last.codes in
    record {
      value = rw c.of_parts.ensures (of_parts (table_in a.table.now) a.self a.call left (sized (goal.at.returns c).Start) (tested (goal.at.returns c).Else-not-sound) c.apply_sound-answered.ensures);
      laws = laws;
    }
