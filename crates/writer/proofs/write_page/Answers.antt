use Rattle.page.proofs.Common.{◌≡◌, ◌∙◌, sym, ap, ◌&&◌, List, ℕ, ◌<◌, ◌^◌, arith, get_or, take, Width, w8, w16, w32, Fits, bits, rules}
use Rattle.page.proofs.Common.{Accepted, Refused, sound_scalars, Meter, sound_meter}
use Rattle.events.specs.Table.{EventRow}
use Rattle.tables.specs.Index.{table_in}
use Rattle.calls.specs.declared.Answer.{Answer}
use Rattle.meter.proofs.Tail.{sound_is}
use Rattle.page.specs.Layout.{size, write_answer, written, accepted_outcome, read_of}
use Rattle.page.specs.Demand3.{Demand3}
use Rattle.page.specs.Examples.{Examples}
use Rattle.page.specs.Laws.{Typed}
use Rattle.page.proofs.RoundTrip.{laws}
use Rattle.page.proofs.Traces.{demand_3, examples}
use Rattle.writer.proofs.write_page.Goals as goal
use Rattle.writer.proofs.write_page.Goals.{After-sound-2, Start}

-- the test of the record, by that of its scalars and that of its logs
tested : (c : After-sound-2) → c.sound.result && c.sound-2.result ≡ sound_meter (table_in c.args.table.now) c.args.m
tested c = sound_is (table_in c.args.table.now) c.args.m _ _ (c.sound.ensures ∙ ap sound_scalars c.scalars-scalars.ensures) c.sound-2.ensures

fits : (w : Width) (n : ℕ) → Fits w n → n < 2 ^ bits w
fits w n f = f.fits

-- the record's numbers are values of their types
typed : (c : Start) → Typed c.args.m
typed c =
    record {
      openings = search rules;
      clock = search rules;
      alarms = search rules;
      alarm_filter = search rules;
      errors = search rules;
      error_filter = search rules;
      logs = record { counts = search rules; clocks = search rules; codes = search rules };
      counts = λ i. fits w8 (get_or c.args.m.logs.counts i 0) (search rules);
      clocks = λ i. omega (arith, fits w32 (get_or c.args.m.logs.clocks i 0) (search rules));
      codes = λ i. fits w8 (get_or c.args.m.logs.codes i 0) (search rules);
      id = search rules;
      activation = search rules;
      eight = search rules;
      ids = λ i. fits w16 (get_or c.args.m.emergency.ids i 0) (search rules);
    }

-- what the writer promises, by what it answers and leaves
writer_promises : (rows : List EventRow) (m : Meter) (out : List ℕ) (a : Answer) (left : List ℕ) → Typed m
    → (a ≡ write_answer rows m out) × (left ≡ written rows m out)
    → ((a ≡ write_answer rows m out) × (left ≡ written rows m out))
    × ((a ≡ Accepted → read_of rows (take size left) ≡ accepted_outcome m) × (Demand3 × Examples))
writer_promises rows m out a left t e = (e, (λ h. rw e.1 ((laws.by_table rows).read_written m out t (sym e.0 ∙ h)), (demand_3, examples)))

pub returns-then-not-sound : goal.returns-then-not-sound
unfolding write_answer written
returns-then-not-sound c =
    let e = sym (tested (goal.at.returns-then-not-sound c).After-sound-2) ∙ c.if-not-sound.true in
    let a = c.args in
    let p = writer_promises (table_in a.table.now) a.m a.out.now (Refused 12) a.out.now (typed (goal.at.returns-then-not-sound c).Start) (rw e, rw e) in
    record { value = p.0; restored = p.1.0; demand3 = p.1.1.0; examples = p.1.1.1 }

pub returns : goal.returns
returns c =
    let same = c.scalars-scalars.ensures in
    let p = writer_promises _ _ _ _ _ (typed (goal.at.returns c).Start) ((rw same at c.write_sound.ensures.writes_sound).sound _ (sym (tested (goal.at.returns c).After-sound-2) ∙ c.if-not-sound.false)) in
    record { value = p.0; restored = p.1.0; demand3 = p.1.1.0; examples = p.1.1.1 }
