use Rattle.page.proofs.Common.{◌≡◌, refl, sym, ◌∙◌, true, lt-leb, le-leb, and_right, List, sound_arrays, sound_logs}
use mathlib.Core.Bool.{false≢true}
use Rattle.events.specs.Table.{EventRow}
use Rattle.phases_steps.specs.Scalars.{sound_three_phase_scalars}
use Rattle.phases_meter.specs.declared.ThreePhaseMeter.{ThreePhaseMeter}
use Rattle.phases_meter.specs.State.{three_phase_with_logs, sound_three_phase_meter}
use Rattle.phases_page.specs.Layout.{three_phase_write_answer, three_phase_written}
use Rattle.writer.proofs.ThreePhaseStored.{three_phase_page_left, three_phase_page_past}
use Rattle.writer.proofs.EveryRecord.{three_phase_writes_every_record}
use Rattle.writer.proofs.three_phase.write_three_phase_sound.Goals as goal
use Rattle.writer.proofs.three_phase.write_three_phase_sound.Goals.{Start}

-- the record of the parts
abbrev given : Start → ThreePhaseMeter
given c = three_phase_with_logs c.args.scalars c.args.counts.now c.args.clocks.now c.args.codes.now

logs_sound : (rows : List EventRow) (m : ThreePhaseMeter) → sound_three_phase_meter rows m ≡ true
    → sound_arrays rows m.logs.counts m.logs.clocks m.logs.codes ≡ true
unfolding sound_three_phase_meter sound_logs
logs_sound rows m e = and_right (sound_three_phase_scalars m.scalars) _ e

pub returns-then-out-lt-THREE_PHASE_PAGE_LEN : goal.returns-then-out-lt-THREE_PHASE_PAGE_LEN
unfolding three_phase_write_answer three_phase_written
returns-then-out-lt-THREE_PHASE_PAGE_LEN c =
    let l = lt-leb _ _ c.if-out-lt-THREE_PHASE_PAGE_LEN.true in
    record {
      three_phase_writes_sound = record { answers = rw l; refused = λ e. refl; past = refl; sound = λ rows e. (rw (e, l), rw (e, l)) };
      every_record = three_phase_writes_every_record;
    }

pub returns : goal.returns
unfolding three_phase_write_answer three_phase_written
returns c =
    let room = c.if-out-lt-THREE_PHASE_PAGE_LEN.false in
    let l = le-leb _ _ room in record {
      three_phase_writes_sound = record {
        answers = rw l;
        refused = λ e. absurd (false≢true (sym e ∙ l));
        past = three_phase_page_past c.args.out.now c.put_three_phase_scalars.new.out c.put_logs.new.out c.args.scalars
            c.put_three_phase_scalars.ensures c.put_logs.ensures.past;
        sound = λ rows e. (
          rw (e, l),
          rw (e, l)
              (three_phase_page_left c.args.out.now c.put_three_phase_scalars.new.out c.put_logs.new.out (given (goal.at.returns c).Start) room
              c.put_three_phase_scalars.ensures (c.put_logs.ensures.area rows (logs_sound rows (given (goal.at.returns c).Start) e))),
        );
      };
      every_record = three_phase_writes_every_record;
    }
