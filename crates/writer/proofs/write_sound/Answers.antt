use Rattle.page.proofs.Common.{◌≡◌, refl, sym, ◌∙◌, true, lt-leb, le-leb, and_right, List, sound_arrays, sound_logs, Meter, scalars_of, with_logs}
use Rattle.page.proofs.Common.{sound_scalars}
use Rattle.page.proofs.Common.{sound_meter}
use mathlib.Core.Bool.{false≢true}
use Rattle.events.specs.Table.{EventRow}
use Rattle.page.specs.Layout.{write_answer, written}
use Rattle.writer.proofs.Stored.{page_left, page_past}
use Rattle.writer.proofs.EveryRecord.{writes_every_record}
use Rattle.writer.proofs.write_sound.Goals as goal
use Rattle.writer.proofs.write_sound.Goals.{Start}

-- the record of the parts
abbrev given : Start → Meter
given c = with_logs c.args.scalars c.args.counts.now c.args.clocks.now c.args.codes.now

logs_sound : (rows : List EventRow) (m : Meter) → sound_meter rows m ≡ true → sound_arrays rows m.logs.counts m.logs.clocks m.logs.codes ≡ true
unfolding sound_meter sound_logs
logs_sound rows m e = and_right (sound_scalars (scalars_of m)) _ e

pub returns-then-out-lt-PAGE_LEN : goal.returns-then-out-lt-PAGE_LEN
unfolding write_answer written
returns-then-out-lt-PAGE_LEN c =
    let l = lt-leb _ _ c.if-out-lt-PAGE_LEN.true in
    record {
      writes_sound = record { answers = rw l; refused = λ e. refl; past = refl; sound = λ rows e. (rw (e, l), rw (e, l)) };
      every_record = writes_every_record;
    }

pub returns : goal.returns
unfolding write_answer written
returns c =
    let room = c.if-out-lt-PAGE_LEN.false in
    let l = le-leb _ _ room in record {
      writes_sound = record {
        answers = rw l;
        refused = λ e. absurd (false≢true (sym e ∙ l));
        past = page_past c.args.out.now c.put_scalars.new.out c.put_logs.new.out c.put_emergency.new.out c.args.scalars
            c.args.scalars.emergency c.put_scalars.ensures c.put_logs.ensures.past c.put_emergency.ensures;
        sound = λ rows e. (
          rw (e, l),
          rw (e, l)
              (page_left c.args.out.now c.put_scalars.new.out c.put_logs.new.out c.put_emergency.new.out (given (goal.at.returns c).Start) _ room refl
              c.put_scalars.ensures (c.put_logs.ensures.area rows (logs_sound rows (given (goal.at.returns c).Start) e)) c.put_emergency.ensures),
        );
      };
      every_record = writes_every_record;
    }
