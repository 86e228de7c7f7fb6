-- What the functions that write the three-phase meter's page leave in a buffer.
use Rattle.std.specs.Prelude.{◌≡◌, true, false, cond, List, ◌++◌, ℕ, leb, length}
use Rattle.std.proofs.lemmas.List.Edits.{sets}
use Rattle.codec.specs.Format.{◌⊗◌}
use Rattle.events.specs.Table.{EventRow}
use Rattle.calls.specs.declared.Answer.{Answer}
use Rattle.calls.specs.declared.Answer.TheVariants.{Accepted, Refused}
use Rattle.page.specs.Layout.{control_area, clock_area, register_area, alarms_area}
use Rattle.phases_steps.specs.declared.ThreePhaseScalars.{ThreePhaseScalars}
use Rattle.phases_meter.specs.declared.ThreePhaseMeter.{ThreePhaseMeter}
use Rattle.phases_meter.specs.State.{sound_three_phase_meter}
use Rattle.phases_page.specs.Layout.{limiters_area, three_phase_directory, three_phase_size, three_phase_write_answer, three_phase_written}
use Rattle.writer.specs.Put.{PastKept, OfEveryRecord}

-- the directory and the areas before the logs
abbrev pub with_three_phase_scalars : List ℕ → ThreePhaseScalars → List ℕ
with_three_phase_scalars out m =
    let s = m.status in
    sets out 0
    (three_phase_directory
    ++ (control_area ⊗ limiters_area ⊗ clock_area ⊗ alarms_area ⊗ register_area).enc (s.control, (m.limiters, (s.clock, (s.alarms, s.errors)))))

-- what is promised of a record that is not tested: its answer, every byte of a buffer that is too short and the bytes past the page, whatever the record;
-- where it is sound by some event table, the page too
pub record ThreePhaseWritesSound (m : ThreePhaseMeter) (out : List ℕ) (answer : Answer) (left : List ℕ) : Type 0 where
  -- 'writer | 8 | buffer under 558 bytes', here '.. a page of 586'
  pub answers : answer ≡ cond (leb three_phase_size (length out)) Accepted (Refused 8)
  pub refused : leb three_phase_size (length out) ≡ false → left ≡ out
  -- 'The writer leaves bytes past 558'
  pub past : PastKept three_phase_size out left
  pub sound : (rows : List EventRow) → sound_three_phase_meter rows m ≡ true
      → (answer ≡ three_phase_write_answer rows m out) × (left ≡ three_phase_written rows m out)

-- of `write_three_phase_sound`
abbrev pub ThreePhaseWritesEveryRecord : Type 0
ThreePhaseWritesEveryRecord = (m : ThreePhaseMeter) → OfEveryRecord 586 (ThreePhaseWritesSound m)
