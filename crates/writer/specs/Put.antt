-- What the writer's functions leave in a buffer.
use Rattle.std.specs.Prelude.{◌≡◌, true, false, cond, List, ◌++◌, ℕ, ◌+◌, ◌≤◌, ◌<◌, leb, length, drop, get_or}
use Rattle.std.proofs.lemmas.List.Edits.{sets}
use Rattle.codec.specs.Format.{◌⊗◌, times}
use Rattle.events.specs.Table.{EventRow}
use Rattle.logs.specs.Arrays.{zero_past, sound_arrays}
use Rattle.logs.specs.declared.Logs.{Logs}
use Rattle.calls.specs.declared.Answer.{Answer}
use Rattle.calls.specs.declared.Answer.TheVariants.{Accepted, Refused}
use Rattle.steps.specs.declared.Scalars.{Scalars}
use Rattle.meter.specs.declared.Meter.{Meter}
use Rattle.meter.specs.Sound.{sound_meter}
use Rattle.page.specs.Layout.{control_area, limiter_area, clock_area, register_area, alarms_area, line_format, log_area, logs_area, stored_lines, directory}
use Rattle.page.specs.Layout.{size, write_answer, written}

-- the n lines that stand in the arrays from a place on
abbrev pub with_lines : ℕ → List ℕ → ℕ → ℕ → List ℕ → List ℕ → List ℕ
with_lines n out at place clocks codes = sets out at ((times n line_format).enc (stored_lines n place clocks codes))

-- the bytes from a place on are as they were
abbrev pub PastKept : ℕ → List ℕ → List ℕ → Type 0
PastKept end out left = drop end left ≡ drop end out

-- what is promised of a log: the bytes past it, and, where its lines past its count are zero, as those of every sound log are, its lines ..
pub record PutLines (place count : ℕ) (clocks codes out : List ℕ) (at : ℕ) (left : List ℕ) : Type 0 where
  pub past : PastKept (at + (times 32 line_format).width) out left
  pub lines : zero_past place count clocks ≡ true → zero_past place count codes ≡ true → left ≡ with_lines 32 out at place clocks codes

-- .. and its area
pub record PutLog (place count : ℕ) (clocks codes out : List ℕ) (at : ℕ) (left : List ℕ) : Type 0 where
  pub past : PastKept (at + log_area.width) out left
  pub area : zero_past place count clocks ≡ true → zero_past place count codes ≡ true
      → left ≡ sets out at (log_area.enc (count, stored_lines 32 place clocks codes))

-- what is promised of logs: the bytes past them, and, where they are sound by some event table, their area
pub record PutSoundLogs (g : Logs) (out : List ℕ) (at : ℕ) (left : List ℕ) : Type 0 where
  pub past : PastKept (at + logs_area.width) out left
  pub area : (rows : List EventRow) → sound_arrays rows g.counts g.clocks g.codes ≡ true → left ≡ sets out at (logs_area.enc g)

-- the directory and the areas before the logs
abbrev pub with_scalars : List ℕ → Scalars → List ℕ
with_scalars out s =
    sets out 0
    (directory
    ++ (control_area ⊗ limiter_area ⊗ clock_area ⊗ alarms_area ⊗ register_area).enc (s.control, (s.limiter, (s.clock, (s.alarms, s.errors)))))

-- what is promised of a record that is not tested: its answer, every byte of a buffer that is too short and the bytes past the page, whatever the record;
-- where it is sound by some event table, the page too
pub record WritesSound (m : Meter) (out : List ℕ) (answer : Answer) (left : List ℕ) : Type 0 where
  -- 'writer | 8 | buffer under 558 bytes', now the page's length
  pub answers : answer ≡ cond (leb size (length out)) Accepted (Refused 8)
  pub refused : leb size (length out) ≡ false → left ≡ out
  -- 'The writer leaves bytes past 558', now past the page's length
  pub past : PastKept size out left
  pub sound : (rows : List EventRow) → sound_meter rows m ≡ true → (answer ≡ write_answer rows m out) × (left ≡ written rows m out)

-- what such a promise comes to for every record, sound or not, by the length of the page
pub record OfEveryRecord (page_length : ℕ) (promised : List ℕ → Answer → List ℕ → Type 0) : Type 0 where
  -- 'writer | 8 | buffer under 558 bytes', now the page's length: a refusal is this one, given under its condition only, and the buffer keeps its bytes
  pub refused_short : (out left : List ℕ) (n : ℕ) → promised out (Refused n) left → (n ≡ 8) × ((length out < page_length) × (left ≡ out))
  pub accepted_room : (out left : List ℕ) → promised out Accepted left → page_length ≤ length out
  -- 'The writer leaves bytes past 558', now past the page's length
  pub past_kept : (out left : List ℕ) (answer : Answer) → promised out answer left → (i : ℕ) → page_length ≤ i → get_or left i 0 ≡ get_or out i 0

-- of `write_sound`
abbrev pub WritesEveryRecord : Type 0
WritesEveryRecord = (m : Meter) → OfEveryRecord 599 (WritesSound m)
