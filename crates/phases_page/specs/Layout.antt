-- The page of the three-phase meter (document 02, A13): 'The limiter area is Over, Under, then threshold, Exceeded and Run per line, 44 bytes, in a page of
-- 586.' Its other areas, and the format of its pairs, are those of document 01's page, with the byte of A6.
use Rattle.std.specs.Prelude.{Bool, ◌&&◌, cond, List, [], ◌∷◌, ◌++◌, ℕ, ◌+◌, ◌*◌, length, drop, eqb, leb, ℤ}
use Rattle.codec.specs.Format.{Format, num, flag, natural, ◌⊗◌, times, via}
use Rattle.registers.specs.declared.Register.{Register}
use Rattle.registers.specs.declared.Alarms.{Alarms}
use Rattle.events.specs.Table.{EventRow}
use Rattle.control.specs.declared.Control.{Control}
use Rattle.limiter.specs.Limiter.{is_threshold}
use Rattle.logs.specs.declared.Logs.{Logs}
use Rattle.calls.specs.declared.Answer.{Answer}
use Rattle.calls.specs.declared.Answer.TheVariants.{Accepted, Refused}
use Rattle.calls.specs.declared.Letter.TheVariants.{None}
use Rattle.page.specs.Layout.{control_area, clock_area, register_area, alarms_area, log_area, logs_area, pair_format, pairs_from, same_pairs}
use Rattle.phases_steps.specs.declared.MonitoredValue.{MonitoredValue}
use Rattle.phases_steps.specs.declared.Limiters.{Limiters}
use Rattle.phases_meter.specs.declared.ThreePhaseMeter.{ThreePhaseMeter}
use Rattle.phases_meter.specs.declared.ThreePhaseOutcome.{ThreePhaseOutcome}
use Rattle.phases_meter.specs.State.{sound_three_phase_meter}
use Rattle.phases_meter.specs.Fresh.{three_phase_refused_outcome}

-- ---- the limiter area

-- a monitored value by its fields
abbrev pub value_fields : MonitoredValue → ℤ × (Bool × ℕ)
value_fields m = (m.threshold, (m.exceeded, m.run))

-- the monitored value of these fields
abbrev pub of_value_fields : ℤ × (Bool × ℕ) → MonitoredValue
of_value_fields p = record { threshold = p.0; exceeded = p.1.0; run = p.1.1 }

-- '.. threshold, Exceeded and Run per line ..', of as many bytes as document 01 gives each: 'threshold 4', 'Exceeded 1 (0 or 1), Run 4'
abbrev pub monitored_area : Format MonitoredValue
monitored_area = via (natural 4 ⊗ flag ⊗ num 4) value_fields of_value_fields

-- the fields of the limiters, in order
abbrev pub LimitersFields : Type 0
LimitersFields = ℕ × (ℕ × (MonitoredValue × (MonitoredValue × (MonitoredValue × MonitoredValue))))

-- the limiters by their fields
abbrev pub limiters_fields : Limiters → LimitersFields
limiters_fields l = (l.over, (l.under, (l.l1, (l.l2, (l.l3, l.sum)))))

-- the limiters of these fields
abbrev pub of_limiters_fields : LimitersFields → Limiters
of_limiters_fields p =
    record { over = p.0; under = p.1.0; l1 = p.1.1.0; l2 = p.1.1.1.0; l3 = p.1.1.1.1.0; sum = p.1.1.1.1.1 }

-- 'The limiter area is Over, Under, then threshold, Exceeded and Run per line ..': '.. each phase and their exact sum, four lines in that order ..'; of
-- document 01's bytes, 'Over 4, Under 4'
abbrev pub limiters_area : Format Limiters
limiters_area =
    via (num 4 ⊗ num 4 ⊗ monitored_area ⊗ monitored_area ⊗ monitored_area ⊗ monitored_area) limiters_fields of_limiters_fields

-- ---- the record

-- the values of the areas, in order
abbrev pub ThreePhaseAreas : Type 0
ThreePhaseAreas = Control × (Limiters × (ℕ × (Alarms × (Register × Logs))))

-- the areas, in order: '.. A3's profile and area aren't offered here ..'
abbrev pub three_phase_areas : Format ThreePhaseAreas
three_phase_areas = control_area ⊗ limiters_area ⊗ clock_area ⊗ alarms_area ⊗ register_area ⊗ logs_area

-- the record by its areas
abbrev pub three_phase_meter_areas : ThreePhaseMeter → ThreePhaseAreas
three_phase_meter_areas m =
    let s = m.scalars.status in
    (s.control, (m.scalars.limiters, (s.clock, (s.alarms, (s.errors, m.logs)))))

-- the record of these areas
abbrev pub of_three_phase_meter_areas : ThreePhaseAreas → ThreePhaseMeter
of_three_phase_meter_areas p =
    record {
      scalars =
          record {
            status = record { control = p.0; clock = p.1.1.0; alarms = p.1.1.1.0; errors = p.1.1.1.1.0 };
            limiters = p.1.0;
          };
      logs = p.1.1.1.1.1;
    }

-- the record in its areas
unfoldable pub three_phase_layout : Format ThreePhaseMeter
three_phase_layout = via three_phase_areas three_phase_meter_areas of_three_phase_meter_areas

-- ---- the pairs

-- the width of each area, each log an area of its own
abbrev pub three_phase_widths : List ℕ
three_phase_widths =
    control_area.width
    ∷ limiters_area.width
    ∷ clock_area.width
    ∷ alarms_area.width
    ∷ register_area.width
    ∷ log_area.width
    ∷ log_area.width
    ∷ log_area.width
    ∷ []

-- where the areas begin: behind a pair for each
abbrev pub three_phase_start : ℕ
three_phase_start = length three_phase_widths * pair_format.width

-- 'First eight pairs of offset and length (16 bits each), sorted by offset ..', one for each area
abbrev pub three_phase_pairs : List (ℕ × ℕ)
three_phase_pairs = pairs_from three_phase_start three_phase_widths

-- the format of the pairs
abbrev pub three_phase_pairs_format : Format (List (ℕ × ℕ))
three_phase_pairs_format = times (length three_phase_widths) pair_format

-- the bytes of the pairs
unfoldable pub three_phase_directory : List ℕ
three_phase_directory = three_phase_pairs_format.enc three_phase_pairs

-- ---- the page

-- '.. in a page of 586'
abbrev pub three_phase_size : ℕ
three_phase_size = three_phase_start + three_phase_areas.width

-- the page of a record
abbrev pub three_phase_page_of : ThreePhaseMeter → List ℕ
three_phase_page_of m = three_phase_directory ++ three_phase_layout.enc m

-- ---- the writer, by the event table that says which codes a log may hold

-- 'record | 12 | not sound; every call and the writer', then 'writer | 8 | buffer under 558 bytes', which is here this page's length
unfoldable pub three_phase_write_answer : List EventRow → ThreePhaseMeter → List ℕ → Answer
three_phase_write_answer rows m out =
    cond (sound_three_phase_meter rows m) (cond (leb three_phase_size (length out)) Accepted (Refused 8)) (Refused 12)

-- 'The writer leaves bytes past 558', here past this page's length; a refusal leaves every byte
unfoldable pub three_phase_written : List EventRow → ThreePhaseMeter → List ℕ → List ℕ
three_phase_written rows m out =
    cond (sound_three_phase_meter rows m) (cond (leb three_phase_size (length out)) (three_phase_page_of m ++ drop three_phase_size out) out) out

-- ---- the reader, by the same table

-- an accepted reader returns the record
abbrev pub three_phase_accepted_outcome : ThreePhaseMeter → ThreePhaseOutcome
three_phase_accepted_outcome m = record { meter = m; answer = Accepted; letter = None }

-- 'reader | 10 | a pair differs': the pairs of some bytes are those of the page
unfoldable pub three_phase_has_pairs : List ℕ → Bool
three_phase_has_pairs s = same_pairs (three_phase_pairs_format.dec s 0) three_phase_pairs

-- the record in some bytes
abbrev pub three_phase_meter_in : List ℕ → ThreePhaseMeter
three_phase_meter_in s = three_phase_layout.dec s three_phase_start

-- each threshold is one that its field can hold
abbrev pub are_thresholds : Limiters → Bool
are_thresholds l =
    is_threshold l.l1.threshold && (is_threshold l.l2.threshold && (is_threshold l.l3.threshold && is_threshold l.sum.threshold))

-- the bytes are those of a record, sound or not: each Exceeded is 0 or 1, and each threshold is one that its field can hold
abbrev pub three_phase_is_record : List ℕ → Bool
three_phase_is_record s = three_phase_layout.valid s three_phase_start && are_thresholds (three_phase_meter_in s).scalars.limiters

-- 'reader | 11 | the record would not be sound, or Exceeded above 1': what passes. (A threshold whose top bit is set reads as a number above
-- 2,147,483,647, which is not sound.)
unfoldable pub three_phase_holds_sound : List EventRow → List ℕ → Bool
three_phase_holds_sound rows s = three_phase_layout.valid s three_phase_start && sound_three_phase_meter rows (three_phase_meter_in s)

-- 'reader | 9 | length not 558', here not this page's, then 10, then 11
unfoldable pub three_phase_read_of : List EventRow → List ℕ → ThreePhaseOutcome
three_phase_read_of rows s =
    cond (eqb (length s) three_phase_size)
    (cond (three_phase_has_pairs s)
    (cond (three_phase_holds_sound rows s) (three_phase_accepted_outcome (three_phase_meter_in s)) (three_phase_refused_outcome 11))
    (three_phase_refused_outcome 10))
    (three_phase_refused_outcome 9)
