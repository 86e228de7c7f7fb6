-- Stores one after the other, in the three-phase meter's page: the pairs are the directory, and directory and areas the page.
use Rattle.page.proofs.Common.{◌≡◌, ◌∙◌, List, ◌++◌, flat_map, ℕ, ◌+◌, ◌≤◌, add_assoc, arith, length, drop, length-append, sets, sets-eq, be, length_be}
use Rattle.page.proofs.Common.{sets_cat}
use Rattle.codec.specs.Format.{◌⊗◌}
use Rattle.page.specs.Layout.{control_area, clock_area, register_area, alarms_area, logs_area, pair_format}
use Rattle.phases_steps.specs.declared.MonitoredValue.{MonitoredValue}
use Rattle.phases_steps.specs.declared.Limiters.{Limiters}
use Rattle.phases_steps.specs.declared.ThreePhaseScalars.{ThreePhaseScalars}
use Rattle.phases_meter.specs.declared.ThreePhaseMeter.{ThreePhaseMeter}
use Rattle.phases_page.specs.Layout.{monitored_area, limiters_area, three_phase_layout, three_phase_directory, three_phase_size, three_phase_page_of}
use Rattle.phases_page.proofs.RoundTrip.{length_directory, page_length_lem}
use Rattle.writer.specs.Put.{PastKept}
use Rattle.writer.specs.ThreePhase.{with_three_phase_scalars}
use Rattle.writer.proofs.Lines.{store_past}

pub three_phase_directory_stored : (o : List ℕ)
    → let put : List ℕ → ℕ → ℕ → ℕ → List ℕ = λ l at offset len. sets l at (pair_format.enc (offset, len)) in
    put (put (put (put (put (put (put (put o 0 32 6) 4 38 44) 8 82 4) 12 86 9) 16 95 8) 20 103 161) 24 264 161) 28 425 161
    ≡ sets o 0 three_phase_directory
unfolding three_phase_directory flat_map
three_phase_directory_stored o = simp (sets_cat, length-append, length_be)

-- ---- the limiter area

length_monitored : (m : MonitoredValue) → length (monitored_area.enc m) ≡ monitored_area.width
length_monitored m = simp (length-append, length_be)

-- two numbers and four values, each of its length
values_put : (o : List ℕ) (at : ℕ) (over under l1 l2 l3 sum : List ℕ) → length over ≡ 4 → length under ≡ 4 → length l1 ≡ 9 → length l2 ≡ 9 → length l3 ≡ 9
    → sets (sets (sets (sets (sets (sets o at over) (at + 4) under) (at + 8) l1) (at + 8 + 9) l2) (at + 8 + 18) l3) (at + 8 + 27) sum
    ≡ sets o at (over ++ (under ++ (l1 ++ (l2 ++ (l3 ++ sum)))))
values_put o at over under l1 l2 l3 sum p q a b c = simp (sets_cat, p, q, a, b, c, add_assoc)

pub limiters_stored : (o : List ℕ) (at : ℕ) (l : Limiters)
    → let first = sets (sets (sets o at (be 4 l.over)) (at + 4) (be 4 l.under)) (at + 8) (monitored_area.enc l.l1) in
    let second = sets (sets first (at + 8 + 9) (monitored_area.enc l.l2)) (at + 8 + 18) (monitored_area.enc l.l3) in
    sets second (at + 8 + 27) (monitored_area.enc l.sum) ≡ sets o at (limiters_area.enc l)
limiters_stored o at l =
    values_put o at (be 4 l.over) (be 4 l.under) (monitored_area.enc l.l1) (monitored_area.enc l.l2) (monitored_area.enc l.l3)
    (monitored_area.enc l.sum) (length_be 4 l.over) (length_be 4 l.under) (length_monitored l.l1) (length_monitored l.l2)
    (length_monitored l.l3)

-- ---- the areas before the logs

length_limiters : (l : Limiters) → length (limiters_area.enc l) ≡ limiters_area.width
length_limiters l = simp (length-append, length_be)

-- a directory and five areas, each of its length
areas_put : (o directory control limiters clock alarms errors : List ℕ) → length directory ≡ 32 → length control ≡ 6 → length limiters ≡ 44
    → length clock ≡ 4 → length alarms ≡ 9
    → sets (sets (sets (sets (sets (sets o 0 directory) 32 control) 38 limiters) 82 clock) 86 alarms) 95 errors
    ≡ sets o 0 (directory ++ (control ++ (limiters ++ (clock ++ (alarms ++ errors)))))
areas_put o directory control limiters clock alarms errors d k l t b = simp (sets_cat, d, k, l, t, b)

pub scalars_stored : (o : List ℕ) (m : ThreePhaseScalars)
    → let s = m.status in
    let first = sets (sets (sets o 0 three_phase_directory) 32 (control_area.enc s.control)) 38 (limiters_area.enc m.limiters) in
    sets (sets (sets first 82 (be 4 s.clock)) 86 (alarms_area.enc s.alarms)) 95 (register_area.enc s.errors) ≡ with_three_phase_scalars o m
scalars_stored o m =
    let s = m.status in
    areas_put o three_phase_directory (control_area.enc s.control) (limiters_area.enc m.limiters) (be 4 s.clock) (alarms_area.enc s.alarms)
    (register_area.enc s.errors) length_directory (simp (length-append, length_be)) (length_limiters m.limiters) (length_be 4 s.clock)
    (simp (length-append, length_be))

-- the areas before the logs, and the logs, as they are stored
page_stored : (o : List ℕ) (m : ThreePhaseMeter) → three_phase_size ≤ length o
    → sets (with_three_phase_scalars o m.scalars) 103 (logs_area.enc m.logs) ≡ three_phase_page_of m ++ drop three_phase_size o
unfolding three_phase_layout
page_stored o m h =
    let n = page_length_lem m in
    let one : sets (with_three_phase_scalars o m.scalars) 103 (logs_area.enc m.logs) ≡ sets o 0 (three_phase_page_of m) =
    simp (sets_cat, length-append, length_be, length_directory) in
    one ∙ sets-eq (three_phase_page_of m) o 0 (rw n (omega arith)) ∙ rw n

-- the same of a buffer by what was stored in it
pub three_phase_page_left : (o first left : List ℕ) (m : ThreePhaseMeter) → three_phase_size ≤ length o → first ≡ with_three_phase_scalars o m.scalars
    → left ≡ sets first 103 (logs_area.enc m.logs) → left ≡ three_phase_page_of m ++ drop three_phase_size o
three_phase_page_left o first left m h put_first put_left = put_left ∙ rw put_first (page_stored o m h)

-- whatever the record, the bytes past the page stay
pub three_phase_page_past : (o first left : List ℕ) (m : ThreePhaseScalars) → first ≡ with_three_phase_scalars o m → PastKept three_phase_size first left
    → PastKept three_phase_size o left
three_phase_page_past o first left m put_first past =
    let s = m.status in
    let before = three_phase_directory
    ++ (control_area ⊗ limiters_area ⊗ clock_area ⊗ alarms_area ⊗ register_area).enc (s.control, (m.limiters, (s.clock, (s.alarms, s.errors)))) in
    let n : length before ≡ 103 = simp (length-append, length_be, length_directory) in
    past ∙ rw put_first (store_past three_phase_size o 0 before (omega arith))
