-- The page of an account of the three-phase meter, as the documents print it: document 01's section 'The page', '.. big-endian', with the byte of document
-- 02, A6, and the limiter area of its A13. Nothing here speaks of the record that the code keeps, or of how the code writes it.
use Rattle.std.specs.Prelude.{cond, ℕ, nat_abs}
use mathlib.Core.List.{List, [], ◌∷◌, ◌++◌, flat_map}
use Rattle.codec.specs.BigEndian.{be}
use Rattle.history.specs.Account.{MonitoredValue}
use Rattle.phases.specs.ThreePhase.{ThreePhaseAccount}
use Rattle.page.specs.AccountPage.{field_bytes, log_bytes}

-- 'First eight pairs of offset and length (16 bits each), sorted by offset ..': those of document 01 with the limiter area of '44 bytes' (A13) and the
-- alarms area of nine (A6)
abbrev pub three_phase_printed_pairs : List (ℕ × ℕ)
three_phase_printed_pairs = (32, 6) ∷ (38, 44) ∷ (82, 4) ∷ (86, 9) ∷ (95, 8) ∷ (103, 161) ∷ (264, 161) ∷ (425, 161) ∷ []

-- '.. threshold, Exceeded and Run per line ..', each with its bytes. (The threshold is not negative.)
abbrev pub monitored_fields : MonitoredValue → List (ℕ × ℕ)
monitored_fields m = (nat_abs m.threshold, 4) ∷ (cond m.exceeded 1 0, 1) ∷ (m.run, 4) ∷ []

-- 'Areas: mode 1 byte, switch 1, openings 4; .. clock; alarms and their filter; errors and theirs'; document 02, A13: 'The limiter area is Over, Under, then
-- threshold, Exceeded and Run per line ..', the lines being '.. each phase and their exact sum, four lines in that order ..'; A6: how many alarms stand,
-- 'one byte at the end of the alarms area'
abbrev pub three_phase_fields : ThreePhaseAccount → List (ℕ × ℕ)
three_phase_fields a =
    (a.mode, 1) ∷ (a.switch, 1) ∷ (a.openings, 4)
    ∷ (a.over, 4) ∷ (a.under, 4)
    ∷ (monitored_fields a.l1 ++ (monitored_fields a.l2 ++ (monitored_fields a.l3 ++ (monitored_fields a.sum ++ (
    (a.clock, 4)
    ∷ (a.alarms, 4) ∷ (a.alarm_filter, 4) ∷ (a.alarm_count, 1)
    ∷ (a.errors, 4) ∷ (a.error_filter, 4)
    ∷ [])))))

-- '.. in a page of 586'
abbrev pub three_phase_page_length : ℕ
three_phase_page_length = 586

-- the page: pairs, fields and logs; '.. A3's profile and area aren't offered here ..'
unfoldable pub three_phase_account_page : ThreePhaseAccount → List ℕ
three_phase_account_page a =
    flat_map (λ p. be 2 p.0 ++ be 2 p.1) three_phase_printed_pairs ++ (field_bytes (three_phase_fields a) ++ flat_map log_bytes a.logs)
