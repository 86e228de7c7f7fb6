-- The page of an account, as document 01's section 'The page' prints it, '558 bytes, big-endian', with the ninth area of document 02, A3, and
-- the byte of its A6. Nothing here speaks of the record that the code keeps, or of how the code writes it.
use Rattle.std.specs.Prelude.{cond, ℕ, ◌-◌, ◌*◌, nat_abs, length, replicate}
use mathlib.Core.List.{List, [], ◌∷◌, ◌++◌, flat_map}
use Rattle.codec.specs.BigEndian.{be}
use Rattle.events.specs.Line.{Line}
use Rattle.history.specs.Effects.{Profile}
use Rattle.history.specs.Profile.{ProfileState, no_profile, waiting, active}
use Rattle.history.specs.OnePhase.{Account}

-- 'First eight pairs of offset and length (16 bits each), sorted by offset: (32,6) (38,17) (55,4) (59,8) (67,8) (75,161) (236,161) (397,161).' Document
-- 02, A3: 'A ninth area of 36 bytes, behind the logs and last in the directory, makes the page 598, its pair included, so every earlier offset grows
-- by 4'; A6: 'one byte at the end of the alarms area'
abbrev pub printed_pairs : List (ℕ × ℕ)
printed_pairs = (36, 6) ∷ (42, 17) ∷ (59, 4) ∷ (63, 9) ∷ (72, 8) ∷ (80, 161) ∷ (241, 161) ∷ (402, 161) ∷ (563, 36) ∷ []

-- 'Areas: mode 1 byte, switch 1, openings 4; threshold 4, Over 4, Under 4, Exceeded 1 (0 or 1), Run 4; clock; alarms and their filter; errors and
-- theirs': each with its bytes. (The threshold is not negative.) Document 02, A6: how many alarms stand, 'one byte at the end of
-- the alarms area'
abbrev pub fields : Account → List (ℕ × ℕ)
fields a =
    (a.mode, 1) ∷ (a.switch, 1) ∷ (a.openings, 4)
    ∷ (nat_abs a.threshold, 4) ∷ (a.over, 4) ∷ (a.under, 4) ∷ (cond a.exceeded 1 0, 1) ∷ (a.run, 4)
    ∷ (a.clock, 4)
    ∷ (a.alarms, 4) ∷ (a.alarm_filter, 4) ∷ (a.alarm_count, 1)
    ∷ (a.errors, 4) ∷ (a.error_filter, 4)
    ∷ []

-- such fields, one after the other
abbrev pub field_bytes : List (ℕ × ℕ) → List ℕ
field_bytes = flat_map (λ f. be f.1 f.0)

-- 'lines of clock 4, code 1'
abbrev pub log_line_bytes : Line → List ℕ
log_line_bytes l = be 4 l.clock ++ be 1 l.code

-- 'the logs, each a count byte and 32 lines', zero 'where the account has nothing to put'
unfoldable pub log_bytes : List Line → List ℕ
log_bytes ls = be 1 (length ls) ++ (flat_map log_line_bytes ls ++ replicate ((32 - length ls) * 5) 0)

-- document 02, A3: 'id 2, threshold 4, activation 4, duration 4, samples left 4, state 1 (0 none, 1 waiting, 2 active)'
abbrev pub profile_fields : Profile → ℕ → ℕ → List (ℕ × ℕ)
profile_fields p left state =
    (p.id, 2) ∷ (nat_abs p.threshold, 4) ∷ (p.activation, 4) ∷ (p.duration, 4) ∷ (left, 4) ∷ (state, 1) ∷ []

-- zeros where there is no profile; 'samples left equals the duration while waiting'
abbrev pub profile_bytes : ProfileState → List ℕ
profile_bytes no_profile = replicate 19 0
profile_bytes (waiting p) = field_bytes (profile_fields p p.duration 1)
profile_bytes (active p left) = field_bytes (profile_fields p left 2)

-- 'count 1, ids 16', the ids of '16 bits' each; 'ids past the count are zero'
abbrev pub group_bytes : List ℕ → List ℕ
group_bytes ids = be 1 (length ids) ++ (flat_map (be 2) ids ++ replicate ((8 - length ids) * 2) 0)

-- the ninth area: profile and groups
unfoldable pub emergency_bytes : List ℕ → ProfileState → List ℕ
emergency_bytes ids profile = profile_bytes profile ++ group_bytes ids

-- document 02, A6: 'the page becomes 599 bytes'
abbrev pub page_length : ℕ
page_length = 599

-- the page: pairs, fields, logs, and the ninth area
unfoldable pub account_page : Account → List ℕ
account_page a =
    flat_map (λ p. be 2 p.0 ++ be 2 p.1) printed_pairs
    ++ (field_bytes (fields a)
    ++ (flat_map log_bytes a.logs
    ++ emergency_bytes a.groups a.profile))
