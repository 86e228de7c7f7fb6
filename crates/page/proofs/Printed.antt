-- The page that document 01 prints of an account is the page of the record that holds the account.
use Rattle.page.proofs.Common.{◌≡◌, refl, ap, ◌∙◌, true, List, [], ◌∷◌, ◌++◌, append_assoc, append-nil, map, map-append, flat_map, ℕ, zero, suc, ◌-◌, ◌*◌}
use Rattle.page.proofs.Common.{◌≤◌, arith, length, replicate, length-append, length-map, length-replicate, every, be, encs, Line, line, EventRow, lawful}
use Rattle.page.proofs.Common.{line_clock, line_code, padded, flat, laid, AllInRange, scalars_of, record_of}
use Rattle.logs.proofs.Kept.{lists_length, lists_short}
use Rattle.logs.proofs.Places.{Short, none, more}
use Rattle.codec.specs.Format.{num}
use Rattle.emergency.specs.Emergency.{padded as padded_ids}
use Rattle.emergency.proofs.Kept.{padded_eight}
use Rattle.calls.specs.declared.Call.{Call}
use Rattle.history.specs.Profile.{ProfileState, no_profile, waiting, active}
use Rattle.history.specs.OnePhase.{Fresh, Account, account}
use Rattle.machine.specs.Sound.{sound_state}
use Rattle.machine.specs.Holding.{emergency_of}
use Rattle.meter.specs.Settings.{Settings}
use Rattle.meter.specs.Holding.{holding}
use Rattle.meter.proofs.Values.{logs_sound}
use Rattle.meter.proofs.Simulates.{account_sound}
use Rattle.page.specs.Layout.{control_area, limiter_area, clock_area, alarms_area, register_area, line_format, log_area, logs_area, areas_of, of_areas, layout}
use Rattle.page.specs.Layout.{directory}
use Rattle.page.specs.Layout.{stored_numbers, emergency_area, page_of}
use Rattle.page.specs.AccountPage.{printed_pairs, fields, field_bytes, log_bytes, group_bytes, emergency_bytes, account_page}
use Rattle.page.proofs.Lines.{encs_append}
use Rattle.page.proofs.Ranges.{groups_most}
use Rattle.page.proofs.Inverse.{of_three, three_back, eight_back}

-- the 32 places of a log
abbrev filled : List Line → List Line
filled xs = xs ++ replicate (32 - length xs) (line 0 0)

-- the area of a log
abbrev area : List Line → ℕ × List Line
area xs = (length xs, filled xs)

length_filled : (xs : List Line) → length xs ≤ 32 → length (filled xs) ≡ 32
length_filled xs h = rw (length-append, length-replicate) (omega arith)

map_zeros : (f : Line → ℕ) → f (line 0 0) ≡ 0 → (k : ℕ) → map f (replicate k (line 0 0)) ≡ replicate k 0
map_zeros f e zero = refl
map_zeros f e (suc k) = rw (e, map_zeros f e k)

column_filled : (f : Line → ℕ) → f (line 0 0) ≡ 0 → (xs : List Line) → padded (map f xs) ≡ map f (filled xs)
unfolding padded
column_filled f e xs = rw (length-map, map-append, map_zeros f e (32 - length xs))

laid_areas : (x y z : List Line) → laid (x ∷ y ∷ z ∷ []) ≡ of_areas (area x ∷ area y ∷ area z ∷ [])
unfolding laid of_areas flat flat_map
laid_areas x y z =
    let clocks = column_filled line_clock refl in
    let codes = column_filled line_code refl in
    rw (clocks x, clocks y, clocks z, codes x, codes y, codes z)

zero_lines : (k : ℕ) → encs line_format (replicate k (line 0 0)) ≡ replicate (k * 5) 0
unfolding flat_map be
zero_lines zero = refl
zero_lines (suc k) =
    let w : suc k * 5 ≡ suc (suc (suc (suc (suc (k * 5))))) = omega arith in
    rw (zero_lines k, w)

log_written : (xs : List Line) → log_area.enc (area xs) ≡ log_bytes xs
unfolding log_bytes
log_written xs = rw (encs_append line_format xs (replicate (32 - length xs) (line 0 0)), zero_lines (32 - length xs))

pub logs_written : (logs : List (List Line)) → length logs ≡ 3 → Short logs → logs_area.enc (laid logs) ≡ flat_map log_bytes logs
unfolding flat_map
logs_written logs t s = of_three (λ l. Short l → logs_area.enc (laid l) ≡ flat_map log_bytes l) three logs t s
  where
    three : (x y z : List Line) → Short (x ∷ y ∷ z ∷ []) → logs_area.enc (laid (x ∷ y ∷ z ∷ [])) ≡ flat_map log_bytes (x ∷ y ∷ z ∷ [])
    three x y z (more i (more j (more k none))) =
        ap (encs log_area) (ap areas_of (laid_areas x y z) ∙ three_back (area x) (area y) (area z) (length_filled x i) (length_filled y j) (length_filled z k))
        ∙ rw (log_written x, log_written y, log_written z)

zero_ids : (k : ℕ) → encs (num 2) (replicate k 0) ≡ replicate (k * 2) 0
unfolding flat_map be
zero_ids zero = refl
zero_ids (suc k) = let w : suc k * 2 ≡ suc (suc (k * 2)) = omega arith in rw (zero_ids k, w)

-- the ninth area
module _ (ids : List ℕ) (most : length ids ≤ 8) where
  groups_written : be 1 (length ids) ++ encs (num 2) (stored_numbers 8 0 (padded_ids ids)) ≡ group_bytes ids
  unfolding padded_ids
  groups_written =
      rw (eight_back (padded_ids ids) (padded_eight ids most), encs_append (num 2) ids (replicate (8 - length ids) 0), zero_ids (8 - length ids))

  emergency_written : (p : ProfileState) → emergency_bytes ids p ≡ emergency_area.enc (emergency_of ids p)
  unfolding emergency_bytes flat_map be
  emergency_written no_profile = rw (← groups_written)
  emergency_written (waiting p) = rw (← groups_written, append-nil)
  emergency_written (active p left) = rw (← groups_written, append-nil)

module _ (a : Account) where
  pairs_written : flat_map (λ (p : ℕ × ℕ). be 2 p.0 ++ be 2 p.1) printed_pairs ≡ directory
  unfolding directory
  pairs_written = refl

  fields_written : (r : List ℕ)
      → field_bytes (fields a) ++ r
      ≡ control_area.enc (holding a).values.control
      ++ (limiter_area.enc (scalars_of (record_of (holding a))).limiter
      ++ (clock_area.enc a.clock
      ++ (alarms_area.enc (holding a).values.alarms
      ++ (register_area.enc (holding a).values.errors ++ r))))
  unfolding flat_map
  fields_written r = simp (append_assoc, append-nil)

  pub account_written : length a.logs ≡ 3 → Short a.logs → length a.groups ≤ 8 → account_page a ≡ page_of (record_of (holding a))
  unfolding account_page layout
  account_written t s most =
      let ninth = emergency_bytes a.groups a.profile in
      rw (
        pairs_written,
        fields_written (flat_map log_bytes a.logs ++ ninth),
        ← logs_written a.logs t s,
        emergency_written a.groups most a.profile,
      )

  sound_written : (rows : List EventRow) → sound_state rows (holding a) ≡ true → account_page a ≡ page_of (record_of (holding a))
  sound_written rows e =
      let logs = logs_sound rows (holding a) refl e in
      account_written (lists_length rows a.logs logs) (lists_short rows a.logs logs) (groups_most rows a e)

-- of the account of every list of calls from accepted settings
pub list_written : (rows : List EventRow) → every lawful rows ≡ true → (f : Fresh) (calls : List Call) → Settings f → AllInRange calls
    → account_page (account rows f calls) ≡ page_of (record_of (holding (account rows f calls)))
list_written rows table f calls t i = sound_written (account rows f calls) rows (account_sound rows table f t calls i)
