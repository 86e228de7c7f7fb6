-- The numbers of an account are values of their types: those that are held at 32 bits, and those that calls bring.
use Rattle.page.proofs.Common.{◌≡◌, refl, ap, ◌∙◌, Bool, true, false, cond, List, [], ◌∷◌, ◌++◌, map, reverse, ℕ, zero, suc, ◌-◌, ◌<◌, ◌≤◌, ◌^◌, arith}
use Rattle.page.proofs.Common.{leb, ltb, length, get_or, replicate, leb-true, ltb-true, every, and_left, and_right, every_first, every_rest, pow_pos, Line}
use Rattle.page.proofs.Common.{EventRow, lawful, line_clock, line_code, padded, flat, laid, Word, AllInRange, record_of}
use mathlib.Core.Option.{Option, none, some}
use Rattle.base.proofs.Bits.{number_lt}
use Rattle.emergency.specs.Emergency.{padded as padded_ids}
use Rattle.emergency.proofs.Kept.{groups_part, padded_eight}
use Rattle.logs.specs.Lists.{sound_lists}
use Rattle.logs.proofs.Places.{Short, none as no_log, more as more_logs}
use Rattle.logs.proofs.Kept.{lists_short}
use Rattle.calls.specs.declared.Call.{Call}
use Rattle.history.specs.Effects.{AnyFresh, WhichRegister, alarms, errors, Profile}
use Rattle.history.specs.Last.{History}
use Rattle.history.specs.Registers.{stands, bits_of}
use Rattle.history.specs.Logs.{log_of}
use Rattle.history.specs.Profile.{ProfileState, no_profile, waiting, active, groups_of, profile_of, clocks_since, governed, state_by, state_at, profile_state}
use Rattle.history.specs.Account.{accepted_calls}
use Rattle.history.specs.OnePhase.{Fresh, Account, as_fresh, as_call, account}
use Rattle.machine.specs.Values.{State}
use Rattle.machine.specs.Sound.{sound_values, sound_state}
use Rattle.machine.specs.Holding.{emergency_of}
use Rattle.machine.specs.Ranges.{is_id}
use Rattle.machine.proofs.Effects.{AllProper}
use Rattle.machine.proofs.Preserved.{emergency_sound}
use Rattle.machine.proofs.Ranges.{filter_word, Kept, profile_range, groups_range}
use Rattle.machine.proofs.Fits.{fits, log_fits}
use Rattle.machine.proofs.Simulates.{all_proper}
use Rattle.meter.specs.Settings.{Settings}
use Rattle.meter.proofs.Ranges.{settings, calls_range}
use Rattle.meter.specs.Holding.{holding}
use Rattle.meter.proofs.Values.{logs_sound, record_sized}
use Rattle.meter.proofs.Simulates.{account_sound}
use Rattle.page.specs.Laws.{Typed}

-- ---- the arrays that hold lists whose lines fit
module _ (w : ℕ) where
  -- each number of the list fits w bytes
  abbrev pub Fit : List ℕ → Type 0
  Fit xs = (i : ℕ) → get_or xs i 0 < 256 ^ w

  fit_append : (xs ys : List ℕ) → Fit xs → Fit ys → Fit (xs ++ ys)
  fit_append [] ys a b i = b i
  fit_append (x ∷ xs) ys a b zero = a zero
  fit_append (x ∷ xs) ys a b (suc i) = fit_append xs ys (λ j. a (suc j)) b i

  fit_zeros : (k : ℕ) → Fit (replicate k 0)
  fit_zeros zero i = pow_pos w
  fit_zeros (suc k) zero = pow_pos w
  fit_zeros (suc k) (suc i) = fit_zeros k i

  module _ (column : Line → ℕ) (fit : (x : Line) → fits x ≡ true → column x < 256 ^ w) where
    fit_column : (xs : List Line) → every fits xs ≡ true → Fit (map column xs)
    fit_column [] h i = pow_pos w
    fit_column (x ∷ xs) h zero = fit x (every_first fits x xs h)
    fit_column (x ∷ xs) h (suc i) = fit_column xs (every_rest fits x xs h) i

    fit_flat : (logs : List (List Line)) → every (every fits) logs ≡ true → Fit (flat (map (map column) logs))
    unfolding flat padded
    fit_flat [] h i = pow_pos w
    fit_flat (xs ∷ logs) h i =
        fit_append (padded (map column xs)) (flat (map (map column) logs))
        (fit_append (map column xs) (replicate (32 - length (map column xs)) 0)
        (fit_column xs (every_first (every fits) xs logs h)) (fit_zeros (32 - length (map column xs))))
        (fit_flat logs (every_rest (every fits) xs logs h)) i

pub counts_fit : {logs : List (List Line)} → Short logs → Fit 1 (map length logs)
counts_fit no_log i = pow_pos 1
counts_fit (more_logs k s) zero = omega arith
counts_fit (more_logs k s) (suc i) = counts_fit s i

clock_fits : (x : Line) → fits x ≡ true → x.clock < 256 ^ 4
clock_fits x e = omega (arith, leb-true x.clock 4294967295 (and_left (leb x.clock 4294967295) (ltb x.code 256) e))

code_fits : (x : Line) → fits x ≡ true → x.code < 256 ^ 1
code_fits x e = omega (arith, ltb-true x.code 256 (and_right (leb x.clock 4294967295) (ltb x.code 256) e))

-- the arrays of logs whose lines fit
module _ (logs : List (List Line)) (h : every (every fits) logs ≡ true) where
  pub clocks_fit : (i : ℕ) → Word (get_or (laid logs).clocks i 0)
  unfolding laid
  clocks_fit i = omega (arith, fit_flat 4 line_clock clock_fits logs h i)

  pub codes_fit : (i : ℕ) → get_or (laid logs).codes i 0 < 256
  unfolding laid
  codes_fit i = omega (arith, fit_flat 1 line_code code_fits logs h i)

-- ---- the numbers of a history
pub bits_word : (s : WhichRegister) (h : History) → Word (bits_of s h)
bits_word s h = omega (arith, number_lt 32 (λ b. stands s b h))

pub lines_fit : (g : AnyFresh) (h : History) → AllProper g h → every (every fits) (map (λ n. log_of g n h) (1 ∷ 2 ∷ 3 ∷ [])) ≡ true
unfolding every
lines_fit g h proper = rw (log_fits g 1 h proper, log_fits g 2 h proper, log_fits g 3 h proper)

-- ---- the fields that hold groups and a profile

-- the ids' count, whatever the profile
count_held : (ids : List ℕ) (p : ProfileState) → (emergency_of ids p).count ≡ length ids
count_held ids no_profile = refl
count_held ids (waiting w) = refl
count_held ids (active w left) = refl

-- groups of sound values are at most eight
pub groups_most : (rows : List EventRow) (a : Account) → sound_state rows (holding a) ≡ true → length a.groups ≤ 8
unfolding sound_state
groups_most rows a e =
    let v = (holding a).values in
    let groups = groups_part v.emergency (emergency_sound v (and_left (sound_values v) (sound_lists rows a.logs) e)) in
    omega (arith, leb-true v.emergency.count 8 (and_left (leb v.emergency.count 8) _ groups), count_held a.groups a.profile)

-- the ids, whatever the profile
ids_held : (ids : List ℕ) (p : ProfileState) → (emergency_of ids p).ids ≡ padded_ids ids
ids_held ids no_profile = refl
ids_held ids (waiting w) = refl
ids_held ids (active w left) = refl

fit_ids : (ids : List ℕ) → every is_id ids ≡ true → Fit 2 ids
fit_ids [] h i = pow_pos 2
fit_ids (x ∷ ids) h zero = omega (arith, ltb-true x 65536 (every_first is_id x ids h))
fit_ids (x ∷ ids) h (suc i) = fit_ids ids (every_rest is_id x ids h) i

fit_padded : (ids : List ℕ) → every is_id ids ≡ true → Fit 2 (padded_ids ids)
unfolding padded_ids
fit_padded ids h = fit_append 2 ids (replicate (8 - length ids) 0) (fit_ids ids h) (fit_zeros 2 (8 - length ids))

-- id and activation of a profile that was set in range, while it stands
module _ (ids : List ℕ) where
  -- they fit their bytes
  abbrev Typable : ProfileState → Type 0
  Typable p = ((emergency_of ids p).id < 65536) × Word (emergency_of ids p).activation

  profile_typable : (o : Option Profile) (clocks : List ℕ) → Kept o → Typable (state_at o clocks)
  profile_typable none clocks k = (omega arith, omega arith)
  profile_typable (some w) clocks (least, (id, activation)) = by_count (length (governed w clocks))
    where
      numbers : Typable (waiting w)
      numbers = (ltb-true w.id 65536 id, activation)

      unless_gone : (left : ℕ) (b : Bool) → Typable (cond b (active w left) no_profile)
      unless_gone left true = numbers
      unless_gone left false = (omega arith, omega arith)

      by_count : (n : ℕ) → Typable (state_by w n)
      by_count zero = numbers
      by_count (suc n) = unless_gone (w.duration - suc n) (ltb (suc n) w.duration)

-- ---- the account of a list of calls
module _ (rows : List EventRow) (table : every lawful rows ≡ true) (f : Fresh) (t : Settings f) (cs : List Call) (r : AllInRange cs) where
  abbrev g : AnyFresh
  g = as_fresh f

  abbrev h : History
  h = accepted_calls rows g (reverse (map as_call cs))

  abbrev v : State
  v = holding (account rows f cs)

  sound : sound_state rows v ≡ true
  sound = account_sound rows table f t cs r

  proper : AllProper g h
  proper = all_proper rows table g (settings f t) (reverse (map as_call cs)) (calls_range cs r)

  typable : Typable (groups_of h) (profile_state g h)
  typable = profile_typable (groups_of h) (profile_of h) (clocks_since g h) (profile_range g h proper)

  held : v.values.emergency.ids ≡ padded_ids (groups_of h)
  held = ids_held (groups_of h) (profile_state g h)

  pub account_typed : Typed (record_of v)
  unfolding laid
  account_typed =
      record {
        openings = omega arith;
        clock = omega arith;
        alarms = bits_word alarms h;
        alarm_filter = filter_word alarms g h proper;
        errors = bits_word errors h;
        error_filter = filter_word errors g h proper;
        logs = record_sized rows v refl sound;
        counts = counts_fit (lists_short rows v.logs (logs_sound rows v refl sound));
        clocks = clocks_fit v.logs (lines_fit g h proper);
        codes = codes_fit v.logs (lines_fit g h proper);
        id = typable.0;
        activation = typable.1;
        eight = ap length held ∙ padded_eight (groups_of h) (groups_most rows (account rows f cs) sound);
        ids = λ i. rw held (omega (arith, fit_padded (groups_of h) (groups_range g h proper) i));
      }
