-- What holds of the account: its parts that speak of a last or latest call are the sentences of document 01, as splits of the history; what each call
-- sets, raises, clears, decides, owes and is refused for is said by the call rules, with the numbers of the documents.
-- Lists of calls are the newest first.
use Rattle.std.specs.Prelude.{ℕ, suc, ◌+◌, ◌≤◌, ◌<◌, min, ◌≡◌, Bool, true, false, not, ◌&&◌, cond, List, [], ◌∷◌, ◌++◌, ◌↔◌, ◌≢◌, ◌⊎◌, eqb, ℤ, pos, length, take}
use Rattle.std.proofs.Math.Option.{Option, none, some}
use Rattle.std.specs.Int.Signed.{le_z, lt_z}
use Rattle.base.specs.Bits.{bit, bit_count}
use Rattle.base.specs.Tests.{among, any, every, eq_z, gathered}
use Rattle.events.specs.Line.{Line, line}
use Rattle.events.specs.Table.{EventRow, lookup}
use Rattle.calls.specs.declared.Letter.{Letter}
use Rattle.calls.specs.declared.Letter.TheVariants.{None}
use Rattle.history.specs.Effects.{AnyFresh, AnyCall, remote_disconnect, remote_reconnect, manual_disconnect, manual_reconnect, WhichRegister, alarms}
use Rattle.history.specs.Effects.{errors, Effect, sampled, requested, mode_set, limits_set, clock_set, occurred, filter_set, bits_cleared, log_cleared}
use Rattle.history.specs.Effects.{groups_set, profile_set, Profile, sample, request, set_mode, set_limiter, set_clock, event, set_filter, clear_bits, clear_log}
use Rattle.history.specs.Effects.{script, set_groups, set_profile, accepted, refused}
use Rattle.history.specs.Effects.{reading}
use Rattle.history.specs.Last.{History, given, mode_in, mode_of, Limits, limits, limits_in, limits_of, threshold_of, number_at, filter_in, filter_of, clock_of}
use Rattle.history.specs.Profile.{groups_in, groups_of, profile_in, profile_of, ProfileState, no_profile, waiting, active}
use Rattle.history.specs.Profile.{profile_state, threshold_in_force, threshold_at}
use Rattle.history.specs.Limiter.{Observation, setting, judged, stretch_ends, exceeded, run, fires_over, fires_under, monitored_values}
use Rattle.history.specs.Switch.{spell, setting_of, change_seen, observations, decides, switch_of, exceeded_of, run_of}
use Rattle.history.specs.Registers.{raises, clears, stands, bits_of, alarm_count_of}
use Rattle.history.specs.Logs.{when, moves, local_code, firing_lines, owed_by, owed}
use Rattle.history.specs.Splits.{LatestElse, Ongoing, ClockSince, InSpell, OwedSince, opening_prefixes, SeenSince, InForce, FullStretch}
use Rattle.history.specs.Splits.{stretch_at, Trailing, NoneSet, Waits, Begun, InState}
use Rattle.history.specs.Account.{accepted_calls, opens, openings, account_of, account_after}
use Rattle.history.specs.Letters.{letter_of, letter_after, AnswersLetter}

-- 'Openings: prefixes with switch 1 whose next call gives another ..', counted over accepted calls
unfoldable pub openings_of : AnyFresh → History → ℕ
openings_of f [] = 0
openings_of f (e ∷ h) = cond (opens (switch_of f h) (switch_of f (e ∷ h))) (suc (openings_of f h)) (openings_of f h)

-- 'A sample that changes Exceeded is a firing, over ..', of the first monitored value
abbrev pub over_firing : AnyFresh → List ℤ → History → Bool
over_firing f ps h = fires_over (observations f 0 h) (observations f 0 (sampled ps ∷ h))

-- '.. or under'
abbrev pub under_firing : AnyFresh → List ℤ → History → Bool
under_firing f ps h = fires_under (observations f 0 h) (observations f 0 (sampled ps ∷ h))

-- a line that bears 'the clock after the call'
abbrev pub line_after : AnyFresh → List ℤ → History → ℕ → Line
line_after f ps h c = line (clock_of f (sampled ps ∷ h)) c

-- the profile last set governs one sample at least
abbrev pub Governs : History → Type 0
Governs h = (w : Profile) → profile_of h ≡ some w → 1 ≤ w.duration

-- document 02, A13, whose 'line' is a monitored value: '.. if a line fired over ..': there is one that the sample makes exceeded
pub record FiredOver (f : AnyFresh) (ps : List ℤ) (h : History) : Type 0 where
  pub value : ℕ
  pub is_monitored : value < length f.thresholds
  pub was_not : exceeded_of f value h ≡ false
  pub is_now : exceeded_of f value (sampled ps ∷ h) ≡ true

-- document 02, A13: '.. if a line fired under ..': there is one of which the sample ends Exceeded
pub record FiredUnder (f : AnyFresh) (ps : List ℤ) (h : History) : Type 0 where
  pub value : ℕ
  pub is_monitored : value < length f.thresholds
  pub was : exceeded_of f value h ≡ true
  pub is_not_now : exceeded_of f value (sampled ps ∷ h) ≡ false

-- document 02, A13: '.. and none remains exceeded'
abbrev pub NoneExceeded : AnyFresh → History → Type 0
NoneExceeded f h = (k : ℕ) → k < length f.thresholds → exceeded_of f k h ≡ false

-- document 02, A13: 'Each firing logs 65 or 66 in line order ..': the lines of the firings of n monitored values, the first of them k
pub data FiringsInOrder (f : AnyFresh) (ps : List ℤ) (h : History) : ℕ → ℕ → List Line → Type 0 where
  none_left : {k : ℕ} → FiringsInOrder f ps h k 0 []
  fires_over65 : {k n : ℕ} {ls : List Line} → exceeded_of f k h ≡ false → exceeded_of f k (sampled ps ∷ h) ≡ true
      → FiringsInOrder f ps h (suc k) n ls → FiringsInOrder f ps h k (suc n) (line_after f ps h 65 ∷ ls)
  fires_under66 : {k n : ℕ} {ls : List Line} → exceeded_of f k h ≡ true → exceeded_of f k (sampled ps ∷ h) ≡ false
      → FiringsInOrder f ps h (suc k) n ls → FiringsInOrder f ps h k (suc n) (line_after f ps h 66 ∷ ls)
  no_firing : {k n : ℕ} {ls : List Line} → exceeded_of f k (sampled ps ∷ h) ≡ exceeded_of f k h
      → FiringsInOrder f ps h (suc k) n ls → FiringsInOrder f ps h k (suc n) ls

-- the switch table, 'g local disconnect | 1–6 | 1 → 2 | 64' and 'h local reconnect | 5, 6 | 2 → 1 | 69': the line of a sample's move, once, by the
-- positions before and after it
pub data LocalMove (now : ℕ) : ℕ → ℕ → List Line → Type 0 where
  opened64 : LocalMove now 1 2 (line now 64 ∷ [])
  closed69 : LocalMove now 2 1 (line now 69 ∷ [])
  no_move : {s : ℕ} → LocalMove now s s []

-- document 02, A3: 'Whenever the threshold in force becomes another number, .. 67 is logged ..': once, for whichever of n monitored values it does
pub data ThresholdChange (now n : ℕ) (before after : ℕ → ℤ) : List Line → Type 0 where
  changed67 : (k : ℕ) → k < n → before k ≢ after k → ThresholdChange now n before after (line now 67 ∷ [])
  unchanged : ((k : ℕ) → k < n → before k ≡ after k) → ThresholdChange now n before after []

-- the lines of a sample: document 02, A3: '.. at the start before the sample is judged, at the end after the last governed one ..'; A13: '.. after all
-- four lines g is tried once if a line fired over, h once if ..'
pub record SampleLines (f : AnyFresh) (ps : List ℤ) (h : History) (ls : List Line) : Type 0 where
  pub start : List Line
  pub firings : List Line
  pub move : List Line
  pub end : List Line
  pub in_order : ls ≡ start ++ (firings ++ (move ++ end))
  pub at_start :
      ThresholdChange (clock_of f (sampled ps ∷ h)) (length f.thresholds) (λ k. threshold_in_force f k h) (λ k. threshold_at f k ps h) start
  pub each_firing : FiringsInOrder f ps h 0 (length f.thresholds) firings
  pub one_move : LocalMove (clock_of f (sampled ps ∷ h)) (switch_of f h) (switch_of f (sampled ps ∷ h)) move
  pub at_end :
      ThresholdChange (clock_of f (sampled ps ∷ h)) (length f.thresholds) (λ k. threshold_at f k ps h) (λ k. threshold_in_force f k (sampled ps ∷ h)) end

-- 'Two durations, Over and Under, 1 to 86,400 samples'
abbrev pub InDays : ℕ → Type 0
InDays n = (1 ≤ n) × (n ≤ 86400)

-- document 02, A3: '16, duration outside 1 to 604,800, or threshold negative ..': neither
abbrev pub Lasting : Profile → Type 0
Lasting w = (1 ≤ w.duration) × (w.duration ≤ 604800) × (le_z (pos 0) w.threshold ≡ true)

-- the sentences of 'The history account' and the call rules that it goes by, of a fresh meter's account
pub record LawsOf (f : AnyFresh) : Type 0 where
  -- 'Mode ..: last accepted, else fresh ..'
  pub mode_last :
      (h : History) (m : ℕ)
      → (mode_of f h ≡ m) ↔ LatestElse mode_in f.mode h m
  -- .. by call 6, and by no other call
  pub mode_sets :
      (n : ℕ) (h : History)
      → mode_of f (mode_set n ∷ h) ≡ n
  pub others_keep_mode :
      (e : Effect) (h : History)
      → ((n : ℕ) → e ≢ mode_set n)
      → mode_of f (e ∷ h) ≡ mode_of f h
  -- '.. limiter settings ..: last accepted, else fresh ..'
  pub limits_last :
      (h : History) (l : Limits)
      → (limits_of f h ≡ l) ↔ LatestElse limits_in (limits f.thresholds f.over f.under) h l
  -- .. by call 7, and by no other call
  pub limits_sets :
      (ts : List ℤ) (o u : ℕ) (h : History)
      → limits_of f (limits_set ts o u ∷ h) ≡ limits ts o u
  pub others_keep_limits :
      (e : Effect) (h : History)
      → ((ts : List ℤ) (o u : ℕ) → e ≢ limits_set ts o u)
      → limits_of f (e ∷ h) ≡ limits_of f h
  -- '.. filters: last accepted, else .. (filters 0)'
  pub filter_last :
      (s : WhichRegister) (h : History) (n : ℕ)
      → (filter_of s h ≡ n) ↔ LatestElse (filter_in s) 0 h n
  -- 'Clock: last set, else fresh, plus samples since, held as above'
  pub clock_last :
      (h : History) (t : ℕ)
      → (clock_of f h ≡ t) ↔ ClockSince f h t
  -- .. by call 8; a sample adds 1, 'held at 4,294,967,295'; and no other call moves it
  pub clock_sets :
      (t : ℕ) (h : History)
      → t ≤ 4294967295
      → clock_of f (clock_set t ∷ h) ≡ t
  pub sample_advances :
      (ps : List ℤ) (h : History)
      → clock_of f (sampled ps ∷ h) ≡ min (clock_of f h + 1) 4294967295
  pub others_keep_clock :
      (e : Effect) (h : History)
      → ((ps : List ℤ) → e ≢ sampled ps)
      → ((t : ℕ) → e ≢ clock_set t)
      → clock_of f (e ∷ h) ≡ clock_of f h
  -- 'A spell runs from an accepted remote disconnect to the next accepted remote reconnect or mode 0'
  pub spell_runs :
      (h : History)
      → (spell h ≡ true) ↔ InSpell h
  -- 'Inside one the switch is 0'
  pub switch_inside :
      (h : History)
      → InSpell h
      → switch_of f h ≡ 0
  -- 'Otherwise the last deciding call rules: fresh .. give 1 ..'
  pub switch_outside :
      (h : History) (v : ℕ)
      → ¬ InSpell h
      → (switch_of f h ≡ v) ↔ LatestElse (decides f) 1 h v
  -- '.. mode 0 .. give 1 ..': also where it ends a spell
  pub mode_zero_decides :
      (h : History)
      → decides f (mode_set 0) h ≡ some 1
  -- '.. a remote reconnect ending a spell in mode 2 or 4 give 1; .. a remote reconnect ending a spell in another mode give 2'
  pub reconnect_decides :
      (h : History)
      → InSpell h
      → decides f (requested remote_reconnect) h ≡ some (cond (among (2 ∷ 4 ∷ []) (mode_of f h)) 1 2)
  -- document 02, A1: 'In the account such a call outside a spell decides 1. The other modes keep their row': there it decides nothing
  pub reconnect_outside :
      (h : History)
      → ¬ InSpell h
      → decides f (requested remote_reconnect) h ≡ given (among (2 ∷ 4 ∷ []) (mode_of f h)) 1
  -- '.. manual reconnect .. give 1; manual disconnect .. give 2': outside a spell
  pub manual_decides :
      (h : History)
      → ¬ InSpell h
      → (decides f (requested manual_reconnect) h ≡ some 1) × (decides f (requested manual_disconnect) h ≡ some 2)
  -- 'Other mode changes leave the switch'
  pub other_modes_decide_nothing :
      (n : ℕ) (h : History)
      → n ≢ 0
      → decides f (mode_set n) h ≡ none
  -- '.. the last deciding call ..': samples, modes, remote reconnects and manual requests may decide, no others
  pub others_decide_nothing :
      (e : Effect) (h : History)
      → ((powers : List ℤ) → e ≢ sampled powers)
      → ((n : ℕ) → e ≢ mode_set n)
      → e ≢ requested remote_reconnect
      → e ≢ requested manual_disconnect
      → e ≢ requested manual_reconnect
      → decides f e h ≡ none
  -- '.. over firing outside mode 0 .. give 2', document 02, A13: 'g is tried once if a line fired over ..': whichever of them it is
  pub over_decides :
      (ps : List ℤ) (h : History)
      → ¬ InSpell h
      → (decides f (sampled ps) h ≡ some 2) ↔ (FiredOver f ps h × (mode_of f h ≢ 0))
  -- '.. under firing in mode 5 or 6 .. give 1', document 02, A13: 'h once if a line fired under and none remains exceeded': not one of them
  pub under_decides :
      (ps : List ℤ) (h : History)
      → ¬ InSpell h
      → (decides f (sampled ps) h ≡ some 1)
      ↔ (FiredUnder f ps h × (NoneExceeded f (sampled ps ∷ h) × ((mode_of f h ≡ 5) ⊎ (mode_of f h ≡ 6))))
  -- '.. give 1; .. give 2': a sample decides no other position
  pub sample_decides_no_other :
      (ps : List ℤ) (h : History) (v : ℕ)
      → decides f (sampled ps) h ≡ some v
      → (v ≡ 1) ⊎ (v ≡ 2)
  -- 'Calls inside a spell decide nothing': all but the two that end it
  pub inside_decides_nothing :
      (e : Effect) (h : History)
      → InSpell h
      → e ≢ requested remote_reconnect
      → e ≢ mode_set 0
      → decides f e h ≡ none
  -- 'A register bit stands if an event raised it unhidden and no clear of it (error bit 0: nor clock setting) came later'
  pub bit_stands :
      (s : WhichRegister) (b : ℕ) (h : History)
      → (stands s b h ≡ true) ↔ Ongoing (raises s b) (λ e h. clears s b e) h
  -- 'Fresh ..: .. all else zero or empty'
  pub fresh_stands :
      (s : WhichRegister) (b : ℕ)
      → stands s b [] ≡ false
  -- call 9: '.. then its bits. A bit that is one in the filter at that moment is hidden and not set', and the others stay ..
  pub event_raises_alarm :
      (b : ℕ) (r : EventRow) (h : History)
      → (stands alarms b (occurred r ∷ h) ≡ true) ↔ ((stands alarms b h ≡ true) ⊎ ((r.alarm ≡ some b) × (bit (filter_of alarms h) b ≡ false)))
  -- .. '(003, 6.7, for errors; alarms alike)'
  pub event_raises_error :
      (b : ℕ) (r : EventRow) (h : History)
      → (stands errors b (occurred r ∷ h) ≡ true) ↔ ((stands errors b h ≡ true) ⊎ ((r.error ≡ some b) × (bit (filter_of errors h) b ≡ false)))
  -- calls 12 and 13: 'ones clear', whatever the filter
  pub cleared_ones :
      (s : WhichRegister) (b n : ℕ) (h : History)
      → (stands s b (bits_cleared s n ∷ h) ≡ true) ↔ ((stands s b h ≡ true) × (bit n b ≡ false))
  -- call 8: 'error bit 0 is cleared'
  pub clock_clears :
      (n : ℕ) (h : History)
      → stands errors 0 (clock_set n ∷ h) ≡ false
  -- events raise, clears of that register clear, and a clock setting clears error bit 0: no other call moves a bit
  pub others_keep_bits :
      (s : WhichRegister) (b : ℕ) (e : Effect) (h : History)
      → ((r : EventRow) → e ≢ occurred r)
      → ((n : ℕ) → e ≢ bits_cleared s n)
      → ((n : ℕ) → s ≡ errors → b ≡ 0 → e ≢ clock_set n)
      → stands s b (e ∷ h) ≡ stands s b h
  -- calls 10 and 11: 'Set alarm, error filter', each its own, and no other call sets one
  pub filter_sets :
      (s : WhichRegister) (n : ℕ) (h : History)
      → filter_of s (filter_set s n ∷ h) ≡ n
  pub others_keep_filter :
      (s : WhichRegister) (e : Effect) (h : History)
      → ((n : ℕ) → e ≢ filter_set s n)
      → filter_of s (e ∷ h) ≡ filter_of s h
  -- 'Alarm and error register .. (32 bits)': bit b of the register is one if it stands, else zero
  pub register_bits :
      (s : WhichRegister) (b : ℕ) (h : History)
      → b < 32
      → bit (bits_of s h) b ≡ stands s b h
  -- document 02, A6: 'The display counts the alarm bits ..': the count is that of the register's bits, whatever the filter
  pub alarms_counted :
      (h : History)
      → alarm_count_of h ≡ bit_count (bits_of alarms h)
  -- 'A limiter setting is fresh or an accepted call 7': there is always one in force, for each monitored value
  pub setting_in_force :
      (k : ℕ) (h : History)
      → InForce (observations f k h)
  -- '.. by the settings in force at that sample ..': its Over and Under are those last accepted, else fresh
  pub limits_in_force :
      (k : ℕ) (h : History) (i : InForce (observations f k h))
      → (i.over ≡ (limits_of f h).over) × (i.under ≡ (limits_of f h).under)
  -- '.. by the settings in force at that sample ..': a sample is over if its power is above the threshold in force at it; document 02, A3: 'A threshold
  -- change acts in the account as a limiter setting at that place', before the sample is judged and after it
  pub sample_seen :
      (k : ℕ) (ps : List ℤ) (h : History)
      → observations f k (sampled ps ∷ h)
      ≡ change_seen f h (threshold_at f k ps h) (threshold_in_force f k (sampled ps ∷ h))
      ++ (judged (lt_z (threshold_at f k ps h) (number_at ps k))
      ∷ (change_seen f h (threshold_in_force f k h) (threshold_at f k ps h) ++ observations f k h))
  -- 'A limiter setting is .. an accepted call 7'
  pub setting_seen :
      (k : ℕ) (ts : List ℤ) (o u : ℕ) (h : History)
      → observations f k (limits_set ts o u ∷ h) ≡ setting o u ∷ observations f k h
  -- document 02, A5: 'a manual reconnect that moves the switch ..': 'In the account such a reconnect acts as a limiter setting, and earlier full stretches no
  -- longer count': the limiter has then seen the setting in force and nothing before it
  pub moved_arms :
      (k : ℕ) (h : History)
      → moves f (requested manual_reconnect) h ≡ true
      → observations f k (requested manual_reconnect ∷ h) ≡ setting_of f h ∷ []
  -- document 02, A5: '.. also ends Exceeded and sets Run 0 ..', of each monitored value
  pub moved_ends :
      (k : ℕ) (h : History)
      → moves f (requested manual_reconnect) h ≡ true
      → (exceeded_of f k (requested manual_reconnect ∷ h) ≡ false) × (run_of f k (requested manual_reconnect ∷ h) ≡ 0)
  -- document 02, A5: '.. that moves the switch ..': any other manual reconnect is unseen
  pub unmoved_unseen :
      (k : ℕ) (h : History)
      → moves f (requested manual_reconnect) h ≡ false
      → observations f k (requested manual_reconnect ∷ h) ≡ observations f k h
  -- document 02, A5: '.. earlier full stretches no longer count': the limiter has seen what came since the last such reconnect, or since fresh
  pub armed_since :
      (k : ℕ) (h : History) (os : List Observation)
      → (observations f k h ≡ os) ↔ SeenSince f k h os
  -- document 02, A5: '.. that moves the switch ..': from 2, as row e of the switch table
  pub manual_reconnect_moves :
      (h : History)
      → moves f (requested manual_reconnect) h ≡ eqb (switch_of f h) 2
  -- document 02, A5: '.. without a line': a manual reconnect that moves the switch owes its own 61 alone, any other nothing
  pub armed_owes :
      (n : ℕ) (h : History)
      → owed_by f n (requested manual_reconnect) h
      ≡ when (eqb n 3 && moves f (requested manual_reconnect) h) (line (clock_of f h) 61 ∷ [])
  -- 'Other calls between don't break it'
  pub others_unseen :
      (k : ℕ) (e : Effect) (h : History)
      → ((ps : List ℤ) → e ≢ sampled ps)
      → ((ts : List ℤ) (o u : ℕ) → e ≢ limits_set ts o u)
      → e ≢ requested manual_reconnect
      → ((w : Profile) → e ≢ profile_set w)
      → observations f k (e ∷ h) ≡ observations f k h
  -- 'A full over stretch ends at a sample if ..; a full under stretch likewise ..'
  pub full_stretch :
      (b : Bool) (os : List Observation)
      → InForce os
      → (stretch_ends b os ≡ true) ↔ FullStretch b os
  -- 'Exceeded is yes if the latest full stretch, under any settings, was over; no if it was under or there is none'
  pub exceeded_latest :
      (k : ℕ) (h : History) (b : Bool)
      → (exceeded_of f k h ≡ b) ↔ LatestElse stretch_at false (observations f k h) b
  -- 'Run counts the trailing samples since the last limiter setting that are over (not Exceeded) or not over (Exceeded)'
  pub run_trailing :
      (k : ℕ) (h : History) (i : InForce (observations f k h)) (n : ℕ)
      → (run_of f k h ≡ n) ↔ Trailing (not (exceeded_of f k h)) i.samples n
  -- '.. lines owed by the call rules since that log was last cleared, its 255 included ..'
  pub owed_lines :
      (n : ℕ) (h : History) (ls : List Line)
      → (owed f n h ≡ ls) ↔ OwedSince f n h ls
  -- call 1: '.. log 65, then g is tried', '.. log 66, then h is tried', with several monitored values as document 02, A3 and A13, say; 'Lines 65–67 go to
  -- log 3', and no other log gets a line
  pub sample_owes_in_order :
      (ps : List ℤ) (h : History)
      → SampleLines f ps h (owed_by f 3 (sampled ps) h)
  pub sample_owes_no_other :
      (n : ℕ) (ps : List ℤ) (h : History)
      → n ≢ 3
      → owed_by f n (sampled ps) h ≡ []
  -- calls 2 to 4, 'Line in log 3' of the switch table; document 02, A1: '.. now also moves 2 to 1 and logs 63'. Call 5's is armed_owes
  pub remote_disconnect_owes :
      (n : ℕ) (h : History)
      → owed_by f n (requested remote_disconnect) h ≡ when (eqb n 3 && not (eqb (switch_of f h) 0)) (line (clock_of f h) 62 ∷ [])
  pub remote_reconnect_owes :
      (n : ℕ) (h : History)
      → owed_by f n (requested remote_reconnect) h
      ≡ when (eqb n 3)
      (cond (among (2 ∷ 4 ∷ []) (mode_of f h))
      (when (not (eqb (switch_of f h) 1)) (line (clock_of f h) 63 ∷ []))
      (when (eqb (switch_of f h) 0) (line (clock_of f h) 59 ∷ [])))
  pub manual_disconnect_owes :
      (n : ℕ) (h : History)
      → owed_by f n (requested manual_disconnect) h ≡ when (eqb n 3 && eqb (switch_of f h) 1) (line (clock_of f h) 60 ∷ [])
  -- call 6: 'Accepting mode 0 sets switch 1 and, if it was not 1, logs 63. Other mode changes leave the switch'
  pub mode_owes :
      (n m : ℕ) (h : History)
      → owed_by f n (mode_set m) h ≡ when (eqb n 3 && (eqb m 0 && not (eqb (switch_of f h) 1))) (line (clock_of f h) 63 ∷ [])
  -- call 7: '.. log 67': 'Lines 65–67 go to log 3'
  pub setting_owes :
      (n : ℕ) (ts : List ℤ) (o u : ℕ) (h : History)
      → owed_by f n (limits_set ts o u) h ≡ when (eqb n 3) (line (clock_of f h) 67 ∷ [])
  -- call 8: 'standard line 4 with the old clock, line 5 with the new', also where they are the same
  pub clock_owes :
      (n t : ℕ) (h : History)
      → t ≤ 4294967295
      → owed_by f n (clock_set t) h ≡ when (eqb n 1) (line (clock_of f h) 4 ∷ line t 5 ∷ [])
  -- call 9: 'one line in its log', whatever the filters hide
  pub event_owes :
      (n : ℕ) (r : EventRow) (h : History)
      → owed_by f n (occurred r) h ≡ when (eqb n r.log) (line (clock_of f h) r.code ∷ [])
  -- calls 12 and 13: 'standard line 11 or 10, mask 0 included'
  pub clear_alarms_owes :
      (n m : ℕ) (h : History)
      → owed_by f n (bits_cleared alarms m) h ≡ when (eqb n 1) (line (clock_of f h) 11 ∷ [])
  pub clear_errors_owes :
      (n m : ℕ) (h : History)
      → owed_by f n (bits_cleared errors m) h ≡ when (eqb n 1) (line (clock_of f h) 10 ∷ [])
  -- call 14: 'it then holds one line 255', and the other logs get none
  pub clear_log_owes :
      (n m : ℕ) (h : History)
      → owed_by f n (log_cleared m) h ≡ when (eqb n m) (line (clock_of f h) 255 ∷ [])
  -- calls 10 and 11 and document 02's kind 16 owe no line
  pub unlogged :
      (n : ℕ) (s : WhichRegister) (m : ℕ) (g : List ℕ) (h : History)
      → (owed_by f n (filter_set s m) h ≡ []) × (owed_by f n (groups_set g) h ≡ [])
  -- 'Script: 1 is call 2, 2 is call 3', in every mode
  pub scripts_named :
      (rows : List EventRow) (m : ℕ) (g : List ℕ)
      → (reading rows m g (script 1) ≡ reading rows m g (request remote_disconnect))
      × (reading rows m g (script 2) ≡ reading rows m g (request remote_reconnect))
  -- 'Where a call stops' has no line for calls 1, 8 and 10 to 13: they are accepted with any numbers in every mode, each as itself
  pub always_accepted :
      (rows : List EventRow) (m : ℕ) (g : List ℕ) (ps : List ℤ) (s : WhichRegister) (n : ℕ)
      → (reading rows m g (sample ps) ≡ accepted (sampled ps))
      × ((reading rows m g (set_clock n) ≡ accepted (clock_set n))
      × ((reading rows m g (set_filter s n) ≡ accepted (filter_set s n)) × (reading rows m g (clear_bits s n) ≡ accepted (bits_cleared s n))))
  -- 'script | 3 | not 1 or 2'
  pub scripts_refused :
      (rows : List EventRow) (m : ℕ) (g : List ℕ) (n : ℕ)
      → n ≢ 1
      → n ≢ 2
      → reading rows m g (script n) ≡ refused 3
  -- '.. call 6 | 1 | mode above 6', each of the others being accepted
  pub modes_read :
      (rows : List EventRow) (m : ℕ) (g : List ℕ) (n : ℕ)
      → (n ≤ 6 → reading rows m g (set_mode n) ≡ accepted (mode_set n)) × (6 < n → reading rows m g (set_mode n) ≡ refused 1)
  -- '.. call 7 | 4 | threshold negative', '.. call 7 | 5 | Over or Under out of range', each of the others being accepted
  pub limits_read :
      (rows : List EventRow) (m : ℕ) (g : List ℕ) (ts : List ℤ) (o u : ℕ)
      → (every (le_z (pos 0)) ts ≡ false → reading rows m g (set_limiter ts o u) ≡ refused 4)
      × (every (le_z (pos 0)) ts ≡ true → InDays o → InDays u → reading rows m g (set_limiter ts o u) ≡ accepted (limits_set ts o u))
      × (every (le_z (pos 0)) ts ≡ true → ¬ (InDays o × InDays u) → reading rows m g (set_limiter ts o u) ≡ refused 5)
  -- 'call 9 | 6 | code not listed', by the table
  pub events_read :
      (rows : List EventRow) (m : ℕ) (g : List ℕ) (c : ℕ)
      → (lookup rows c ≡ none → reading rows m g (event c) ≡ refused 6)
      × ((r : EventRow) → lookup rows c ≡ some r → reading rows m g (event c) ≡ accepted (occurred r))
  -- 'call 14 | 7 | log not 1–3', each of these being accepted
  pub logs_read :
      (rows : List EventRow) (m : ℕ) (g : List ℕ) (n : ℕ)
      → (1 ≤ n → n ≤ 3 → reading rows m g (clear_log n) ≡ accepted (log_cleared n))
      × ((n ≡ 0) ⊎ (3 < n) → reading rows m g (clear_log n) ≡ refused 7)
  -- document 02, A3: '14, more than eight ids (kind 16)', each smaller count being accepted
  pub groups_read :
      (rows : List EventRow) (m : ℕ) (g : List ℕ) (n : ℕ) (ids : List ℕ)
      → (n ≤ 8 → reading rows m g (set_groups n ids) ≡ accepted (groups_set (take n ids))) × (8 < n → reading rows m g (set_groups n ids) ≡ refused 14)
  -- document 02, A3: '15, id not in the group (kind 17); 16, duration outside 1 to 604,800, or threshold negative, after 15', any other being accepted
  pub profiles_read :
      (rows : List EventRow) (m : ℕ) (g : List ℕ) (w : Profile)
      → (among g w.id ≡ false → reading rows m g (set_profile w) ≡ refused 15)
      × (among g w.id ≡ true → ¬ Lasting w → reading rows m g (set_profile w) ≡ refused 16)
      × (among g w.id ≡ true → Lasting w → reading rows m g (set_profile w) ≡ accepted (profile_set w))
  -- 'Openings: prefixes with switch 1 whose next call gives another ..': their number
  pub openings_count_prefixes :
      (rows : List EventRow) (cs : List AnyCall)
      → openings rows f cs ≡ length (opening_prefixes rows f cs)
  -- '.. held as above': at 4,294,967,295
  pub openings_held :
      (h : History) (n : ℕ)
      → (account_of f h n).openings ≡ min n 4294967295
  -- '.. refused calls count for nothing ..': the whole list's openings are those of its accepted calls
  pub openings_accepted :
      (rows : List EventRow) (cs : List AnyCall)
      → openings rows f cs ≡ openings_of f (accepted_calls rows f cs)
  -- '.. refused calls count for nothing ..': the account is that of the accepted calls alone
  pub account_accepted :
      (rows : List EventRow) (cs : List AnyCall)
      → account_after rows f cs ≡ account_of f (accepted_calls rows f cs) (openings_of f (accepted_calls rows f cs))
  -- '.. refused calls count for nothing ..': a refused call leaves the account as it was
  pub refused_nothing :
      (rows : List EventRow) (c : AnyCall) (cs : List AnyCall) (n : ℕ)
      → reading rows (mode_of f (accepted_calls rows f cs)) (groups_of (accepted_calls rows f cs)) c ≡ refused n
      → account_after rows f (c ∷ cs) ≡ account_after rows f cs
  -- document 02, A2: 'The switch rule now answers a to h or none, b from 1 and c from 2 ..': an accepted call answers the letter of the row by which the
  -- switch went, and none where it stays or mode 0 is accepted
  pub letter_row :
      (x : Letter) (e : Effect) (h : History)
      → (letter_of f e h ≡ x) ↔ AnswersLetter x e (switch_of f h) (switch_of f (e ∷ h))
  -- document 02, A2: '.. and so does a call that is refused ..'
  pub letter_refused :
      (rows : List EventRow) (call : AnyCall) (calls : List AnyCall) (n : ℕ)
      → reading rows (mode_of f (accepted_calls rows f calls)) (groups_of (accepted_calls rows f calls)) call ≡ refused n
      → letter_after rows f calls call ≡ None
  -- document 02, A3: '.. the groups last accepted', else none
  pub groups_last :
      (h : History) (g : List ℕ)
      → (groups_of h ≡ g) ↔ LatestElse groups_in [] h g
  -- .. by kind 16, and by no other call
  pub groups_sets :
      (g : List ℕ) (h : History)
      → groups_of (groups_set g ∷ h) ≡ g
  pub others_keep_groups :
      (e : Effect) (h : History)
      → ((g : List ℕ) → e ≢ groups_set g)
      → groups_of (e ∷ h) ≡ groups_of h
  -- document 02, A3: 'It replaces any earlier profile ..'
  pub profile_last :
      (h : History) (o : Option Profile)
      → (profile_of h ≡ o) ↔ LatestElse profile_in none h o
  -- document 02, A3: '16, duration outside 1 to 604,800 ..': of a list's accepted calls, the profile last set governs one sample at least
  pub accepted_governs :
      (rows : List EventRow) (cs : List AnyCall)
      → Governs (accepted_calls rows f cs)
  -- document 02, A3: '.. and waits. It goes active with the first sample whose advanced clock has reached activation, and governs that many samples, that
  -- one included ..', '.. after the last governed sample .. the account has no profile'
  pub profile_in_state :
      (h : History) (x : ProfileState)
      → Governs h
      → (profile_state f h ≡ x) ↔ InState f h x
  -- document 02, A3: '.. and governs that many samples, that one included ..': the first to the last of them are judged by the emergency threshold ..
  pub governed_judged :
      (k : ℕ) (ps : List ℤ) (h : History) (w : Profile) (n : ℕ)
      → Begun f (sampled ps ∷ h) w n
      → n ≤ w.duration
      → threshold_at f k ps h ≡ w.threshold
  -- .. and no other sample: none after them, none before them, and none without a profile
  pub later_judged :
      (k : ℕ) (ps : List ℤ) (h : History) (w : Profile) (n : ℕ)
      → Begun f (sampled ps ∷ h) w n
      → 1 ≤ w.duration
      → w.duration < n
      → threshold_at f k ps h ≡ threshold_of f k h
  pub waiting_judged :
      (k : ℕ) (ps : List ℤ) (h : History) (w : Profile)
      → Waits f (sampled ps ∷ h) w
      → threshold_at f k ps h ≡ threshold_of f k h
  pub without_judged :
      (k : ℕ) (ps : List ℤ) (h : History)
      → NoneSet h []
      → threshold_at f k ps h ≡ threshold_of f k h
  -- document 02, A3: '.. at the end after the last governed one ..': then the normal threshold is in force, and there is no profile
  pub after_last :
      (k : ℕ) (h : History) (w : Profile) (n : ℕ)
      → Begun f h w n
      → 1 ≤ w.duration
      → w.duration ≤ n
      → (profile_state f h ≡ no_profile) × (threshold_in_force f k h ≡ threshold_of f k h)
  -- document 02, A3: '.. and governs that many samples ..': while it is active its threshold is in force, between those samples too
  pub active_in_force :
      (k : ℕ) (h : History) (w : Profile) (n : ℕ)
      → profile_state f h ≡ active w n
      → threshold_in_force f k h ≡ w.threshold
  -- document 02, A3: '.. setting the clock back or new groups don't end it': only samples and kind 17 bear on it
  pub profile_kept :
      (e : Effect) (h : History)
      → ((ps : List ℤ) → e ≢ sampled ps)
      → ((w : Profile) → e ≢ profile_set w)
      → profile_state f (e ∷ h) ≡ profile_state f h
  -- document 02, A3: '.. or at a kind 17 that replaces an active profile': from kind 17 on the normal threshold is in force
  pub replaced_normal :
      (k : ℕ) (h : History) (w : Profile)
      → threshold_in_force f k (profile_set w ∷ h) ≡ threshold_of f k h
  -- .. and that change is seen there
  pub replaced_seen :
      (k : ℕ) (h : History) (w : Profile)
      → observations f k (profile_set w ∷ h) ≡ change_seen f h (threshold_in_force f k h) (threshold_of f k h) ++ observations f k h
  -- .. and where there is none no line is owed
  pub first_unlogged :
      (n : ℕ) (h : History) (w : Profile)
      → profile_state f h ≡ no_profile
      → owed_by f n (profile_set w) h ≡ []
  -- .. and over one that waits no 67 is owed: the normal threshold was in force
  pub waiting_unlogged :
      (n : ℕ) (h : History) (v w : Profile)
      → profile_state f h ≡ waiting v
      → owed_by f n (profile_set w) h ≡ []
  -- .. and over an active one a 67, once, if that puts another threshold in force for some monitored value
  pub replaced_owes :
      (n : ℕ) (h : History) (v w : Profile) (left : ℕ)
      → profile_state f h ≡ active v left
      → owed_by f n (profile_set w) h
      ≡ when (eqb n 3 && any (λ k. not (eq_z v.threshold (threshold_of f k h))) (monitored_values f)) (line (clock_of f h) 67 ∷ [])
  -- document 02, A3: 'Whenever the threshold in force becomes another number, Run is 0 ..'
  pub changed_run :
      (h : History) (before after : ℤ) (os : List Observation)
      → eq_z before after ≡ false
      → run (change_seen f h before after ++ os) ≡ 0
  -- document 02, A3: 'Whenever the threshold in force becomes another number ..': with an emergency threshold equal to the normal one nothing begins anew, and
  -- a stretch runs on ..
  pub equal_unseen :
      (k : ℕ) (ps : List ℤ) (h : History) (w : Profile)
      → profile_of h ≡ some w
      → w.threshold ≡ threshold_of f k h
      → observations f k (sampled ps ∷ h) ≡ judged (lt_z (threshold_of f k h) (number_at ps k)) ∷ observations f k h
  -- .. and no 67 is owed
  pub equal_unlogged :
      (n : ℕ) (ps : List ℤ) (h : History) (w : Profile)
      → profile_of h ≡ some w
      → ((k : ℕ) → w.threshold ≡ threshold_of f k h)
      → owed_by f n (sampled ps) h
      ≡ when (eqb n 3)
      (gathered (firing_lines f (sampled ps) h) (monitored_values f)
      ++ when (moves f (sampled ps) h) (line (clock_of f (sampled ps ∷ h)) (local_code (switch_of f (sampled ps ∷ h))) ∷ []))
  -- document 02, A3: '.. Run is 0 and 67 is logged ..', and no more: Exceeded outlives every change
  pub exceeded_kept :
      (h : History) (before after : ℤ) (os : List Observation)
      → exceeded (change_seen f h before after ++ os) ≡ exceeded os

-- with one monitored value a sample decides and owes what document 01 says of its firing, over or under
pub record OneMonitoredValue (f : AnyFresh) : Type 0 where
  -- '.. under firing in mode 5 or 6 .. give 1; .. over firing outside mode 0 .. give 2. Calls inside a spell decide nothing'
  pub sample_decides :
      (ps : List ℤ) (h : History)
      → decides f (sampled ps) h
      ≡ cond (spell h) none
      (cond (over_firing f ps h && not (eqb (mode_of f h) 0)) (some 2)
      (given (under_firing f ps h && among (5 ∷ 6 ∷ []) (mode_of f h)) 1))
  -- '.. log 65, then g is tried', '.. log 66, then h is tried': 'g .. 64', 'h .. 69'; document 02, A3: with a 67 before them and one after them where the
  -- threshold in force becomes another number
  pub sample_owes :
      (n : ℕ) (ps : List ℤ) (h : History)
      → owed_by f n (sampled ps) h
      ≡ when (eqb n 3)
      (when (not (eq_z (threshold_in_force f 0 h) (threshold_at f 0 ps h))) (line_after f ps h 67 ∷ [])
      ++ ((when (over_firing f ps h) (line_after f ps h 65 ∷ when (moves f (sampled ps) h) (line_after f ps h 64 ∷ []))
      ++ when (under_firing f ps h) (line_after f ps h 66 ∷ when (moves f (sampled ps) h) (line_after f ps h 69 ∷ [])))
      ++ when (not (eq_z (threshold_at f 0 ps h) (threshold_in_force f 0 (sampled ps ∷ h)))) (line_after f ps h 67 ∷ [])))

-- of every fresh meter, and of one with one monitored value
abbrev pub Laws : Type 0
Laws = ((f : AnyFresh) → LawsOf f) × ((f : AnyFresh) (t : ℤ) → f.thresholds ≡ t ∷ [] → OneMonitoredValue f)
