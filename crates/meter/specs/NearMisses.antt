-- Records one step from sound, beside the last that are sound, in the order of document 01's section 'The meter record'.
use Rattle.std.specs.Prelude.{◌≡◌, Bool, true, false, List, [], ◌∷◌, ◌++◌, map, ℕ, ◌-◌, ℤ, pos, negsuc, set, replicate}
use Rattle.events.specs.Table.{built_in}
use Rattle.emergency.specs.Emergency.{no_emergency, with_fields}
use Rattle.logs.specs.Arrays.{place}
use Rattle.calls.specs.declared.Call.TheVariants.{SetAlarmFilter, RemoteDisconnect, SetMode, SetLimiter, Event, ClearLog, Script, SetGroups, SetProfile}
use Rattle.calls.specs.Calls.{answer_number, command_of}
use Rattle.history.specs.Examples.{example_settings}
use Rattle.meter.specs.declared.Meter.{Meter}
use Rattle.machine.specs.Values.{Values, with_control, with_limiters, with_alarms, with_emergency}
use Rattle.steps.specs.Scalars.{scalars_from}
use Rattle.meter.specs.State.{with_logs}
use Rattle.meter.specs.Sound.{sound_meter}
use Rattle.meter.specs.Machine.{applied, commanded}
use Rattle.meter.specs.Settings.{settings_of, fresh_answer}
use Rattle.meter.specs.Fresh.{fresh_state}

-- whether a record is sound, and what a call on it answers: 'record | 12 | not sound; every call'
abbrev pub sound_and_answer : Meter → Bool × ℕ
sound_and_answer m = (sound_meter built_in m, answer_number (applied built_in m (SetAlarmFilter 0)).answer)

-- sound, and the call is accepted
abbrev pub good : Bool × ℕ
good = (true, 0)

-- not sound, and the call stops at it
abbrev pub bad : Bool × ℕ
bad = (false, 12)

-- the values that are varied: the worked example's fresh ones, mode 5
abbrev pub usual : Values
usual = (fresh_state example_settings).values

-- the 96 places of logs without lines
abbrev pub blank : List ℕ
blank = replicate 96 0

-- and their counts
abbrev pub none_held : List ℕ
none_held = 0 ∷ 0 ∷ 0 ∷ []

-- a record of these values, without lines
abbrev pub of_values : Values → Meter
of_values v = with_logs (scalars_from v) none_held blank blank

-- of this mode and switch
abbrev pub of_control : ℕ → ℕ → Meter
of_control mode switch = of_values (with_control usual (record { mode = mode; state = switch; openings = 0 }))

-- of this threshold, Over, Under, Exceeded and Run
abbrev pub of_limiter : ℤ → ℕ → ℕ → Bool → ℕ → Meter
of_limiter t o u e n = of_values (with_limiters usual (record { threshold = t; over = o; under = u; exceeded = e; run = n } ∷ []))

-- of these alarms and their filter, with this number of them
abbrev pub of_alarms : ℕ → ℕ → ℕ → Meter
of_alarms bits filter n = of_values (with_alarms usual (record { register = record { bits = bits; filter = filter }; count = n }))

-- of a profile that waits for its three samples, so many of them left
abbrev pub of_left : ℕ → Meter
of_left n = of_values (with_emergency usual (with_fields no_emergency 7 (pos 5) 9 3 n 1))

-- a record with these counts, clocks and codes
abbrev pub of_logs : List ℕ → List ℕ → List ℕ → Meter
of_logs = with_logs (scalars_from usual)

-- with one line in log n, of this code
abbrev pub of_line : ℕ → ℕ → Meter
of_line n code = of_logs (set none_held (n - 1) 1) blank (set blank (place n) code)

-- with 32 lines of code 255 in the places of each log, and these counts
abbrev pub of_counts : List ℕ → Meter
of_counts counts = of_logs counts (replicate 96 1) (replicate 96 255)

-- the places of one line in each log
abbrev pub one_each : List ℕ
one_each =
    let one : List ℕ = 255 ∷ replicate 31 0 in
    one ++ (one ++ one)

-- with one line in each log, of these clocks and codes
abbrev pub of_lines : List ℕ → List ℕ → Meter
of_lines = of_logs (1 ∷ 1 ∷ 1 ∷ [])

-- the first place of each log, which the count covers, then the first and the last that it does not
abbrev pub places : List ℕ
places = 0 ∷ 1 ∷ 31 ∷ 32 ∷ 33 ∷ 63 ∷ 64 ∷ 65 ∷ 95 ∷ []

-- switch and openings after a remote disconnect, in mode 1 with no opening so far, by the switch before
abbrev pub disconnected : ℕ → ℕ × ℕ
disconnected switch =
    let after : Meter = (applied built_in (of_control 1 switch) RemoteDisconnect).meter in
    (after.control.state, after.control.openings)

-- each row the last good value and the first bad one
pub record NearMisses : Type 0 where
  -- 'Mode 0–6'
  pub modes : map (λ m. sound_and_answer (of_control m 1)) (6 ∷ 7 ∷ []) ≡ good ∷ bad ∷ []
  -- 'Switch: 0 Disconnected, 1 Connected, 2 Ready for reconnection'
  pub switches : map (λ s. sound_and_answer (of_control 5 s)) (2 ∷ 3 ∷ []) ≡ good ∷ bad ∷ []
  -- 'mode 0 has switch 1'
  pub mode_zero : map (λ s. sound_and_answer (of_control 0 s)) (0 ∷ 1 ∷ 2 ∷ []) ≡ bad ∷ good ∷ bad ∷ []
  -- 'Threshold in watts, 0 to 2,147,483,647'
  pub thresholds : map (λ t. sound_and_answer (of_limiter t 5 9 false 0)) (negsuc 0 ∷ pos 0 ∷ pos 2147483647 ∷ pos 2147483648 ∷ [])
      ≡ bad ∷ good ∷ good ∷ bad ∷ []
  -- 'Two durations, Over and Under, 1 to 86,400 samples': each where the other one is awaited
  pub overs : map (λ o. sound_and_answer (of_limiter (pos 3000) o 9 true 0)) (0 ∷ 1 ∷ 86400 ∷ 86401 ∷ []) ≡ bad ∷ good ∷ good ∷ bad ∷ []
  pub unders : map (λ u. sound_and_answer (of_limiter (pos 3000) 5 u false 0)) (0 ∷ 1 ∷ 86400 ∷ 86401 ∷ []) ≡ bad ∷ good ∷ good ∷ bad ∷ []
  -- 'Run is below Over (not Exceeded) or below Under (Exceeded)'
  pub runs : map (λ n. sound_and_answer (of_limiter (pos 3000) 5 9 false n)) (4 ∷ 5 ∷ []) ≡ good ∷ bad ∷ []
  pub exceeded_runs : map (λ n. sound_and_answer (of_limiter (pos 3000) 5 9 true n)) (8 ∷ 9 ∷ []) ≡ good ∷ bad ∷ []
  -- document 02, A6: 'A record or page with another number isn't sound': of bits 0 and 31, the filter having bit 0
  pub alarm_counts : map (λ n. sound_and_answer (of_alarms 2147483649 1 n)) (1 ∷ 2 ∷ 3 ∷ []) ≡ bad ∷ good ∷ bad ∷ []
  -- document 02, A3: 'samples left equals the duration while waiting'; each clause is in `NearMisses` of emergency
  pub samples_left : map (λ n. sound_and_answer (of_left n)) (2 ∷ 3 ∷ 4 ∷ []) ≡ bad ∷ good ∷ bad ∷ []
  -- 'each log holds only its own codes'; all 256 are in `HeldCodes` of events
  pub standard_codes : map (λ c. sound_and_answer (of_line 1 c)) (2 ∷ 3 ∷ 8 ∷ 9 ∷ 16 ∷ 17 ∷ 40 ∷ 255 ∷ [])
      ≡ good ∷ bad ∷ good ∷ bad ∷ good ∷ bad ∷ bad ∷ good ∷ []
  pub fraud_codes : map (λ c. sound_and_answer (of_line 2 c)) (39 ∷ 40 ∷ 46 ∷ 47 ∷ 68 ∷ 255 ∷ [])
      ≡ bad ∷ good ∷ good ∷ bad ∷ bad ∷ good ∷ []
  pub disconnect_codes : map (λ c. sound_and_answer (of_line 3 c)) (58 ∷ 59 ∷ 69 ∷ 70 ∷ 254 ∷ 255 ∷ [])
      ≡ bad ∷ good ∷ good ∷ bad ∷ bad ∷ good ∷ []
  -- 'each of up to 32 lines'
  pub counts :
      map (λ ks. sound_and_answer (of_counts ks)) ((32 ∷ 32 ∷ 32 ∷ []) ∷ (33 ∷ 32 ∷ 32 ∷ []) ∷ (32 ∷ 33 ∷ 32 ∷ []) ∷ (32 ∷ 32 ∷ 33 ∷ []) ∷ [])
      ≡ good ∷ bad ∷ bad ∷ bad ∷ []
  -- 'lines past its count are zero': the clock of each, and its code
  pub clocks_past : map (λ i. sound_and_answer (of_lines (set one_each i 1) one_each)) places
      ≡ good ∷ bad ∷ bad ∷ good ∷ bad ∷ bad ∷ good ∷ bad ∷ bad ∷ []
  pub codes_past : map (λ i. sound_and_answer (of_lines one_each (set one_each i 255))) places
      ≡ good ∷ bad ∷ bad ∷ good ∷ bad ∷ bad ∷ good ∷ bad ∷ bad ∷ []
  -- 'each log holds only its own codes': each of its lines, the first, the second and the last of each log
  pub codes_each : map (λ i. sound_and_answer (of_logs (32 ∷ 32 ∷ 32 ∷ []) (replicate 96 1) (set (replicate 96 255) i 70))) places ≡ replicate 9 bad
  -- 'A move out of 1 adds one to Openings', and no other does; the first and the last are of sound records that no list of calls leaves
  pub unreached : map disconnected (0 ∷ 1 ∷ 2 ∷ []) ≡ (0, 0) ∷ (0, 1) ∷ (0, 0) ∷ []
  -- 'record | 12 | not sound; every call': before what else is wrong with the call ..
  pub record_first :
      map (λ c. answer_number (applied built_in (of_control 7 1) c).answer)
      (RemoteDisconnect ∷ SetMode 7 ∷ SetLimiter (negsuc 0) 0 0 ∷ Event 3 ∷ ClearLog 0 ∷ Script 3 ∷ SetGroups 9 0 0 0 0 ∷ SetProfile 1 (negsuc 0) 0 0 ∷ [])
      ≡ replicate 8 12
  -- .. and behind 'kind | 13 | ..; the command's reading fails before the record is touched'
  pub kind_first : map (λ k. answer_number (commanded built_in (of_control 7 1) (command_of k 0 0 0 0 0)).answer) (0 ∷ 1 ∷ 17 ∷ 18 ∷ []) ≡ 13 ∷ 12 ∷ 12 ∷ 13 ∷ []
  -- 'Place, in order', of fresh: 1, 4, 5
  pub fresh_order :
      map (λ f. answer_number (fresh_answer f)) (settings_of 7 (negsuc 0) 0 0 0 ∷ settings_of 6 (negsuc 0) 0 0 0 ∷ settings_of 6 (pos 0) 0 1 0
      ∷ settings_of 6 (pos 0) 1 86401 0 ∷ settings_of 6 (pos 0) 1 86400 0 ∷ [])
      ≡ 1 ∷ 4 ∷ 5 ∷ 5 ∷ 0 ∷ []
