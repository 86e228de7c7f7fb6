-- Records of the three-phase meter one step from sound, beside the last that are sound: each monitored value in turn. Control, alarms and logs are judged
-- as in document 01's meter (`NearMisses` of meter).
use Rattle.std.specs.Prelude.{◌≡◌, Bool, true, false, List, [], ◌∷◌, map, ℕ, ℤ, pos, negsuc, replicate}
use Rattle.events.specs.Table.{built_in}
use Rattle.calls.specs.Calls.{answer_number}
use Rattle.phases.specs.declared.ThreePhaseCall.TheVariants.{SetAlarmFilter, SetMode, SetLimiter, Event, ClearLog, Script}
use Rattle.phases.specs.Laws.{naming}
use Rattle.phases_steps.specs.declared.MonitoredValue.{MonitoredValue}
use Rattle.phases_steps.specs.declared.Limiters.{Limiters}
use Rattle.phases_meter.specs.declared.ThreePhaseMeter.{ThreePhaseMeter}
use Rattle.phases_meter.specs.State.{three_phase_with_logs, sound_three_phase_meter}
use Rattle.phases_meter.specs.Machine.{three_phase_applied, three_phase_commanded}
use Rattle.phases_meter.specs.Settings.{three_phase_settings_of, three_phase_fresh_answer}

-- whether a record is sound, and what a call on it answers: 'record | 12 | not sound; every call'
abbrev pub sound_answered : ThreePhaseMeter → Bool × ℕ
sound_answered m = (sound_three_phase_meter built_in m, answer_number (three_phase_applied built_in m (SetAlarmFilter 0)).answer)

-- sound, and the call is accepted
abbrev pub sound_accepted : Bool × ℕ
sound_accepted = (true, 0)

-- not sound, and the call stops at it
abbrev pub unsound_refused : Bool × ℕ
unsound_refused = (false, 12)

-- a monitored value of this threshold, Exceeded and Run
abbrev pub value_with : ℤ → Bool → ℕ → MonitoredValue
value_with t e n = record { threshold = t; exceeded = e; run = n }

-- one that is sound with any durations
abbrev pub usual_value : MonitoredValue
usual_value = value_with (pos 3000) false 0

-- these durations and monitored values
abbrev pub limiters_with : ℕ → ℕ → MonitoredValue → MonitoredValue → MonitoredValue → MonitoredValue → Limiters
limiters_with o u a b c d = record { over = o; under = u; l1 = a; l2 = b; l3 = c; sum = d }

-- a record of these limiters, in mode 5, without lines
abbrev pub of_limiters : Limiters → ThreePhaseMeter
of_limiters l =
    three_phase_with_logs
    (record {
      status =
          record {
            control = record { mode = 5; state = 1; openings = 0 };
            clock = 1000;
            alarms = record { register = record { bits = 0; filter = 0 }; count = 0 };
            errors = record { bits = 0; filter = 0 };
          };
      limiters = l;
    })
    (0 ∷ 0 ∷ 0 ∷ []) (replicate 96 0) (replicate 96 0)

-- each monitored value in turn as given, the others usual
abbrev pub each_with : ℕ → ℕ → MonitoredValue → List (Bool × ℕ)
each_with o u m =
    let n = usual_value in
    map (λ l. sound_answered (of_limiters l))
    (limiters_with o u m n n n ∷ limiters_with o u n m n n ∷ limiters_with o u n n m n ∷ limiters_with o u n n n m ∷ [])

-- all four usual
abbrev pub with_durations : ℕ → ℕ → Bool × ℕ
with_durations o u = let n = usual_value in sound_answered (of_limiters (limiters_with o u n n n n))

-- what a command of a kind answers on a record that is not sound
abbrev pub commanded_unsound : ℕ → ℕ
commanded_unsound k =
    let n = usual_value in
    answer_number (three_phase_commanded built_in (of_limiters (limiters_with 5 9 n n n (value_with (negsuc 0) false 0))) (naming k 0)).answer

-- the same of each
abbrev pub four_times : Bool × ℕ → List (Bool × ℕ)
four_times x = x ∷ x ∷ x ∷ x ∷ []

-- each row the last good value and the first bad one
pub record NearMisses : Type 0 where
  -- 'Threshold in watts, 0 to 2,147,483,647', of each monitored value
  pub threshold_negative : each_with 5 9 (value_with (negsuc 0) false 0) ≡ four_times unsound_refused
  pub threshold_zero : each_with 5 9 (value_with (pos 0) false 0) ≡ four_times sound_accepted
  pub threshold_highest : each_with 5 9 (value_with (pos 2147483647) false 0) ≡ four_times sound_accepted
  pub threshold_above : each_with 5 9 (value_with (pos 2147483648) false 0) ≡ four_times unsound_refused
  -- 'Run is below Over (not Exceeded) or below Under (Exceeded)', by its own Exceeded and Run and the shared durations
  pub run_below : each_with 5 9 (value_with (pos 3000) false 4) ≡ four_times sound_accepted
  pub run_reached : each_with 5 9 (value_with (pos 3000) false 5) ≡ four_times unsound_refused
  pub exceeded_run_below : each_with 5 9 (value_with (pos 3000) true 8) ≡ four_times sound_accepted
  pub exceeded_run_reached : each_with 5 9 (value_with (pos 3000) true 9) ≡ four_times unsound_refused
  -- 'kind | 13 | ..; the command's reading fails before the record is touched', and of A3's kinds (document 02, A13) '.. its kinds get 13 ..': before 12, the
  -- sum's threshold being negative
  pub kind_first : map commanded_unsound (0 ∷ 1 ∷ 15 ∷ 16 ∷ 17 ∷ 256 ∷ []) ≡ 13 ∷ 12 ∷ 12 ∷ 13 ∷ 13 ∷ 13 ∷ []
  -- 'record | 12 | not sound; every call': before what else is wrong with the call
  pub record_first :
      map (λ c. answer_number (three_phase_applied built_in (let n = usual_value in of_limiters (limiters_with 5 9 n n n (value_with (negsuc 0) false 0))) c).answer)
      (SetMode 7 ∷ SetLimiter (negsuc 0) (pos 0) (pos 0) (pos 0) 0 0 ∷ Event 3 ∷ ClearLog 0 ∷ Script 3 ∷ []) ≡ replicate 5 12
  -- 'Place, in order', of fresh: 1, 4, 5; 'Fresh and call 7 take four thresholds, 4 if one is negative'
  pub fresh_order :
      map (λ f. answer_number (three_phase_fresh_answer f))
      (three_phase_settings_of 7 (pos 0) (pos 0) (pos 0) (negsuc 0) 0 0 0 ∷ three_phase_settings_of 6 (pos 0) (pos 0) (pos 0) (negsuc 0) 0 0 0
      ∷ three_phase_settings_of 6 (negsuc 0) (pos 0) (pos 0) (pos 0) 1 1 0 ∷ three_phase_settings_of 6 (pos 0) (negsuc 0) (pos 0) (pos 0) 1 1 0
      ∷ three_phase_settings_of 6 (pos 0) (pos 0) (negsuc 0) (pos 0) 1 1 0 ∷ three_phase_settings_of 6 (pos 0) (pos 0) (pos 0) (pos 0) 0 1 0
      ∷ three_phase_settings_of 6 (pos 0) (pos 0) (pos 0) (pos 0) 1 86401 0 ∷ three_phase_settings_of 6 (pos 0) (pos 0) (pos 0) (pos 0) 1 86400 0 ∷ [])
      ≡ 1 ∷ 4 ∷ 4 ∷ 4 ∷ 4 ∷ 5 ∷ 5 ∷ 0 ∷ []
  -- 'Two durations, Over and Under, 1 to 86,400 samples'
  pub overs : map (λ o. with_durations o 9) (0 ∷ 1 ∷ 86400 ∷ 86401 ∷ []) ≡ unsound_refused ∷ sound_accepted ∷ sound_accepted ∷ unsound_refused ∷ []
  pub unders : map (λ u. with_durations 5 u) (0 ∷ 1 ∷ 86400 ∷ 86401 ∷ []) ≡ unsound_refused ∷ sound_accepted ∷ sound_accepted ∷ unsound_refused ∷ []
