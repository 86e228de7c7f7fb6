-- Histories of the three-phase meter, of the account alone: a history for each sentence of document 02, A13.
use Rattle.std.specs.Prelude.{ℕ, ◌≡◌, Bool, true, false, List, [], ◌∷◌, ◌++◌, map, ℤ, pos, negsuc, get_or}
use Rattle.base.specs.Tests.{every, any, numbers_from, gathered, among}
use Rattle.base.specs.Bits.{bit, number, how_many}
use Rattle.events.specs.Line.{line, newest}
use Rattle.events.specs.Table.{built_in, lookup}
use Rattle.calls.specs.declared.Letter.{Letter}
use Rattle.calls.specs.declared.Letter.TheVariants.{B, C, D, E, F, G, H, None}
use Rattle.history.specs.Effects.{reading}
use Rattle.history.specs.Last.{last, samples_since}
use Rattle.history.specs.Profile.{clocks_since, from_reached}
use Rattle.history.specs.Limiter.{duration, since_setting, all_are, exceeded, trailing}
use Rattle.history.specs.Switch.{spell, observations, last_decided, switch_of}
use Rattle.history.specs.Registers.{stands}
use Rattle.history.specs.Logs.{owed}
use Rattle.history.specs.Account.{accepted_calls, openings, MonitoredValue}
use Rattle.history.specs.Examples.{refusal}
use Rattle.phases.specs.declared.ThreePhaseCall.{ThreePhaseCall}
use Rattle.phases.specs.declared.ThreePhaseCall.TheVariants.{Sample, RemoteDisconnect, RemoteReconnect, ManualDisconnect, ManualReconnect, SetMode}
use Rattle.phases.specs.declared.ThreePhaseCall.TheVariants.{SetLimiter, SetClock, Event, SetAlarmFilter, SetErrorFilter, ClearAlarms, ClearErrors}
use Rattle.phases.specs.declared.ThreePhaseCall.TheVariants.{ClearLog, Script}
use Rattle.phases.specs.ThreePhase.{ThreePhaseFresh, ThreePhaseAccount, as_any_call, three_phase_account, three_phase_letter}

-- settings of a mode, four thresholds, Over and Under, at clock 1000
abbrev pub settings_with : ℕ → ℕ → ℕ → ℕ → ℕ → ℕ → ℕ → ThreePhaseFresh
settings_with m a b c d o u = record { mode = m; l1 = pos a; l2 = pos b; l3 = pos c; sum = pos d; over = o; under = u; clock = 1000 }

-- mode 5, 100 W a phase and 250 W in all, Over 1 and Under 1
abbrev pub workshop : ThreePhaseFresh
workshop = settings_with 5 100 100 100 250 1 1

-- a sample of three powers that are not negative
abbrev pub powers : ℕ → ℕ → ℕ → ThreePhaseCall
powers a b c = Sample (pos a) (pos b) (pos c)

-- the account by the built-in table; to unfold it is to unfold what it is made of
unfoldable pub account_from : ThreePhaseFresh → List ThreePhaseCall → ThreePhaseAccount
unfolding every any numbers_from gathered among bit number how_many newest built_in lookup reading last samples_since clocks_since from_reached duration
    since_setting all_are exceeded trailing observations last_decided spell switch_of stands owed accepted_calls openings
account_from f calls = three_phase_account built_in f calls

-- the letter of one more call
unfoldable pub letter_from : ThreePhaseFresh → List ThreePhaseCall → ThreePhaseCall → Letter
unfolding every any numbers_from gathered among bit number how_many newest built_in lookup reading last samples_since clocks_since from_reached duration
    since_setting all_are exceeded trailing observations last_decided spell switch_of stands owed accepted_calls openings
letter_from f calls c = three_phase_letter built_in f calls c

-- the codes of log 3, the disconnect log
abbrev pub codes : ThreePhaseAccount → List ℕ
codes a = map (λ l. l.code) (get_or a.logs 2 [])

-- one thing of each monitored value, in their order
abbrev pub each : {A : Type 0} → (MonitoredValue → A) → ThreePhaseAccount → List A
each f a = map f (a.l1 ∷ a.l2 ∷ a.l3 ∷ a.sum ∷ [])

-- Exceeded of each
abbrev pub exceeded_each : ThreePhaseAccount → List Bool
exceeded_each = each (λ m. m.exceeded)

-- Run of each
abbrev pub run_each : ThreePhaseAccount → List ℕ
run_each = each (λ m. m.run)

-- Over and Under
abbrev pub durations : ThreePhaseAccount → List ℕ
durations a = a.over ∷ a.under ∷ []

-- alarms, their filter and their number, errors and their filter
abbrev pub registers_of : ThreePhaseAccount → List ℕ
registers_of a = a.alarms ∷ a.alarm_filter ∷ a.alarm_count ∷ a.errors ∷ a.error_filter ∷ []

-- L1, L2 and the sum fire over in one sample
abbrev pub three_over : List ThreePhaseCall
three_over = powers 200 101 0 ∷ []

-- and then L2 and the sum fire under, L1 being over still
abbrev pub one_remains : List ThreePhaseCall
one_remains = three_over ++ (powers 200 0 0 ∷ [])

-- L1 and the sum fire over, and then L1 fires under, the sum being over still
abbrev pub sum_remains : List ThreePhaseCall
sum_remains = powers 101 90 90 ∷ powers 90 90 90 ∷ []

-- L1 fires over and the key reconnects; it fires over again, and then L2 fires over in the sample in which L1 fires under
abbrev pub over_and_under : List ThreePhaseCall
over_and_under = powers 101 0 0 ∷ ManualReconnect ∷ powers 101 0 0 ∷ powers 0 101 0 ∷ []

-- L1 fires over, the centre reconnects, and then L2 fires over in the sample in which L1 fires under
abbrev pub closed_meanwhile : List ThreePhaseCall
closed_meanwhile = powers 101 0 0 ∷ RemoteReconnect ∷ powers 0 101 0 ∷ []

-- the letters of calls behind those before them
abbrev pub letters_from : ThreePhaseFresh → List ThreePhaseCall → List ThreePhaseCall → List Letter
letters_from f before [] = []
letters_from f before (c ∷ cs) = letter_from f before c ∷ letters_from f (before ++ (c ∷ [])) cs

-- the switch obeys centre and key, by their own calls and by script, until mode 0
abbrev pub requested : List ThreePhaseCall
requested =
    RemoteDisconnect ∷ ManualReconnect ∷ RemoteReconnect ∷ ManualReconnect ∷ ManualDisconnect ∷ Script 1 ∷ Script 2 ∷ SetMode 0 ∷ []

-- two events, a filter and a clear of each register
abbrev pub registered : List ThreePhaseCall
registered = Event 6 ∷ Event 7 ∷ SetAlarmFilter 4 ∷ SetErrorFilter 8 ∷ ClearAlarms 1 ∷ ClearErrors 2 ∷ []

-- the refusal of a limiter setting, or 0
abbrev pub setting_refusal : ℤ → ℤ → ℤ → ℤ → ℕ → ℕ
setting_refusal a b c d o = refusal (reading built_in 5 [] (as_any_call (SetLimiter a b c d o 1)))

-- each by its sentence
pub record Examples : Type 0 where
  -- 'Each firing logs 65 or 66 in line order; after all four lines g is tried once if a line fired over ..'
  pub three_over_lem : codes (account_from workshop three_over) ≡ 65 ∷ 65 ∷ 65 ∷ 64 ∷ []
  pub three_over_opens : (account_from workshop three_over).switch ≡ 2
  pub three_over_letter : letter_from workshop [] (powers 200 101 0) ≡ G
  -- '.. h once if a line fired under and none remains exceeded': one remains
  pub one_remains_lem : codes (account_from workshop one_remains) ≡ 65 ∷ 65 ∷ 65 ∷ 64 ∷ 66 ∷ 66 ∷ []
  pub one_remains_open : (account_from workshop one_remains).switch ≡ 2
  pub one_remains_letter : letter_from workshop three_over (powers 200 0 0) ≡ None
  -- none remains
  pub none_remains : codes (account_from workshop (one_remains ++ (powers 0 0 0 ∷ []))) ≡ 65 ∷ 65 ∷ 65 ∷ 64 ∷ 66 ∷ 66 ∷ 66 ∷ 69 ∷ []
  pub none_remains_closes : (account_from workshop (one_remains ++ (powers 0 0 0 ∷ []))).switch ≡ 1
  pub none_remains_letter : letter_from workshop one_remains (powers 0 0 0) ≡ H
  -- one fires over while another fires under: g is tried, which from 2 moves nothing, and h is not
  pub over_and_under_lem : codes (account_from workshop over_and_under) ≡ 65 ∷ 64 ∷ 61 ∷ 65 ∷ 64 ∷ 66 ∷ 65 ∷ []
  -- the same where the switch is closed again meanwhile, L1 being exceeded still (mode 4): g moves it, and h does not
  pub over_and_under_opens : codes (account_from (settings_with 4 100 100 100 250 1 1) closed_meanwhile) ≡ 65 ∷ 64 ∷ 63 ∷ 66 ∷ 65 ∷ 64 ∷ []
  pub over_and_under_letter : letter_from (settings_with 4 100 100 100 250 1 1) (powers 101 0 0 ∷ RemoteReconnect ∷ []) (powers 0 101 0) ≡ G
  -- the sum is a line as the phases are: it alone fires over ..
  pub sum_alone_over : codes (account_from workshop (powers 90 90 90 ∷ [])) ≡ 65 ∷ 64 ∷ []
  pub sum_alone_opens : (account_from workshop (powers 90 90 90 ∷ [])).switch ≡ 2
  pub sum_alone_letter : letter_from workshop [] (powers 90 90 90) ≡ G
  -- .. and it alone remains exceeded, L1 firing under
  pub sum_alone_remains : codes (account_from workshop sum_remains) ≡ 65 ∷ 65 ∷ 64 ∷ 66 ∷ []
  pub sum_alone_remains_open : (account_from workshop sum_remains).switch ≡ 2
  -- '.. their exact sum ..': 4,294,967,292 is over 2,147,483,647; in 32 bits it would be −4
  pub sum_above : exceeded_each (account_from (settings_with 5 2147483647 2147483647 2147483647 2147483647 1 1) (powers 2147483646 0 2147483646 ∷ []))
      ≡ false ∷ false ∷ false ∷ true ∷ []
  -- −6,442,450,944 is not over 0; in 32 bits it would be above it
  pub sum_below :
      exceeded_each
      (account_from (settings_with 5 0 0 0 0 1 1) (Sample (negsuc 2147483647) (negsuc 2147483647) (negsuc 2147483647) ∷ []))
      ≡ false ∷ false ∷ false ∷ false ∷ []
  -- export of one phase counts against import of another in the sum alone
  pub sum_signed : exceeded_each (account_from workshop (Sample (pos 300) (negsuc 99) (pos 0) ∷ [])) ≡ true ∷ false ∷ false ∷ false ∷ []
  -- '.. a threshold and Run each ..'
  pub own_runs : run_each (account_from (settings_with 5 100 100 100 250 5 5) (powers 101 0 0 ∷ powers 101 101 101 ∷ powers 101 101 0 ∷ []))
      ≡ 3 ∷ 2 ∷ 0 ∷ 0 ∷ []
  -- 'A5's reconnect acts on all four lines': none is exceeded, and each Run is 0, though all four are over
  pub armed : exceeded_each (account_from workshop (powers 200 200 200 ∷ ManualReconnect ∷ [])) ≡ false ∷ false ∷ false ∷ false ∷ []
  pub armed_runs : run_each (account_from (settings_with 5 100 100 100 250 2 9)
      (powers 101 200 0 ∷ powers 101 200 0 ∷ powers 0 0 101 ∷ ManualReconnect ∷ [])) ≡ 0 ∷ 0 ∷ 0 ∷ 0 ∷ []
  pub armed_letter : letter_from workshop three_over ManualReconnect ≡ E
  -- '.. call 7 sets each Run 0 and logs one 67': Exceeded stays
  pub set_once : codes (account_from workshop (three_over ++ (SetLimiter (pos 300) (pos 300) (pos 300) (pos 900) 2 2 ∷ []))) ≡ 65 ∷ 65 ∷ 65 ∷ 64 ∷ 67 ∷ []
  pub set_runs : run_each (account_from (settings_with 5 100 100 100 250 5 5)
      (powers 101 101 101 ∷ SetLimiter (pos 100) (pos 100) (pos 100) (pos 250) 5 5 ∷ [])) ≡ 0 ∷ 0 ∷ 0 ∷ 0 ∷ []
  pub set_exceeded : exceeded_each (account_from workshop (three_over ++ (SetLimiter (pos 300) (pos 300) (pos 300) (pos 900) 2 2 ∷ [])))
      ≡ true ∷ true ∷ false ∷ true ∷ []
  pub set_thresholds : each (λ m. m.threshold) (account_from workshop (SetLimiter (pos 1) (pos 2) (pos 3) (pos 4) 2 2 ∷ []))
      ≡ pos 1 ∷ pos 2 ∷ pos 3 ∷ pos 4 ∷ []
  -- '.. 4 if one is negative', before 5
  pub thresholds_refused :
      setting_refusal (negsuc 0) (pos 0) (pos 0) (pos 0) 0 ∷ setting_refusal (pos 0) (negsuc 0) (pos 0) (pos 0) 0
      ∷ setting_refusal (pos 0) (pos 0) (negsuc 0) (pos 0) 0 ∷ setting_refusal (pos 0) (pos 0) (pos 0) (negsuc 0) 0
      ∷ setting_refusal (pos 0) (pos 0) (pos 0) (pos 0) 0 ∷ setting_refusal (pos 0) (pos 0) (pos 0) (pos 0) 1 ∷ []
      ≡ 4 ∷ 4 ∷ 4 ∷ 4 ∷ 5 ∷ 0 ∷ []
  -- in mode 4, without h, a firing under of the last line that was exceeded moves nothing; in mode 0 nothing is tried at all
  pub without_reconnect : codes (account_from (settings_with 4 100 100 100 250 1 1) (powers 101 0 0 ∷ powers 0 0 0 ∷ [])) ≡ 65 ∷ 64 ∷ 66 ∷ []
  pub without_disconnect : codes (account_from (settings_with 0 100 100 100 250 1 1) (powers 101 0 0 ∷ powers 0 0 0 ∷ [])) ≡ 65 ∷ 66 ∷ []
  -- '.. four lines in that order ..', 'Each firing logs 65 or 66 in line order': L1 and L3 fire under, L2 and the sum over; then L1 and L2, L3 and the sum
  pub line_order :
      map (λ calls. codes (account_from workshop calls))
      ((powers 101 0 101 ∷ powers 0 300 0 ∷ []) ∷ (powers 101 101 0 ∷ powers 0 0 300 ∷ []) ∷ [])
      ≡ (65 ∷ 65 ∷ 64 ∷ 66 ∷ 65 ∷ 66 ∷ 65 ∷ []) ∷ (65 ∷ 65 ∷ 64 ∷ 66 ∷ 66 ∷ 65 ∷ 65 ∷ []) ∷ []
  -- 'Set limiter (threshold, Over, Under)', here with four thresholds: Over before Under
  pub set_durations : durations (account_from workshop (SetLimiter (pos 1) (pos 2) (pos 3) (pos 4) 5 6 ∷ [])) ≡ 5 ∷ 6 ∷ []
  -- document 01's other calls are this meter's too: '10, 11. Set alarm, error filter', '12, 13. Clear alarms, errors (mask): ones clear ..', and document 02,
  -- A6: 'How many alarms stand'
  pub registers : registers_of (account_from workshop registered) ≡ 2 ∷ 4 ∷ 1 ∷ 1 ∷ 8 ∷ []
  -- '2. Remote disconnect. 3. Remote reconnect. 4. Manual disconnect. 5. Manual reconnect', 'Script: 1 is call 2, 2 is call 3', and 'Accepting mode 0 sets
  -- switch 1 and, if it was not 1, logs 63'
  pub switches : codes (account_from workshop requested) ≡ 62 ∷ 59 ∷ 61 ∷ 60 ∷ 62 ∷ 59 ∷ 63 ∷ []
  pub switches_end : (account_from workshop requested).switch ∷ (account_from workshop requested).openings ∷ [] ≡ 1 ∷ 2 ∷ []
  pub switches_letters : letters_from workshop [] requested ≡ B ∷ None ∷ D ∷ E ∷ F ∷ C ∷ D ∷ None ∷ []
  -- 'Set clock: standard line 4 with the old clock, line 5 with the new', 'Event (code): one line in its log', '.. standard line 11 or 10, mask 0 included',
  -- and 'Clear log (number): it then holds one line 255'
  pub lines :
      (account_from workshop (SetClock 50 ∷ Event 40 ∷ ClearAlarms 0 ∷ ClearErrors 0 ∷ ManualDisconnect ∷ ClearLog 2 ∷ [])).logs
      ≡ (line 1000 4 ∷ line 50 5 ∷ line 50 11 ∷ line 50 10 ∷ [])
      ∷ (line 50 255 ∷ [])
      ∷ (line 50 60 ∷ [])
      ∷ []
