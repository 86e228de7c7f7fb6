-- Histories for the sentences of the account, as lists of calls in their order, refused ones too (scripts and the 33rd line: see Examples); and some of a
-- meter with two monitored values.
use Rattle.std.specs.Prelude.{ℕ, ◌≡◌, Bool, true, false, List, [], ◌∷◌, ◌++◌, map, pos, negsuc, get_or, replicate}
use Rattle.std.proofs.Math.Option.{none, some}
use Rattle.events.specs.Line.{Line, line}
use Rattle.events.specs.Table.{EventRow, plain, alarming, both as both_bits, built_in}
use Rattle.calls.specs.declared.Letter.{Letter}
use Rattle.calls.specs.declared.Letter.TheVariants.{A, B, C, D, E, F, G, H, None}
use Rattle.calls.specs.declared.Call.{Call}
use Rattle.calls.specs.declared.Call.TheVariants.{Sample, RemoteDisconnect, RemoteReconnect, ManualDisconnect, ManualReconnect, SetMode, SetLimiter}
use Rattle.calls.specs.declared.Call.TheVariants.{SetClock, Event, SetAlarmFilter, SetErrorFilter, ClearAlarms, ClearErrors, ClearLog, Script, SetGroups}
use Rattle.calls.specs.declared.Call.TheVariants.{SetProfile}
use Rattle.history.specs.Effects.{remote_disconnect, manual_disconnect, manual_reconnect, AnyCall, sample, request, set_mode, set_limiter, sampled}
use Rattle.history.specs.Effects.{requested, reading}
use Rattle.history.specs.Profile.{ProfileState, no_profile, waiting, active}
use Rattle.history.specs.Switch.{decides}
use Rattle.history.specs.Account.{AnyAccount, account_of, any_account}
use Rattle.history.specs.OnePhase.{Fresh, as_fresh, as_call, profile_with, account, letter}
use Rattle.history.specs.Examples.{fresh, built_in_account, refusal, answer, codes}

-- what a call is answered in modes 0 to 6
abbrev pub answers_by_mode : Call → List ℕ
answers_by_mode c = map (λ m. answer (fresh m 0 1 1 0) [] c) (0 ∷ 1 ∷ 2 ∷ 3 ∷ 4 ∷ 5 ∷ 6 ∷ [])

-- a sample that is over
abbrev pub over_sample : Call
over_sample = Sample (pos 9)

-- one that is not
abbrev pub under_sample : Call
under_sample = Sample (pos 3)

-- the settings, Exceeded and Run
abbrev pub limiter_values : Fresh → List Call → ℕ × ℕ × Bool × ℕ
limiter_values f calls = let a = built_in_account f calls in (a.over, a.under, a.exceeded, a.run)

-- the switch after each call of a list
abbrev pub switch_after_each : Fresh → List Call → List Call → List ℕ
switch_after_each f calls [] = []
switch_after_each f calls (c ∷ cs) =
    let all = calls ++ (c ∷ []) in
    (built_in_account f all).switch ∷ switch_after_each f all cs

-- the switch, the openings, and the codes of the disconnect log (log 3: lists are counted from 0)
abbrev pub switch_shows : Fresh → List Call → ℕ × ℕ × List ℕ
switch_shows f calls = let a = built_in_account f calls in (a.switch, a.openings, codes (get_or a.logs 2 []))

-- the letter of each call of a list
abbrev pub letter_of_each : Fresh → List Call → List Call → List Letter
letter_of_each f calls [] = []
letter_of_each f calls (c ∷ cs) = letter built_in f calls c ∷ letter_of_each f (calls ++ (c ∷ [])) cs

-- alarms, their filter, errors, theirs
abbrev pub register_values : List Call → ℕ × ℕ × ℕ × ℕ
register_values calls = let a = built_in_account (fresh 1 3 1 1 1000) calls in (a.alarms, a.alarm_filter, a.errors, a.error_filter)

-- the three logs
abbrev pub log_lines : Fresh → List Call → List (List Line)
log_lines f calls = (built_in_account f calls).logs

-- document 02, A3: groups 1 and 7
abbrev pub groups : Call
groups = SetGroups 2 65543 0 0 0

-- an emergency profile of group 1: threshold, activation, duration
abbrev pub profile : ℕ → ℕ → ℕ → Call
profile t a d = SetProfile 1 (pos t) a d

-- a sample of 4 watts
abbrev pub four_watts : Call
four_watts = Sample (pos 4)

-- the disconnect log, in mode 5, with this threshold and Over and Under, from clock 1000
abbrev pub disconnect_log : ℕ → ℕ → List Call → List Line
disconnect_log t d calls = get_or (built_in_account (fresh 5 t d d 1000) (groups ∷ calls)).logs 2 []

-- the profile and its state after such a list
abbrev pub profile_after : ℕ → ℕ → List Call → ProfileState
profile_after t d calls = (built_in_account (fresh 5 t d d 1000) (groups ∷ calls)).profile

-- the account of a meter with two monitored values: mode 5, thresholds 3 and 5, Over and Under, clock 1000
abbrev pub two_values : ℕ → ℕ → List AnyCall → AnyAccount
two_values o u calls = any_account built_in (record { mode = 5; thresholds = pos 3 ∷ pos 5 ∷ []; over = o; under = u; clock = 1000 }) calls

-- a sample of both
abbrev pub both : ℕ → ℕ → AnyCall
both p q = sample (pos p ∷ pos q ∷ [])

-- Exceeded and Run of each, and the disconnect log (log 3: lists are counted from 0)
abbrev pub limiter_shows : AnyAccount → List (Bool × ℕ) × List Line
limiter_shows a = (map (λ m. (m.exceeded, m.run)) a.monitored, get_or a.logs 2 [])

-- document 02, A8: an event table of three lines, in which 6 is an event of the fraud log without a bit, and 20 and 68 have bits of their own
abbrev pub own_rows : List EventRow
own_rows = plain 2 6 ∷ alarming 1 20 5 ∷ both_bits 2 68 0 ∷ []

-- alarms, errors, and the codes of the logs, by that table
abbrev pub by_own_table : List Call → ℕ × ℕ × List (List ℕ)
by_own_table calls = let a = account own_rows (fresh 1 3 1 1 1000) calls in (a.alarms, a.errors, map codes a.logs)

-- document 02, A8: an event table of one line, whose bits are the alarms' last one and an error bit that the built-in table has not
abbrev pub high_rows : List EventRow
high_rows = record { code = 20; log = 3; alarm = some 31; error = some 16 } ∷ []

-- alarms, how many stand, and errors, by that table
abbrev pub by_high_bits : List Call → ℕ × ℕ × ℕ
by_high_bits calls = let a = account high_rows (fresh 1 3 1 1 1000) calls in (a.alarms, a.alarm_count, a.errors)

-- the histories, by the sentence that each shows
pub record Histories : Type 0 where
  -- 'a call's refusal follows from its numbers and the mode last accepted'
  pub refusals :
      map (answer (fresh 3 0 1 1 0) [])
      (SetMode 6 ∷ SetMode 7 ∷ SetMode 256 ∷ RemoteDisconnect ∷ ManualDisconnect ∷ Script 0 ∷ Script 1 ∷ Script 2 ∷ Script 257
      ∷ SetLimiter (pos 0) 86400 1 ∷ SetLimiter (negsuc 0) 0 0 ∷ SetLimiter (pos 0) 86401 1 ∷ SetLimiter (pos 0) 1 0
      ∷ Event 68 ∷ Event 3 ∷ Event 262 ∷ ClearLog 3 ∷ ClearLog 0 ∷ ClearLog 257 ∷ ClearLog 1 ∷ ClearLog 2 ∷ ClearLog 4 ∷ [])
      ≡ 0 ∷ 1 ∷ 1 ∷ 0 ∷ 2 ∷ 3 ∷ 0 ∷ 0 ∷ 3 ∷ 0 ∷ 4 ∷ 5 ∷ 5 ∷ 0 ∷ 6 ∷ 6 ∷ 0 ∷ 7 ∷ 7 ∷ 0 ∷ 0 ∷ 7 ∷ []
  -- 'calls 2–5, also by script: mode not in the switch table for that request'
  pub mode_rule :
      map answers_by_mode (RemoteDisconnect ∷ RemoteReconnect ∷ ManualDisconnect ∷ ManualReconnect ∷ Script 1 ∷ Script 2 ∷ [])
      ≡ (2 ∷ 0 ∷ 0 ∷ 0 ∷ 0 ∷ 0 ∷ 0 ∷ []) ∷ (2 ∷ 0 ∷ 0 ∷ 0 ∷ 0 ∷ 0 ∷ 0 ∷ []) ∷ (2 ∷ 0 ∷ 0 ∷ 2 ∷ 2 ∷ 0 ∷ 2 ∷ []) ∷ (2 ∷ 0 ∷ 0 ∷ 0 ∷ 0 ∷ 0 ∷ 0 ∷ [])
      ∷ (2 ∷ 0 ∷ 0 ∷ 0 ∷ 0 ∷ 0 ∷ 0 ∷ []) ∷ (2 ∷ 0 ∷ 0 ∷ 0 ∷ 0 ∷ 0 ∷ 0 ∷ []) ∷ []
  -- 'script | 3 | not 1 or 2', before the mode rule: in mode 0
  pub script_first : map (answer (fresh 0 0 1 1 0) []) (Script 0 ∷ Script 1 ∷ Script 2 ∷ Script 3 ∷ []) ≡ 3 ∷ 2 ∷ 2 ∷ 3 ∷ []
  -- the clock: 'last set, else fresh, plus samples since, held'
  pub clock_of_samples : (built_in_account (fresh 1 0 1 1 1000) (Sample (pos 0) ∷ Event 1 ∷ Sample (pos 0) ∷ [])).clock ≡ 1002
  pub clock_set : (built_in_account (fresh 1 0 1 1 1000) (Sample (pos 0) ∷ SetClock 50 ∷ Sample (pos 0) ∷ Sample (pos 0) ∷ [])).clock ≡ 52
  pub clock_held : (built_in_account (fresh 1 0 1 1 1000) (SetClock 4294967295 ∷ Sample (pos 0) ∷ [])).clock ≡ 4294967295
  -- 'it and the Over − 1 samples before it are all over'; power equal to the threshold is not over
  pub stretch_short : limiter_values (fresh 6 3 3 3 1000) (over_sample ∷ over_sample ∷ []) ≡ (3, 3, false, 2)
  pub stretch_full : limiter_values (fresh 6 3 3 3 1000) (over_sample ∷ over_sample ∷ over_sample ∷ []) ≡ (3, 3, true, 0)
  pub stretch_broken : limiter_values (fresh 6 3 3 3 1000) (over_sample ∷ over_sample ∷ under_sample ∷ over_sample ∷ []) ≡ (3, 3, false, 1)
  -- 'a full under stretch likewise with Under and samples not over'
  pub under_short : limiter_values (fresh 6 3 1 3 1000) (over_sample ∷ under_sample ∷ under_sample ∷ []) ≡ (1, 3, true, 2)
  pub under_full : limiter_values (fresh 6 3 1 3 1000) (over_sample ∷ under_sample ∷ under_sample ∷ under_sample ∷ []) ≡ (1, 3, false, 0)
  -- 'Exceeded: .. an over one sets 0'
  pub under_broken : limiter_values (fresh 6 3 1 3 1000) (over_sample ∷ under_sample ∷ under_sample ∷ over_sample ∷ []) ≡ (1, 3, true, 0)
  -- 'none of them before those were set', by place in the list: the same numbers set again begin anew
  pub setting_again : limiter_values (fresh 6 3 3 3 1000) (over_sample ∷ SetLimiter (pos 3) 3 3 ∷ []) ≡ (3, 3, false, 0)
  pub stretch_since_setting : limiter_values (fresh 6 3 2 2 1000) (over_sample ∷ SetLimiter (pos 3) 2 2 ∷ over_sample ∷ []) ≡ (2, 2, false, 1)
  -- 'Other calls between don't break it'
  pub stretch_between :
      limiter_values (fresh 6 3 3 3 1000)
      (over_sample ∷ Event 1 ∷ over_sample ∷ SetClock 5 ∷ ManualReconnect ∷ SetMode 2 ∷ ClearLog 1 ∷ SetAlarmFilter 0 ∷ ClearErrors 0 ∷ over_sample ∷ [])
      ≡ (3, 3, true, 0)
  -- 'the latest full stretch, under any settings': a setting leaves Exceeded
  pub exceeded_stays : limiter_values (fresh 6 3 1 1 1000) (over_sample ∷ SetLimiter (pos 100) 5 4 ∷ over_sample ∷ []) ≡ (5, 4, true, 1)
  -- 'by the settings in force at that sample'
  pub threshold_in_force : limiter_values (fresh 6 3 1 1 1000) (SetLimiter (pos 100) 1 1 ∷ over_sample ∷ []) ≡ (1, 1, false, 0)
  -- 'the last deciding call rules'
  pub manual_decides :
      switch_after_each (fresh 1 3 1 1 1000) [] (ManualDisconnect ∷ ManualDisconnect ∷ ManualReconnect ∷ ManualReconnect ∷ [])
      ≡ 2 ∷ 2 ∷ 1 ∷ 1 ∷ []
  -- 'over firing outside mode 0', 'under firing in mode 5 or 6'
  pub firings_decide :
      map (λ m. switch_after_each (fresh m 3 1 1 1000) [] (over_sample ∷ under_sample ∷ [])) (0 ∷ 1 ∷ 4 ∷ 5 ∷ 6 ∷ [])
      ≡ (1 ∷ 1 ∷ []) ∷ (2 ∷ 2 ∷ []) ∷ (2 ∷ 2 ∷ []) ∷ (2 ∷ 1 ∷ []) ∷ (2 ∷ 1 ∷ []) ∷ []
  -- 'A sample that changes Exceeded is a firing': none again while Exceeded
  pub firing_once : switch_after_each (fresh 1 3 1 1 1000) [] (over_sample ∷ SetMode 0 ∷ SetMode 1 ∷ over_sample ∷ []) ≡ 2 ∷ 1 ∷ 1 ∷ 1 ∷ []
  -- document 02, A5: 'A holder who reconnects with the kettle still on ..' is cut again, after Over samples and no sooner
  pub armed_again :
      switch_after_each (fresh 1 3 2 2 1000) [] (over_sample ∷ over_sample ∷ ManualReconnect ∷ over_sample ∷ over_sample ∷ []) ≡ 1 ∷ 2 ∷ 1 ∷ 1 ∷ 2 ∷ []
  pub armed_lines :
      switch_shows (fresh 1 3 2 2 1000) (over_sample ∷ over_sample ∷ ManualReconnect ∷ over_sample ∷ over_sample ∷ [])
      ≡ (2, 2, 65 ∷ 64 ∷ 61 ∷ 65 ∷ 64 ∷ [])
  -- document 02, A5: '.. acts as a limiter setting ..': of the numbers in force, not of the fresh ones
  pub armed_in_force :
      map (λ calls. limiter_values (fresh 1 3 5 5 1000) (SetLimiter (pos 3) 2 4 ∷ over_sample ∷ over_sample ∷ ManualReconnect ∷ calls))
      ((over_sample ∷ []) ∷ (over_sample ∷ over_sample ∷ []) ∷ [])
      ≡ (2, 4, false, 1) ∷ (2, 4, true, 0) ∷ []
  -- document 02, A5: '.. also ends Exceeded and sets Run 0 ..': Run too where it is not Exceeded
  pub armed_values_lem :
      map (limiter_values (fresh 1 3 3 3 1000))
      ((over_sample ∷ over_sample ∷ over_sample ∷ under_sample ∷ ManualReconnect ∷ []) ∷ (over_sample ∷ over_sample ∷ ManualDisconnect ∷ ManualReconnect ∷ []) ∷ [])
      ≡ (3, 3, false, 0) ∷ (3, 3, false, 0) ∷ []
  -- document 02, A5: '.. without a line': no 66, then or later
  pub armed_unlogged :
      switch_shows (fresh 5 3 1 2 1000) (over_sample ∷ ManualReconnect ∷ under_sample ∷ under_sample ∷ under_sample ∷ []) ≡ (1, 1, 65 ∷ 64 ∷ 61 ∷ [])
  -- document 02, A5: '.. that moves the switch ..': one that moves nothing leaves Exceeded and Run, with the switch Connected and inside a spell
  pub unmoved_leaves_run :
      map (limiter_values (fresh 1 3 3 3 1000))
      ((over_sample ∷ over_sample ∷ ManualReconnect ∷ [])
      ∷ (over_sample ∷ over_sample ∷ over_sample ∷ under_sample ∷ RemoteDisconnect ∷ ManualReconnect ∷ [])
      ∷ [])
      ≡ (3, 3, false, 2) ∷ (3, 3, true, 1) ∷ []
  -- document 02, A5: '.. and earlier full stretches no longer count', also after a later call 7
  pub armed_for_good :
      map (limiter_values (fresh 1 3 2 2 1000))
      ((over_sample ∷ over_sample ∷ ManualReconnect ∷ SetLimiter (pos 3) 2 2 ∷ [])
      ∷ (over_sample ∷ over_sample ∷ ManualReconnect ∷ over_sample ∷ SetLimiter (pos 3) 1 1 ∷ under_sample ∷ [])
      ∷ (over_sample ∷ ManualDisconnect ∷ ManualReconnect ∷ over_sample ∷ [])
      ∷ [])
      ≡ (2, 2, false, 0) ∷ (1, 1, false, 0) ∷ (2, 2, false, 1) ∷ []
  -- document 02, A5: '.. armed again by the key': a remote reconnect from Ready (A1) does not arm it, nor does mode 0
  pub armed_by_key_alone :
      map (λ calls. switch_after_each (fresh 2 3 1 1 1000) [] (over_sample ∷ (calls ++ (over_sample ∷ []))))
      ((ManualReconnect ∷ []) ∷ (RemoteReconnect ∷ []) ∷ (SetMode 0 ∷ SetMode 2 ∷ []) ∷ [])
      ≡ (2 ∷ 1 ∷ 2 ∷ []) ∷ (2 ∷ 1 ∷ 1 ∷ []) ∷ (2 ∷ 1 ∷ 1 ∷ 1 ∷ []) ∷ []
  pub values_by_key_alone :
      map (λ c. limiter_values (fresh 2 3 1 2 1000) (over_sample ∷ under_sample ∷ c ∷ [])) (ManualReconnect ∷ RemoteReconnect ∷ SetMode 0 ∷ [])
      ≡ (1, 2, false, 0) ∷ (1, 2, true, 1) ∷ (1, 2, true, 1) ∷ []
  -- 'a remote reconnect ending a spell in mode 2 or 4' gives 1, 'in another mode' 2
  pub reconnect_decides :
      map (λ m. switch_after_each (fresh m 3 1 1 1000) [] (RemoteDisconnect ∷ RemoteReconnect ∷ [])) (1 ∷ 2 ∷ 3 ∷ 4 ∷ 5 ∷ 6 ∷ [])
      ≡ (0 ∷ 2 ∷ []) ∷ (0 ∷ 1 ∷ []) ∷ (0 ∷ 2 ∷ []) ∷ (0 ∷ 1 ∷ []) ∷ (0 ∷ 2 ∷ []) ∷ (0 ∷ 2 ∷ []) ∷ []
  -- document 02, A1: in modes 2 and 4 'a remote reconnect now also moves 2 to 1', opened there by the limiter, and a Connected switch stays; 'The other
  -- modes keep their row'
  pub reconnect_outside :
      map (λ m. switch_after_each (fresh m 3 1 1 1000) [] (RemoteReconnect ∷ over_sample ∷ RemoteReconnect ∷ RemoteReconnect ∷ [])) (1 ∷ 2 ∷ 3 ∷ 4 ∷ 5 ∷ 6 ∷ [])
      ≡ (1 ∷ 2 ∷ 2 ∷ 2 ∷ []) ∷ (1 ∷ 2 ∷ 1 ∷ 1 ∷ []) ∷ (1 ∷ 2 ∷ 2 ∷ 2 ∷ []) ∷ (1 ∷ 2 ∷ 1 ∷ 1 ∷ []) ∷ (1 ∷ 2 ∷ 2 ∷ 2 ∷ []) ∷ (1 ∷ 2 ∷ 2 ∷ 2 ∷ []) ∷ []
  -- document 02, A1: '.. after the holder has opened by key ..', '.. and logs 63', also by script 2; it is no opening
  pub reconnect_from_ready :
      switch_shows (fresh 2 3 1 1 1000) (ManualDisconnect ∷ RemoteReconnect ∷ ManualDisconnect ∷ Script 2 ∷ [])
      ≡ (1, 2, 60 ∷ 63 ∷ 60 ∷ 63 ∷ [])
  -- the mode at the time of the call counts, and a change of mode leaves the switch
  pub mode_at_the_call : switch_after_each (fresh 1 3 1 1 1000) [] (RemoteDisconnect ∷ SetMode 2 ∷ RemoteReconnect ∷ SetMode 3 ∷ [])
      ≡ 0 ∷ 0 ∷ 1 ∷ 1 ∷ []
  -- 'Inside one the switch is 0'
  pub spell_inside :
      switch_after_each (fresh 5 3 1 1 1000) []
      (RemoteDisconnect ∷ ManualReconnect ∷ ManualDisconnect ∷ over_sample ∷ under_sample ∷ SetMode 6 ∷ RemoteDisconnect ∷ [])
      ≡ 0 ∷ 0 ∷ 0 ∷ 0 ∷ 0 ∷ 0 ∷ 0 ∷ []
  -- 'Calls inside a spell decide nothing': neither a manual request nor a sample that fires
  pub inside_a_spell :
      map (λ e. decides (as_fresh (fresh 5 3 1 1 1000)) e (requested remote_disconnect ∷ []))
      (requested manual_reconnect ∷ requested manual_disconnect ∷ sampled (pos 4 ∷ []) ∷ [])
      ≡ none ∷ none ∷ none ∷ []
  -- '.. or mode 0': the call that ends a spell is not inside it
  pub spell_ended_by_mode_zero : switch_after_each (fresh 1 3 1 1 1000) [] (ManualDisconnect ∷ RemoteDisconnect ∷ SetMode 0 ∷ []) ≡ 2 ∷ 0 ∷ 1 ∷ []
  -- document 02, A7: after a remote disconnect the key closes behind a remote reconnect and not before one; a further remote reconnect may follow
  pub disconnect_until_key :
      map
      (λ m. switch_after_each (fresh m 3 1 1 1000) [] (RemoteDisconnect ∷ ManualReconnect ∷ RemoteReconnect ∷ ManualReconnect ∷ RemoteReconnect ∷ []))
      (1 ∷ 3 ∷ 5 ∷ 6 ∷ [])
      ≡ replicate 4 (0 ∷ 0 ∷ 2 ∷ 1 ∷ 1 ∷ [])
  -- document 02, A7: so does an under firing in mode 5 or 6, and in no other mode
  pub disconnect_until_firing :
      map (λ m. switch_after_each (fresh m 3 1 1 1000) [] (over_sample ∷ RemoteDisconnect ∷ RemoteReconnect ∷ under_sample ∷ []))
      (1 ∷ 3 ∷ 5 ∷ 6 ∷ [])
      ≡ (2 ∷ 0 ∷ 2 ∷ 2 ∷ []) ∷ (2 ∷ 0 ∷ 2 ∷ 2 ∷ []) ∷ (2 ∷ 0 ∷ 2 ∷ 1 ∷ []) ∷ (2 ∷ 0 ∷ 2 ∷ 1 ∷ []) ∷ []
  -- document 02, A2: '.. a to h or none, b from 1 and c from 2 ..', also by script; 'The new move of A1 bears the letter a; accepting mode 0 answers none,
  -- and so does a call that is refused or moves nothing'
  pub letters_of_calls :
      letter_of_each (fresh 5 3 1 1 1000) []
      (over_sample ∷ under_sample ∷ over_sample ∷ ManualReconnect ∷ under_sample ∷ ManualReconnect ∷ ManualDisconnect ∷ RemoteDisconnect ∷ RemoteDisconnect
      ∷ RemoteReconnect ∷ RemoteReconnect ∷ ManualReconnect ∷ Script 1 ∷ Script 2 ∷ SetMode 2 ∷ Script 2 ∷ Script 3 ∷ RemoteDisconnect ∷ RemoteReconnect
      ∷ ManualDisconnect ∷ SetMode 0 ∷ ManualDisconnect ∷ [])
      ≡ G ∷ H ∷ G ∷ E ∷ None ∷ None ∷ F ∷ C ∷ None
      ∷ D ∷ None ∷ E ∷ B ∷ D ∷ None ∷ A ∷ None ∷ B ∷ A
      ∷ F ∷ None ∷ None ∷ []
  -- openings: a move out of 1 alone, and held
  pub openings_out_of_one :
      (built_in_account (fresh 2 3 1 1 1000) (ManualDisconnect ∷ RemoteDisconnect ∷ RemoteReconnect ∷ RemoteDisconnect ∷ [])).openings ≡ 2
  pub openings_held : (account_of (as_fresh (fresh 2 3 1 1 1000)) [] 4294967296).openings ≡ 4294967295
  -- 'an event raised it': codes 6 and 16 have bits 0 and 11 in both registers, code 40 has alarm bit 13, code 1 has none
  pub raised : register_values (Event 6 ∷ Event 16 ∷ Event 40 ∷ Event 1 ∷ []) ≡ (10241, 0, 2049, 0)
  -- 'A bit that is one in the filter at that moment is hidden and not set'
  pub hidden : register_values (SetAlarmFilter 1 ∷ Event 6 ∷ Event 7 ∷ SetAlarmFilter 0 ∷ []) ≡ (2, 0, 3, 0)
  -- '.. (003, 6.7, for errors; alarms alike)'
  pub hidden_errors : register_values (SetErrorFilter 1 ∷ Event 6 ∷ Event 7 ∷ SetErrorFilter 0 ∷ []) ≡ (3, 0, 2, 0)
  -- 'A later filter neither sets nor clears'
  pub later_filter : register_values (Event 6 ∷ SetAlarmFilter 1 ∷ SetErrorFilter 3 ∷ []) ≡ (1, 1, 1, 3)
  -- 'no clear of it .. came later'
  pub cleared : register_values (Event 6 ∷ Event 7 ∷ ClearAlarms 1 ∷ []) ≡ (2, 0, 3, 0)
  pub cleared_errors : register_values (Event 6 ∷ Event 7 ∷ ClearErrors 1 ∷ []) ≡ (3, 0, 2, 0)
  -- 'ones clear': also bits that the filter would hide by then
  pub cleared_hidden :
      register_values (Event 6 ∷ Event 7 ∷ SetAlarmFilter 1 ∷ SetErrorFilter 3 ∷ ClearAlarms 1 ∷ ClearErrors 2 ∷ []) ≡ (2, 1, 1, 3)
  pub raised_again : register_values (Event 6 ∷ ClearAlarms 1 ∷ ClearErrors 1 ∷ Event 6 ∷ []) ≡ (1, 0, 1, 0)
  -- 'error bit 0: nor clock setting'; alarm bit 0 and error bit 1 stand
  pub cleared_by_clock : register_values (Event 6 ∷ Event 7 ∷ SetClock 5 ∷ []) ≡ (3, 0, 2, 0)
  pub cleared_by_clock_hidden : register_values (Event 6 ∷ SetErrorFilter 1 ∷ SetClock 5 ∷ []) ≡ (1, 0, 0, 1)
  -- document 02, A8: '.. a bit of 32 to 254' is refused, so bits up to 31 are raised, counted and cleared
  pub high_bits :
      map by_high_bits ((Event 20 ∷ []) ∷ (SetAlarmFilter 2147483648 ∷ Event 20 ∷ []) ∷ (Event 20 ∷ ClearAlarms 2147483648 ∷ ClearErrors 65536 ∷ []) ∷ [])
      ≡ (2147483648, 1, 65536) ∷ (0, 0, 65536) ∷ (0, 0, 0) ∷ []
  -- document 02, A6: three alarms, one raised twice; a hidden one is not raised; one that a later filter would hide stands; a clear of one
  -- that stands and one that does not, and one of every bit
  pub alarm_counts :
      map (λ calls. (built_in_account (fresh 1 3 1 1 1000) (Event 6 ∷ Event 16 ∷ Event 40 ∷ Event 6 ∷ calls)).alarm_count)
      ([] ∷ (SetAlarmFilter 2 ∷ Event 7 ∷ []) ∷ (SetAlarmFilter 1 ∷ []) ∷ (ClearAlarms 3 ∷ []) ∷ (ClearAlarms 4294967295 ∷ []) ∷ [])
      ≡ 3 ∷ 3 ∷ 3 ∷ 2 ∷ 0 ∷ []
  -- document 02, A8: 'a list's account reads call 9 by the table it began with'; 7 it does not list, and error bit 0 goes with the clock set,
  -- whichever event raised it
  pub own_table :
      map by_own_table ((Event 6 ∷ Event 7 ∷ Event 20 ∷ []) ∷ (Event 68 ∷ []) ∷ (Event 68 ∷ SetClock 5 ∷ []) ∷ [])
      ≡ (32, 0, (20 ∷ []) ∷ (6 ∷ []) ∷ [] ∷ []) ∷ (1, 1, [] ∷ (68 ∷ []) ∷ [] ∷ []) ∷ (1, 0, (4 ∷ 5 ∷ []) ∷ (68 ∷ []) ∷ [] ∷ []) ∷ []
  -- call 8: 'standard line 4 with the old clock, line 5 with the new'; calls 12, 13: 'standard line 11 or 10, mask 0 included';
  -- call 9: 'one line in its log'
  pub lines_standard :
      log_lines (fresh 1 3 1 1 1000)
      (SetClock 50 ∷ ClearAlarms 0 ∷ Sample (pos 0) ∷ ClearErrors 0 ∷ Event 6 ∷ Event 40 ∷ Event 68 ∷ SetErrorFilter 1 ∷ Event 6 ∷ [])
      ≡ (line 1000 4 ∷ line 50 5 ∷ line 50 11 ∷ line 51 10 ∷ line 51 6 ∷ line 51 6 ∷ []) ∷ (line 51 40 ∷ []) ∷ (line 51 68 ∷ []) ∷ []
  -- lines 4 and 5 where the clock stays, an event whose bits are all hidden, lines 11 and 10 where the mask is not 0
  pub lines_whatever :
      get_or (log_lines (fresh 1 3 1 1 1000) (SetClock 1000 ∷ SetAlarmFilter 1 ∷ SetErrorFilter 1 ∷ Event 6 ∷ ClearAlarms 1 ∷ ClearErrors 4294967295 ∷ [])) 0 []
      ≡ line 1000 4 ∷ line 1000 5 ∷ line 1000 6 ∷ line 1000 11 ∷ line 1000 10 ∷ []
  -- 65 and 66 whatever the mode and position, 64 and 69 with a move alone; every line at the clock after the sample
  pub lines_of_firings :
      map (λ c. get_or (log_lines (fresh 5 3 1 1 1000) (c ∷ over_sample ∷ under_sample ∷ [])) 2 [])
      (Sample (pos 0) ∷ RemoteDisconnect ∷ SetMode 0 ∷ SetMode 1 ∷ [])
      ≡ (line 1002 65 ∷ line 1002 64 ∷ line 1003 66 ∷ line 1003 69 ∷ [])
      ∷ (line 1000 62 ∷ line 1001 65 ∷ line 1002 66 ∷ [])
      ∷ (line 1001 65 ∷ line 1002 66 ∷ [])
      ∷ (line 1001 65 ∷ line 1001 64 ∷ line 1002 66 ∷ [])
      ∷ []
  -- the lines of the switch table, none where nothing moves; mode 0 logs 63 'if it was not 1'; call 7 logs 67
  pub lines_of_moves :
      codes (get_or
      (log_lines (fresh 1 3 1 1 1000)
      (ManualReconnect ∷ ManualDisconnect ∷ ManualDisconnect ∷ ManualReconnect ∷ RemoteDisconnect ∷ RemoteDisconnect ∷ RemoteReconnect
      ∷ RemoteReconnect ∷ RemoteDisconnect ∷ SetMode 2 ∷ RemoteReconnect ∷ SetMode 0 ∷ SetMode 1 ∷ ManualDisconnect ∷ SetMode 0 ∷ SetLimiter (pos 3) 1 1 ∷ []))
      2 [])
      ≡ 60 ∷ 61 ∷ 62 ∷ 59 ∷ 62 ∷ 63 ∷ 60 ∷ 63 ∷ 67 ∷ []
  -- 'since that log was last cleared, its 255 included'
  pub lines_since_clear :
      log_lines (fresh 1 3 1 1 1000) (Event 1 ∷ Event 41 ∷ ClearLog 1 ∷ Sample (pos 0) ∷ Event 2 ∷ ClearLog 3 ∷ [])
      ≡ (line 1000 255 ∷ line 1001 2 ∷ []) ∷ (line 1000 41 ∷ []) ∷ (line 1001 255 ∷ []) ∷ []
  -- 'refused calls count for nothing', 'A list may be empty'
  pub refused_counts_nothing :
      built_in_account (fresh 3 3 1 1 1000) (SetMode 7 ∷ ManualDisconnect ∷ SetLimiter (negsuc 0) 1 1 ∷ Event 3 ∷ ClearLog 0 ∷ Script 3
      ∷ SetGroups 9 65536 0 0 0 ∷ SetProfile 0 (pos 0) 0 1 ∷ [])
      ≡ built_in_account (fresh 3 3 1 1 1000) []
  pub empty :
      built_in_account (fresh 3 70 8 9 1000) []
      ≡ record {
        mode = 3;
        switch = 1;
        openings = 0;
        threshold = pos 70;
        over = 8;
        under = 9;
        exceeded = false;
        run = 0;
        clock = 1000;
        alarms = 0;
        alarm_filter = 0;
        alarm_count = 0;
        errors = 0;
        error_filter = 0;
        logs = [] ∷ [] ∷ [] ∷ [];
        groups = [];
        profile = no_profile;
      }
  -- document 02: '.. the account holds a stretch and run for each ..' (its 'line' is a monitored value, here one of two), each by its own threshold
  pub several_stretches :
      map (λ calls. limiter_shows (two_values 2 2 calls)) ((both 4 4 ∷ []) ∷ (both 4 9 ∷ both 0 9 ∷ both 9 9 ∷ []) ∷ [])
      ≡ ((false, 1) ∷ (false, 0) ∷ [], []) ∷ ((false, 1) ∷ (true, 0) ∷ [], line 1002 65 ∷ line 1002 64 ∷ []) ∷ []
  -- document 02: 'Each firing logs 65 or 66 in line order; .. g is tried once if a line fired over, h once if a line fired under and none remains exceeded'
  pub several_firings :
      get_or (two_values 1 1 (both 9 9 ∷ both 0 9 ∷ both 0 0 ∷ both 9 0 ∷ set_mode 0 ∷ set_mode 5 ∷ both 0 9 ∷ [])).logs 2 []
      ≡ line 1001 65 ∷ line 1001 65 ∷ line 1001 64
      ∷ line 1002 66
      ∷ line 1003 66 ∷ line 1003 69
      ∷ line 1004 65 ∷ line 1004 64 ∷ line 1004 63
      ∷ line 1005 66 ∷ line 1005 65 ∷ line 1005 64
      ∷ []
  -- document 02: 'Fresh and call 7 take four thresholds, 4 if one is negative ..'; here two
  pub several_thresholds :
      map (λ ts. refusal (reading built_in 5 [] (set_limiter ts 1 1)))
      ((pos 0 ∷ pos 0 ∷ []) ∷ (pos 0 ∷ negsuc 0 ∷ []) ∷ (negsuc 0 ∷ pos 0 ∷ []) ∷ (negsuc 0 ∷ negsuc 0 ∷ []) ∷ [])
      ≡ 0 ∷ 4 ∷ 4 ∷ 4 ∷ []
  -- document 02: '.. call 7 sets each Run 0 and logs one 67'
  pub several_runs :
      map (λ calls. limiter_shows (two_values 3 3 (both 9 9 ∷ both 9 9 ∷ calls))) ([] ∷ (set_limiter (pos 0 ∷ pos 0 ∷ []) 3 3 ∷ []) ∷ [])
      ≡ ((false, 2) ∷ (false, 2) ∷ [], []) ∷ ((false, 0) ∷ (false, 0) ∷ [], line 1002 67 ∷ []) ∷ []
  -- document 02: 'A5's reconnect acts on all four lines ..', here on both: each is no longer Exceeded, has Run 0, and may fire again
  pub several_armed :
      map (λ calls. limiter_shows (two_values 2 2 (both 9 9 ∷ both 9 9 ∷ both 0 9 ∷ calls)))
      ([] ∷ (request manual_reconnect ∷ []) ∷ (request manual_reconnect ∷ both 0 9 ∷ both 0 9 ∷ []) ∷ [])
      ≡ ((true, 1) ∷ (true, 0) ∷ [], line 1002 65 ∷ line 1002 65 ∷ line 1002 64 ∷ [])
      ∷ ((false, 0) ∷ (false, 0) ∷ [], line 1002 65 ∷ line 1002 65 ∷ line 1002 64 ∷ line 1003 61 ∷ [])
      ∷ (
        (false, 0) ∷ (true, 0) ∷ [],
        line 1002 65 ∷ line 1002 65 ∷ line 1002 64 ∷ line 1003 61 ∷ line 1005 65 ∷ line 1005 64 ∷ [],
      )
      ∷ []
  -- document 02, A3, of two monitored values: an emergency threshold that is the first one's own changes the second alone, with one 67 at the start and
  -- one at the end
  pub several_changed :
      map (λ calls. limiter_shows (two_values 9 9 (both 9 9 ∷ as_call groups ∷ as_call (profile 3 0 2) ∷ calls)))
      ((both 9 9 ∷ []) ∷ (both 9 9 ∷ both 4 4 ∷ []) ∷ [])
      ≡ ((false, 2) ∷ (false, 1) ∷ [], line 1002 67 ∷ [])
      ∷ ((false, 3) ∷ (false, 0) ∷ [], line 1002 67 ∷ line 1003 67 ∷ [])
      ∷ []
  -- document 02, A3: '14, more than eight ids'; judged whole; '.. two to a number, high half first', those past the count ignored, order and doubles kept
  pub groups_taken :
      map (λ n. answer (fresh 5 9 2 2 1000) [] (SetGroups n 1 2 3 4)) (0 ∷ 8 ∷ 9 ∷ 256 ∷ 65544 ∷ 4294967295 ∷ []) ≡ 0 ∷ 0 ∷ 14 ∷ 14 ∷ 14 ∷ 14 ∷ []
  pub groups_kept :
      map (λ c. (built_in_account (fresh 5 9 2 2 1000) (c ∷ [])).groups)
      (SetGroups 8 65538 196612 327686 458760 ∷ SetGroups 3 458753 458759 9 9 ∷ SetGroups 0 1 2 3 4 ∷ [])
      ≡ (1 ∷ 2 ∷ 3 ∷ 4 ∷ 5 ∷ 6 ∷ 7 ∷ 8 ∷ []) ∷ (7 ∷ 1 ∷ 7 ∷ []) ∷ [] ∷ []
  -- document 02, A3: '15, id not in the group ..; 16, duration outside 1 to 604,800, or threshold negative, after 15': the id whole, and 0 with no groups
  pub profile_taken :
      map (answer (fresh 5 9 2 2 1000) (groups ∷ []))
      (SetProfile 7 (pos 0) 0 604800 ∷ SetProfile 2 (pos 0) 0 0 ∷ SetProfile 65537 (pos 0) 0 1 ∷ SetProfile 0 (pos 0) 0 1 ∷ SetProfile 1 (pos 0) 0 0
      ∷ SetProfile 1 (pos 0) 0 604801 ∷ SetProfile 1 (pos 0) 0 4294967295 ∷ SetProfile 1 (negsuc 0) 0 1 ∷ SetProfile 1 (pos 2147483647) 0 1
      ∷ SetProfile 2 (negsuc 0) 0 1 ∷ [])
      ≡ 0 ∷ 15 ∷ 15 ∷ 15 ∷ 16 ∷ 16 ∷ 16 ∷ 16 ∷ 0 ∷ 15 ∷ []
  pub profile_without_groups : answer (fresh 5 9 2 2 1000) [] (SetProfile 0 (pos 0) 0 1) ≡ 15
  -- document 02, A3: '.. 15 follows from the groups last accepted': group 1 alone after the second kind 16, and as before after one that is refused
  pub groups_last :
      map (λ c. answer (fresh 5 9 2 2 1000) (groups ∷ c ∷ []) (SetProfile 7 (pos 0) 0 1)) (SetGroups 1 65536 0 0 0 ∷ SetGroups 9 65536 0 0 0 ∷ []) ≡ 15 ∷ 0 ∷ []
  -- document 02, A3: a sample that begins and ends a profile: 67 '.. at the start before the sample is judged ..', over firing, g, 67 '.. at the end ..'
  pub four_lines : disconnect_log 9 1 (profile 3 0 1 ∷ four_watts ∷ []) ≡ line 1001 67 ∷ line 1001 65 ∷ line 1001 64 ∷ line 1001 67 ∷ []
  pub four_lines_under :
      disconnect_log 3 1 (four_watts ∷ profile 9 0 1 ∷ four_watts ∷ [])
      ≡ line 1001 65 ∷ line 1001 64 ∷ line 1002 67 ∷ line 1002 66 ∷ line 1002 69 ∷ line 1002 67 ∷ []
  -- document 02, A3: '.. after the last governed sample the state is 0 and the account has no profile', and Exceeded stays
  pub profile_gone : profile_after 9 1 (profile 3 0 1 ∷ four_watts ∷ []) ≡ no_profile
  pub exceeded_outlives : limiter_values (fresh 5 9 1 1 1000) (groups ∷ profile 3 0 1 ∷ four_watts ∷ []) ≡ (1, 1, true, 0)
  -- document 02, A3: '.. or at a kind 17 that replaces an active profile': back to the normal threshold, and the next start is another change
  pub over_active :
      disconnect_log 9 3 (profile 3 0 5 ∷ four_watts ∷ profile 3 0 5 ∷ four_watts ∷ []) ≡ line 1001 67 ∷ line 1001 67 ∷ line 1002 67 ∷ []
  pub over_active_state :
      map (profile_after 9 3) ((profile 3 0 5 ∷ four_watts ∷ profile 2 0 6 ∷ []) ∷ (profile 3 0 5 ∷ four_watts ∷ profile 2 0 6 ∷ four_watts ∷ []) ∷ [])
      ≡ waiting (profile_with 1 (pos 2) 0 6) ∷ active (profile_with 1 (pos 2) 0 6) 5 ∷ []
  -- document 02, A3: with the normal threshold as its own there is no change, and the stretch runs on
  pub over_active_equal :
      disconnect_log 3 3 (profile 3 0 5 ∷ four_watts ∷ profile 8 4294967295 5 ∷ four_watts ∷ four_watts ∷ []) ≡ line 1003 65 ∷ line 1003 64 ∷ []
  -- document 02, A3: 'It replaces any earlier profile and waits': over a waiting one never a change
  pub over_waiting :
      disconnect_log 9 3 (profile 3 2000 5 ∷ four_watts ∷ profile 1 2000 7 ∷ four_watts ∷ []) ≡ []
  pub over_waiting_state :
      profile_after 9 3 (profile 3 2000 5 ∷ four_watts ∷ profile 1 2000 7 ∷ four_watts ∷ []) ≡ waiting (profile_with 1 (pos 1) 2000 7)
  -- document 02, A3: 'Call 7 sets the normal threshold and keeps its own Run 0 and single 67': the end compares with the normal threshold of that moment
  pub limiter_during :
      map (disconnect_log 9 3)
      ((profile 3 0 2 ∷ four_watts ∷ SetLimiter (pos 3) 3 3 ∷ four_watts ∷ four_watts ∷ four_watts ∷ [])
      ∷ (profile 9 0 2 ∷ four_watts ∷ SetLimiter (pos 5) 3 3 ∷ four_watts ∷ [])
      ∷ [])
      ≡ (line 1001 67 ∷ line 1001 67 ∷ line 1004 65 ∷ line 1004 64 ∷ []) ∷ (line 1001 67 ∷ line 1002 67 ∷ []) ∷ []
  -- document 02, A3: 'Whenever the threshold in force becomes another number ..': with equal thresholds a stretch runs on across start and end
  pub equal_thresholds : disconnect_log 3 3 (four_watts ∷ profile 3 0 1 ∷ four_watts ∷ four_watts ∷ []) ≡ line 1003 65 ∷ line 1003 64 ∷ []
  -- document 02, A3: the starting sample belongs to the new stretch, the last governed one does not to the next
  pub change_places :
      limiter_values (fresh 6 1 3 1 0) (groups ∷ profile 3 0 6 ∷ Sample (pos 9) ∷ [])
      ∷ limiter_values (fresh 0 2 4 2 0) (groups ∷ profile 3 0 1 ∷ four_watts ∷ [])
      ∷ []
      ≡ (3, 1, false, 1) ∷ (4, 2, false, 0) ∷ []
  -- document 02, A3: '.. the first sample whose advanced clock has reached activation ..': activation past, at the sample's clock, after it; a held clock
  pub activations :
      map (λ a. profile_after 9 2 (profile 3 a 2 ∷ four_watts ∷ [])) (0 ∷ 1001 ∷ 1002 ∷ [])
      ≡ active (profile_with 1 (pos 3) 0 2) 1 ∷ active (profile_with 1 (pos 3) 1001 2) 1 ∷ waiting (profile_with 1 (pos 3) 1002 2) ∷ []
  pub held_activation :
      (built_in_account (fresh 5 9 2 2 4294967295) (groups ∷ profile 3 4294967295 2 ∷ four_watts ∷ [])).profile ≡ active (profile_with 1 (pos 3) 4294967295 2) 1
  pub held_end : (built_in_account (fresh 5 9 2 2 4294967295) (groups ∷ profile 3 4294967295 2 ∷ four_watts ∷ four_watts ∷ [])).profile ≡ no_profile
  -- document 02, A3: 'It goes active with the first sample ..': no clock setting starts it
  pub clock_forward :
      map (profile_after 9 2) ((profile 3 2000 4 ∷ SetClock 3000 ∷ []) ∷ (profile 3 2000 4 ∷ SetClock 3000 ∷ four_watts ∷ []) ∷ [])
      ≡ waiting (profile_with 1 (pos 3) 2000 4) ∷ active (profile_with 1 (pos 3) 2000 4) 3 ∷ []
  -- document 02, A3: '.. setting the clock back or new groups don't end it'; set back, the clock delays one that waits
  pub clock_back :
      map (profile_after 9 2)
      ((profile 3 1002 4 ∷ four_watts ∷ SetClock 500 ∷ four_watts ∷ []) ∷ (profile 3 1002 4 ∷ four_watts ∷ four_watts ∷ SetClock 500 ∷ four_watts ∷ []) ∷ [])
      ≡ waiting (profile_with 1 (pos 3) 1002 4) ∷ active (profile_with 1 (pos 3) 1002 4) 2 ∷ []
  pub groups_gone :
      map (profile_after 9 2)
      ((profile 3 1002 2 ∷ SetGroups 0 0 0 0 0 ∷ four_watts ∷ four_watts ∷ []) ∷ (profile 3 0 3 ∷ four_watts ∷ SetGroups 0 0 0 0 0 ∷ four_watts ∷ []) ∷ [])
      ≡ active (profile_with 1 (pos 3) 1002 2) 1 ∷ active (profile_with 1 (pos 3) 0 3) 1 ∷ []
  -- document 02, A3: a kind 17 that is refused leaves the one that is active
  pub refused_over_active :
      profile_after 9 2 (profile 3 0 3 ∷ four_watts ∷ SetProfile 2 (pos 0) 0 1 ∷ SetProfile 1 (pos 0) 0 0 ∷ []) ≡ active (profile_with 1 (pos 3) 0 3) 2
  -- document 02, A5 with A3: the key arms the limiter and leaves the profile
  pub key_during :
      codes (disconnect_log 9 2 (profile 3 0 6 ∷ four_watts ∷ four_watts ∷ ManualReconnect ∷ four_watts ∷ four_watts ∷ [])) ≡ 67 ∷ 65 ∷ 64 ∷ 61 ∷ 65 ∷ 64 ∷ []
  pub key_leaves_profile :
      profile_after 9 2 (profile 3 0 6 ∷ four_watts ∷ four_watts ∷ ManualReconnect ∷ four_watts ∷ four_watts ∷ []) ≡ active (profile_with 1 (pos 3) 0 6) 2
  -- document 02, A3: 'Call 7 sets the normal threshold ..': that is what the account holds, also while a profile is active
  pub normal_shown :
      map (λ calls. (built_in_account (fresh 5 9 2 2 1000) (groups ∷ profile 3 0 5 ∷ four_watts ∷ calls)).threshold) ([] ∷ (SetLimiter (pos 7) 2 2 ∷ []) ∷ [])
      ≡ pos 9 ∷ pos 7 ∷ []
