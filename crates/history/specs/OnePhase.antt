-- Document 01's meter: one phase, so its limiter has one monitored value.
use Rattle.std.specs.Prelude.{ℕ, ◌/◌, ◌%◌, Bool, false, List, [], ◌∷◌, map, reverse, ℤ, pos, get_or}
use Rattle.events.specs.Line.{Line}
use Rattle.events.specs.Table.{EventRow}
use Rattle.calls.specs.declared.Letter.{Letter}
use Rattle.calls.specs.declared.Call.{Call}
use Rattle.calls.specs.declared.Call.TheVariants.{Sample, RemoteDisconnect, RemoteReconnect, ManualDisconnect, ManualReconnect, SetMode, SetLimiter}
use Rattle.calls.specs.declared.Call.TheVariants.{SetClock, Event, SetAlarmFilter, SetErrorFilter, ClearAlarms, ClearErrors, ClearLog, Script, SetGroups}
use Rattle.calls.specs.declared.Call.TheVariants.{SetProfile}
use Rattle.history.specs.Effects.{AnyFresh, remote_disconnect, remote_reconnect, manual_disconnect, manual_reconnect, alarms, errors, AnyCall, sample}
use Rattle.history.specs.Effects.{request, set_mode, set_limiter, set_clock, event, set_filter, clear_bits, clear_log, script, set_groups}
use Rattle.history.specs.Effects.{set_profile, Profile}
use Rattle.history.specs.Profile.{ProfileState}
use Rattle.history.specs.Account.{MonitoredValue, AnyAccount, any_account}
use Rattle.history.specs.Letters.{letter_after}

-- 'Fresh takes mode, threshold, Over, Under, clock ..'; the account is meant for settings that fresh accepts
pub record Fresh : Type 0 where
  pub mode : ℕ
  pub threshold : ℤ
  pub over : ℕ
  pub under : ℕ
  pub clock : ℕ

-- its one threshold
abbrev pub as_fresh : Fresh → AnyFresh
as_fresh f = record { mode = f.mode; thresholds = f.threshold ∷ []; over = f.over; under = f.under; clock = f.clock }

-- document 02, A3: '.. a count, then the ids two to a number, high half first'
abbrev pub ids_of : ℕ → ℕ → ℕ → ℕ → List ℕ
ids_of a b c d = a / 65536 ∷ a % 65536 ∷ b / 65536 ∷ b % 65536 ∷ c / 65536 ∷ c % 65536 ∷ d / 65536 ∷ d % 65536 ∷ []

-- document 02, A3: 'Kind 17 takes an id, an emergency threshold, an activation clock and a duration in samples'
abbrev pub profile_with : ℕ → ℤ → ℕ → ℕ → Profile
profile_with i t a d = record { id = i; threshold = t; activation = a; duration = d }

-- 'The fifteen calls': one power, one threshold; and document 02's two
abbrev pub as_call : Call → AnyCall
as_call (Sample p) = sample (p ∷ [])
as_call RemoteDisconnect = request remote_disconnect
as_call RemoteReconnect = request remote_reconnect
as_call ManualDisconnect = request manual_disconnect
as_call ManualReconnect = request manual_reconnect
as_call (SetMode n) = set_mode n
as_call (SetLimiter t o u) = set_limiter (t ∷ []) o u
as_call (SetClock n) = set_clock n
as_call (Event c) = event c
as_call (SetAlarmFilter n) = set_filter alarms n
as_call (SetErrorFilter n) = set_filter errors n
as_call (ClearAlarms n) = clear_bits alarms n
as_call (ClearErrors n) = clear_bits errors n
as_call (ClearLog n) = clear_log n
as_call (Script n) = script n
as_call (SetGroups n a b c d) = set_groups n (ids_of a b c d)
as_call (SetProfile i t a d) = set_profile (profile_with i t a d)

-- what the account holds, in the order of the page
pub record Account : Type 0 where
  pub mode : ℕ
  pub switch : ℕ
  pub openings : ℕ
  pub threshold : ℤ
  pub over : ℕ
  pub under : ℕ
  pub exceeded : Bool
  pub run : ℕ
  pub clock : ℕ
  pub alarms : ℕ
  pub alarm_filter : ℕ
  -- document 02, A6: 'Pages and accounts compare with it included'
  pub alarm_count : ℕ
  pub errors : ℕ
  pub error_filter : ℕ
  pub logs : List (List Line)
  pub groups : List ℕ
  pub profile : ProfileState

-- the first monitored value of a list
abbrev pub first_of : List MonitoredValue → MonitoredValue
first_of ms = get_or ms 0 (record { threshold = pos 0; exceeded = false; run = 0 })

-- the account of a meter with one monitored value
abbrev pub one_phase : AnyAccount → Account
one_phase a =
    let m = first_of a.monitored in
    record {
      mode = a.mode;
      switch = a.switch;
      openings = a.openings;
      threshold = m.threshold;
      over = a.over;
      under = a.under;
      exceeded = m.exceeded;
      run = m.run;
      clock = a.clock;
      alarms = a.alarms;
      alarm_filter = a.alarm_filter;
      alarm_count = a.alarm_count;
      errors = a.errors;
      error_filter = a.error_filter;
      logs = a.logs;
      groups = a.groups;
      profile = a.profile;
    }

-- 'Drawn from the list and its fresh settings ..': the list in the order of its calls; by an event table, document 01's being `built_in`
abbrev pub account : List EventRow → Fresh → List Call → Account
account rows f calls = one_phase (any_account rows (as_fresh f) (map as_call calls))

-- document 02, A2: '.. every call hands the letter on beside its answer': that of a call behind a list of calls, these in their order
abbrev pub letter : List EventRow → Fresh → List Call → Call → Letter
letter rows f calls c = letter_after rows (as_fresh f) (reverse (map as_call calls)) (as_call c)
