-- The account of the three-phase meter (document 02, A13): 'The limiter watches each phase and their exact sum, four lines in that order with a threshold
-- and Run each, Over and Under shared.' Its 'line' is a monitored value (see Effects of history): L1, L2, L3 and the sum.
use Rattle.std.specs.Prelude.{ℕ, false, List, [], ◌∷◌, map, reverse, ℤ, pos, ◌+ℤ◌, get_or}
use Rattle.events.specs.Line.{Line}
use Rattle.events.specs.Table.{EventRow}
use Rattle.calls.specs.declared.Letter.{Letter}
use Rattle.history.specs.Effects.{AnyFresh, remote_disconnect, remote_reconnect, manual_disconnect, manual_reconnect, alarms, errors, AnyCall, sample, request}
use Rattle.history.specs.Effects.{set_mode, set_limiter, set_clock, event, set_filter, clear_bits, clear_log, script}
use Rattle.history.specs.Account.{MonitoredValue, AnyAccount, any_account}
use Rattle.history.specs.Letters.{letter_after}
use Rattle.phases.specs.declared.ThreePhaseCall.{ThreePhaseCall}
use Rattle.phases.specs.declared.ThreePhaseCall.TheVariants.{Sample, RemoteDisconnect, RemoteReconnect, ManualDisconnect, ManualReconnect, SetMode}
use Rattle.phases.specs.declared.ThreePhaseCall.TheVariants.{SetLimiter, SetClock, Event, SetAlarmFilter, SetErrorFilter, ClearAlarms, ClearErrors}
use Rattle.phases.specs.declared.ThreePhaseCall.TheVariants.{ClearLog, Script}

-- 'Fresh and call 7 take four thresholds ..'; the account is meant for settings that fresh accepts
pub record ThreePhaseFresh : Type 0 where
  pub mode : ℕ
  pub l1 : ℤ
  pub l2 : ℤ
  pub l3 : ℤ
  pub sum : ℤ
  pub over : ℕ
  pub under : ℕ
  pub clock : ℕ

-- four numbers in the order of the monitored values: '.. each phase and their .. sum, four lines in that order ..'
abbrev pub in_order : ℤ → ℤ → ℤ → ℤ → List ℤ
in_order l1 l2 l3 sum = l1 ∷ l2 ∷ l3 ∷ sum ∷ []

-- its four thresholds
abbrev pub as_any_fresh : ThreePhaseFresh → AnyFresh
as_any_fresh f =
    record { mode = f.mode; thresholds = in_order f.l1 f.l2 f.l3 f.sum; over = f.over; under = f.under; clock = f.clock }

-- '.. their exact sum ..'
abbrev pub exact_sum : ℤ → ℤ → ℤ → ℤ
exact_sum l1 l2 l3 = (l1 +ℤ l2) +ℤ l3

-- document 01's calls: of a sample each phase and the sum, of a limiter setting the four thresholds
abbrev pub as_any_call : ThreePhaseCall → AnyCall
as_any_call (Sample a b c) = sample (in_order a b c (exact_sum a b c))
as_any_call RemoteDisconnect = request remote_disconnect
as_any_call RemoteReconnect = request remote_reconnect
as_any_call ManualDisconnect = request manual_disconnect
as_any_call ManualReconnect = request manual_reconnect
as_any_call (SetMode n) = set_mode n
as_any_call (SetLimiter a b c d o u) = set_limiter (in_order a b c d) o u
as_any_call (SetClock n) = set_clock n
as_any_call (Event c) = event c
as_any_call (SetAlarmFilter n) = set_filter alarms n
as_any_call (SetErrorFilter n) = set_filter errors n
as_any_call (ClearAlarms n) = clear_bits alarms n
as_any_call (ClearErrors n) = clear_bits errors n
as_any_call (ClearLog n) = clear_log n
as_any_call (Script n) = script n

-- what the account holds, in the order of the page: '.. the account holds a stretch and run for each ..'
pub record ThreePhaseAccount : Type 0 where
  pub mode : ℕ
  pub switch : ℕ
  pub openings : ℕ
  pub over : ℕ
  pub under : ℕ
  pub l1 : MonitoredValue
  pub l2 : MonitoredValue
  pub l3 : MonitoredValue
  pub sum : MonitoredValue
  pub clock : ℕ
  pub alarms : ℕ
  pub alarm_filter : ℕ
  -- document 02, A6: 'Pages and accounts compare with it included'
  pub alarm_count : ℕ
  pub errors : ℕ
  pub error_filter : ℕ
  pub logs : List (List Line)

-- monitored value k of a list
abbrev pub monitored_at : List MonitoredValue → ℕ → MonitoredValue
monitored_at ms k = get_or ms k (record { threshold = pos 0; exceeded = false; run = 0 })

-- the account of a meter with four monitored values
abbrev pub three_phase : AnyAccount → ThreePhaseAccount
three_phase a =
    record {
      mode = a.mode;
      switch = a.switch;
      openings = a.openings;
      over = a.over;
      under = a.under;
      l1 = monitored_at a.monitored 0;
      l2 = monitored_at a.monitored 1;
      l3 = monitored_at a.monitored 2;
      sum = monitored_at a.monitored 3;
      clock = a.clock;
      alarms = a.alarms;
      alarm_filter = a.alarm_filter;
      alarm_count = a.alarm_count;
      errors = a.errors;
      error_filter = a.error_filter;
      logs = a.logs;
    }

-- 'Drawn from the list and its fresh settings ..': the list in the order of its calls, by an event table
abbrev pub three_phase_account : List EventRow → ThreePhaseFresh → List ThreePhaseCall → ThreePhaseAccount
three_phase_account rows f calls = three_phase (any_account rows (as_any_fresh f) (map as_any_call calls))

-- document 02, A2: '.. every call hands the letter on beside its answer': that of a call behind a list of calls, these in their order
abbrev pub three_phase_letter : List EventRow → ThreePhaseFresh → List ThreePhaseCall → ThreePhaseCall → Letter
three_phase_letter rows f calls c = letter_after rows (as_any_fresh f) (reverse (map as_any_call calls)) (as_any_call c)
