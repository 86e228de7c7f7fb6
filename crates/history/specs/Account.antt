-- The account of a list of calls from a fresh meter, with any number of monitored values.
use Rattle.std.specs.Prelude.{ℕ, suc, Bool, not, ◌&&◌, cond, List, [], ◌∷◌, map, reverse, eqb, ℤ}
use Rattle.base.specs.Numbers.{held}
use Rattle.events.specs.Line.{Line}
use Rattle.events.specs.Table.{EventRow}
use Rattle.history.specs.Effects.{AnyCall, AnyFresh, alarms, errors, Reading, refused, accepted, reading}
use Rattle.history.specs.Last.{History, mode_of, limits_of, threshold_of, filter_of, clock_of}
use Rattle.history.specs.Profile.{groups_of, ProfileState, profile_state}
use Rattle.history.specs.Limiter.{monitored_values}
use Rattle.history.specs.Switch.{switch_of, exceeded_of, run_of}
use Rattle.history.specs.Registers.{bits_of, alarm_count_of}
use Rattle.history.specs.Logs.{log_of}

-- what the account holds of a monitored value: 'Exceeded, yes or no. Run', and its threshold
pub record MonitoredValue : Type 0 where
  pub threshold : ℤ
  pub exceeded : Bool
  pub run : ℕ

-- what the account holds
pub record AnyAccount : Type 0 where
  pub mode : ℕ
  pub switch : ℕ
  pub openings : ℕ
  pub over : ℕ
  pub under : ℕ
  pub monitored : List MonitoredValue
  pub clock : ℕ
  pub alarms : ℕ
  pub alarm_filter : ℕ
  -- document 02, A6: 'Pages and accounts compare with it included'
  pub alarm_count : ℕ
  pub errors : ℕ
  pub error_filter : ℕ
  pub logs : List (List Line)
  pub groups : List ℕ
  pub profile : ProfileState

-- '.. refused calls count for nothing ..'
abbrev pub grown : Reading → History → History
grown (refused n) h = h
grown (accepted e) h = e ∷ h

-- the accepted calls of a list of calls, both newest first
unfoldable pub accepted_calls : List EventRow → AnyFresh → List AnyCall → History
accepted_calls rows f [] = []
accepted_calls rows f (c ∷ cs) =
    (let h = accepted_calls rows f cs in grown (reading rows (mode_of f h) (groups_of h) c) h)

-- the switch after a list of calls, newest first
abbrev pub switch_after : List EventRow → AnyFresh → List AnyCall → ℕ
switch_after rows f cs = switch_of f (accepted_calls rows f cs)

-- the switch goes from 1 to another position
abbrev pub opens : ℕ → ℕ → Bool
opens before after = eqb before 1 && not (eqb after 1)

-- 'Openings: prefixes with switch 1 whose next call gives another ..' (held in the account)
unfoldable pub openings : List EventRow → AnyFresh → List AnyCall → ℕ
openings rows f [] = 0
openings rows f (c ∷ cs) =
    cond (opens (switch_after rows f cs) (switch_after rows f (c ∷ cs))) (suc (openings rows f cs)) (openings rows f cs)

-- of monitored value k
abbrev pub monitored_of : AnyFresh → History → ℕ → MonitoredValue
monitored_of f h k = record { threshold = threshold_of f k h; exceeded = exceeded_of f k h; run = run_of f k h }

-- the account of a history with a number of openings, which are counted over the whole list, refused calls too
abbrev pub account_of : AnyFresh → History → ℕ → AnyAccount
account_of f h opened =
    record {
      mode = mode_of f h;
      switch = switch_of f h;
      openings = held opened;
      over = (limits_of f h).over;
      under = (limits_of f h).under;
      monitored = map (monitored_of f h) (monitored_values f);
      clock = clock_of f h;
      alarms = bits_of alarms h;
      alarm_filter = filter_of alarms h;
      alarm_count = alarm_count_of h;
      errors = bits_of errors h;
      error_filter = filter_of errors h;
      logs = map (λ n. log_of f n h) (1 ∷ 2 ∷ 3 ∷ []);
      groups = groups_of h;
      profile = profile_state f h;
    }

-- the account of a list of calls, newest first
abbrev pub account_after : List EventRow → AnyFresh → List AnyCall → AnyAccount
account_after rows f cs = account_of f (accepted_calls rows f cs) (openings rows f cs)

-- 'Drawn from the list and its fresh settings ..': the list in the order of its calls
abbrev pub any_account : List EventRow → AnyFresh → List AnyCall → AnyAccount
any_account rows f calls = account_after rows f (reverse calls)
