-- 'Fresh takes mode, threshold, Over, Under, clock: switch 1, not Exceeded, all else zero or empty.'
use Rattle.std.specs.Prelude.{◌≡◌, false, [], ◌∷◌, ℕ, pos, replicate}
use Rattle.calls.specs.declared.Answer.{Answer}
use Rattle.calls.specs.declared.Answer.TheVariants.{Accepted, Refused}
use Rattle.calls.specs.declared.Letter.TheVariants.{None}
use Rattle.history.specs.OnePhase.{Fresh, as_fresh}
use Rattle.machine.specs.Values.{State}
use Rattle.machine.specs.Fresh.{fresh_values}
use Rattle.meter.specs.declared.Meter.{Meter}
use Rattle.meter.specs.declared.Outcome.{Outcome}
use Rattle.meter.specs.State.{record_of}
use Rattle.meter.specs.Machine.{refused_with}
use Rattle.meter.specs.Settings.{settings_of, fresh_answer, Settings, SettingsInRange}

-- 'switch 1, not Exceeded, all else zero or empty'
abbrev pub fresh_state : Fresh → State
fresh_state f = fresh_values (as_fresh f)

-- 'mode 0, threshold 0, durations 1, clock 0'
abbrev pub least_settings : Fresh
least_settings = settings_of 0 (pos 0) 1 1 0

-- 'A refused fresh or reader returns the meter of mode 0, threshold 0, durations 1, clock 0.'
abbrev pub refused_outcome : ℕ → Outcome
refused_outcome n = refused_with (record_of (fresh_state least_settings)) n

-- the settings of the meter that fresh hands back
abbrev pub settings_by : Answer → Fresh → Fresh
settings_by Accepted f = f
settings_by (Refused n) f = least_settings

-- fresh: the meter of its settings, or a refusal's
abbrev pub fresh_of : Fresh → Outcome
fresh_of f = record { meter = record_of (fresh_state (settings_by (fresh_answer f) f)); answer = fresh_answer f; letter = None }

-- 'the meter of mode 0, threshold 0, durations 1, clock 0', field by field: 'switch 1, not Exceeded, all else zero or empty'
abbrev pub least_meter : Meter
least_meter =
    record {
      control = record { mode = 0; state = 1; openings = 0 };
      limiter = record { threshold = pos 0; over = 1; under = 1; exceeded = false; run = 0 };
      clock = 0;
      alarms = record { register = record { bits = 0; filter = 0 }; count = 0 };
      errors = record { bits = 0; filter = 0 };
      logs = record { counts = 0 ∷ 0 ∷ 0 ∷ []; clocks = replicate 96 0; codes = replicate 96 0 };
      emergency = record { id = 0; threshold = pos 0; activation = 0; duration = 0; left = 0; state = 0; count = 0; ids = replicate 8 0 };
    }

-- what fresh accepts and refuses
pub record FreshLaws : Type 0 where
  -- accepted exactly for settings in their ranges ..
  pub settings_accepted : (f : Fresh) → Settings f → (fresh_of f).answer ≡ Accepted
  pub accepted_settings : (f : Fresh) → SettingsInRange f → (fresh_of f).answer ≡ Accepted → Settings f
  -- .. and then with the fresh meter of these settings
  pub accepted_meter : (f : Fresh) → (fresh_of f).answer ≡ Accepted → (fresh_of f).meter ≡ record_of (fresh_state f)
  -- 'A refused fresh .. returns the meter of mode 0, threshold 0, durations 1, clock 0', whose settings fresh accepts
  pub refused_meter : (f : Fresh) (n : ℕ) → (fresh_of f).answer ≡ Refused n → (fresh_of f).meter ≡ least_meter
  pub least_settings_lem : Settings least_settings
