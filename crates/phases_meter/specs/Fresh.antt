-- The fresh three-phase meter: 'switch 1, not Exceeded, all else zero or empty', with its settings.
use Rattle.std.specs.Prelude.{◌≡◌, false, [], ◌∷◌, ℕ, pos, replicate}
use Rattle.calls.specs.declared.Answer.{Answer}
use Rattle.calls.specs.declared.Answer.TheVariants.{Accepted, Refused}
use Rattle.calls.specs.declared.Letter.TheVariants.{None}
use Rattle.machine.specs.Values.{State}
use Rattle.machine.specs.Fresh.{fresh_values}
use Rattle.phases.specs.ThreePhase.{ThreePhaseFresh, as_any_fresh}
use Rattle.phases_steps.specs.declared.MonitoredValue.{MonitoredValue}
use Rattle.phases_meter.specs.declared.ThreePhaseMeter.{ThreePhaseMeter}
use Rattle.phases_meter.specs.declared.ThreePhaseOutcome.{ThreePhaseOutcome}
use Rattle.phases_meter.specs.State.{three_phase_record_of}
use Rattle.phases_meter.specs.Machine.{three_phase_refused}
use Rattle.phases_meter.specs.Settings.{three_phase_settings_of, three_phase_fresh_answer, ThreePhaseSettings, ThreePhaseSettingsInRange}

-- 'switch 1, not Exceeded, all else zero or empty'
abbrev pub three_phase_fresh_state : ThreePhaseFresh → State
three_phase_fresh_state f = fresh_values (as_any_fresh f)

-- 'mode 0, threshold 0, durations 1, clock 0', each of the four thresholds
abbrev pub three_phase_least_settings : ThreePhaseFresh
three_phase_least_settings = three_phase_settings_of 0 (pos 0) (pos 0) (pos 0) (pos 0) 1 1 0

-- 'A refused fresh or reader returns the meter of mode 0, threshold 0, durations 1, clock 0.'
abbrev pub three_phase_refused_outcome : ℕ → ThreePhaseOutcome
three_phase_refused_outcome n = three_phase_refused (three_phase_record_of (three_phase_fresh_state three_phase_least_settings)) n

-- the settings of the meter that fresh hands back
abbrev pub three_phase_settings_by : Answer → ThreePhaseFresh → ThreePhaseFresh
three_phase_settings_by Accepted f = f
three_phase_settings_by (Refused n) f = three_phase_least_settings

-- fresh: the meter of its settings, or a refusal's
abbrev pub three_phase_fresh_of : ThreePhaseFresh → ThreePhaseOutcome
three_phase_fresh_of f =
    record {
      meter = three_phase_record_of (three_phase_fresh_state (three_phase_settings_by (three_phase_fresh_answer f) f));
      answer = three_phase_fresh_answer f;
      letter = None;
    }

-- 'the meter of mode 0, threshold 0, durations 1, clock 0', field by field: 'switch 1, not Exceeded, all else zero or empty', of each monitored value
abbrev pub three_phase_least_meter : ThreePhaseMeter
three_phase_least_meter =
    let value : MonitoredValue = record { threshold = pos 0; exceeded = false; run = 0 } in
    record {
      scalars =
          record {
            status =
                record {
                  control = record { mode = 0; state = 1; openings = 0 };
                  clock = 0;
                  alarms = record { register = record { bits = 0; filter = 0 }; count = 0 };
                  errors = record { bits = 0; filter = 0 };
                };
            limiters = record { over = 1; under = 1; l1 = value; l2 = value; l3 = value; sum = value };
          };
      logs = record { counts = 0 ∷ 0 ∷ 0 ∷ []; clocks = replicate 96 0; codes = replicate 96 0 };
    }

-- what fresh accepts and refuses
pub record FreshLaws : Type 0 where
  -- accepted exactly for settings in their ranges ..
  pub settings_accepted : (f : ThreePhaseFresh) → ThreePhaseSettings f → (three_phase_fresh_of f).answer ≡ Accepted
  pub accepted_settings : (f : ThreePhaseFresh) → ThreePhaseSettingsInRange f → (three_phase_fresh_of f).answer ≡ Accepted → ThreePhaseSettings f
  -- .. and then with the fresh meter of these settings
  pub accepted_meter : (f : ThreePhaseFresh) → (three_phase_fresh_of f).answer ≡ Accepted
      → (three_phase_fresh_of f).meter ≡ three_phase_record_of (three_phase_fresh_state f)
  -- 'A refused fresh .. returns the meter of mode 0, threshold 0, durations 1, clock 0', whose settings fresh accepts
  pub refused_meter : (f : ThreePhaseFresh) (n : ℕ) → (three_phase_fresh_of f).answer ≡ Refused n → (three_phase_fresh_of f).meter ≡ three_phase_least_meter
  pub least_settings : ThreePhaseSettings three_phase_least_settings
