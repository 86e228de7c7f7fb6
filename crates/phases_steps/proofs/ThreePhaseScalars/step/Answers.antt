use Prim.Native.Nat.{ℕ}
use mathlib.Core.Path.{◌≡◌, ap₂, ◌∙◌}
use lib.IntN.{ℤ}
use borrow.Author.Rules.{rules}
use Rattle.tables.specs.Index.{table_in}
use Rattle.machine.specs.Machine.{result, sample_result, limiter_result}
use Rattle.status.specs.declared.StatusStep.{StatusStep}
use Rattle.status.specs.Status.{status_values}
use Rattle.status.specs.Step.{status_step_of}
use Rattle.status.specs.Laws.{NoLimiter}
use Rattle.phases.specs.declared.ThreePhaseCall.{ThreePhaseCall}
use Rattle.phases.specs.ThreePhase.{as_any_call, in_order, exact_sum}
use Rattle.phases_steps.specs.declared.ThreePhaseScalars.{ThreePhaseScalars}
use Rattle.phases_steps.specs.declared.ThreePhaseStep.{ThreePhaseStep}
use Rattle.phases_steps.specs.Scalars.{three_phase_values}
use Rattle.phases_steps.specs.Step.{three_phase_result, three_phase_step_for, three_phase_step_of, step_with_limiters}
use Rattle.phases_steps.proofs.Steps.{left_step, step_laws}
use Rattle.phases_steps.proofs.ThreePhaseScalars.step.Goals as goal
use Rattle.phases_steps.proofs.ThreePhaseScalars.step.Goals.{Start}

-- a call that touches no limiter, told by the match, from the step that it makes of the status
module _ (c : Start) {call : ThreePhaseCall} (told : c.args.call ≡ call) (none : NoLimiter (as_any_call call)) {x : StatusStep} where
  left : let a = c.args in
      x ≡ status_step_of a.self.status (result (table_in a.table.now) (status_values a.self.status) (as_any_call call))
      → step_with_limiters a.self.limiters x ≡ three_phase_step_of a.self (three_phase_result (table_in a.table.now) a.self a.call)
  left made = rw (made, told) (left_step (table_in c.args.table.now) c.args.self (as_any_call call) none)

-- the steps of numbers, which are handed on as their bits
abbrev sample_step : ThreePhaseScalars → ℤ → ℤ → ℤ → ThreePhaseStep
sample_step s a b c = three_phase_step_for (sample_result (three_phase_values s) (in_order a b c (exact_sum a b c)))

abbrev setting_step : ThreePhaseScalars → ℤ → ℤ → ℤ → ℤ → ℕ → ℕ → ThreePhaseStep
setting_step s a b c d o u = three_phase_step_of s (limiter_result (three_phase_values s) (in_order a b c d) o u)

pub returns-in-Sample : goal.returns-in-Sample
returns-in-Sample c =
    let self = c.args.self in record {
      value = rw (c.in-Sample.is, c.sample.ensures)
          (ap₂ (λ (x : ℤ × ℤ) (z : ℤ). sample_step self x.0 x.1 z) (ap₂ (λ (x y : ℤ). (x, y)) (search rules) (search rules)) (search rules));
      laws = step_laws;
    }

pub returns-in-RemoteDisconnect : goal.returns-in-RemoteDisconnect
returns-in-RemoteDisconnect c =
    record {
      value = c.with.ensures ∙ left (goal.at.returns-in-RemoteDisconnect c).Start c.in-RemoteDisconnect.is tt c.request.ensures.value;
      laws = step_laws;
    }

pub returns-in-RemoteReconnect : goal.returns-in-RemoteReconnect
returns-in-RemoteReconnect c =
    record {
      value = c.with-in-RemoteReconnect.ensures ∙ left (goal.at.returns-in-RemoteReconnect c).Start c.in-RemoteReconnect.is tt c.request-in-RemoteReconnect.ensures.value;
      laws = step_laws;
    }

pub returns-in-ManualDisconnect : goal.returns-in-ManualDisconnect
returns-in-ManualDisconnect c =
    record {
      value = c.with-in-ManualDisconnect.ensures ∙ left (goal.at.returns-in-ManualDisconnect c).Start c.in-ManualDisconnect.is tt c.request-in-ManualDisconnect.ensures.value;
      laws = step_laws;
    }

pub returns-in-ManualReconnect : goal.returns-in-ManualReconnect
returns-in-ManualReconnect c =
    record {
      value = rw c.in-ManualReconnect.is c.manual_reconnect.ensures;
      laws = step_laws;
    }

pub returns-in-SetMode : goal.returns-in-SetMode
returns-in-SetMode c =
    record {
      value = c.with-in-SetMode.ensures ∙ left (goal.at.returns-in-SetMode c).Start c.in-SetMode.is tt c.set_mode.ensures;
      laws = step_laws;
    }

pub returns-in-SetLimiter : goal.returns-in-SetLimiter
returns-in-SetLimiter c =
    let d = c.in-SetLimiter in
    let self = c.args.self in record {
      value = rw (c.in-SetLimiter.is, c.set_limiter.ensures)
          (ap₂ (λ (x y : ℤ × ℤ). setting_step self x.0 x.1 y.0 y.1 d.over d.under)
          (ap₂ (λ (x y : ℤ). (x, y)) (search rules) (search rules)) (ap₂ (λ (x y : ℤ). (x, y)) (search rules) (search rules)));
      laws = step_laws;
    }

pub returns-in-SetClock : goal.returns-in-SetClock
returns-in-SetClock c =
    record {
      value = c.with-in-SetClock.ensures ∙ left (goal.at.returns-in-SetClock c).Start c.in-SetClock.is tt c.set_clock.ensures;
      laws = step_laws;
    }

pub returns-in-Event : goal.returns-in-Event
returns-in-Event c =
    record {
      value = c.with-in-Event.ensures ∙ left (goal.at.returns-in-Event c).Start c.in-Event.is tt c.event.ensures;
      laws = step_laws;
    }

pub returns-in-SetAlarmFilter : goal.returns-in-SetAlarmFilter
returns-in-SetAlarmFilter c =
    record {
      value = c.with-in-SetAlarmFilter.ensures ∙ left (goal.at.returns-in-SetAlarmFilter c).Start c.in-SetAlarmFilter.is tt c.set_alarm_filter.ensures;
      laws = step_laws;
    }

pub returns-in-SetErrorFilter : goal.returns-in-SetErrorFilter
returns-in-SetErrorFilter c =
    record {
      value = c.with-in-SetErrorFilter.ensures ∙ left (goal.at.returns-in-SetErrorFilter c).Start c.in-SetErrorFilter.is tt c.set_error_filter.ensures;
      laws = step_laws;
    }

pub returns-in-ClearAlarms : goal.returns-in-ClearAlarms
returns-in-ClearAlarms c =
    record {
      value = c.with-in-ClearAlarms.ensures ∙ left (goal.at.returns-in-ClearAlarms c).Start c.in-ClearAlarms.is tt c.clear_alarms.ensures;
      laws = step_laws;
    }

pub returns-in-ClearErrors : goal.returns-in-ClearErrors
returns-in-ClearErrors c =
    record {
      value = c.with-in-ClearErrors.ensures ∙ left (goal.at.returns-in-ClearErrors c).Start c.in-ClearErrors.is tt c.clear_errors.ensures;
      laws = step_laws;
    }

pub returns-in-ClearLog : goal.returns-in-ClearLog
returns-in-ClearLog c =
    record {
      value = c.with-in-ClearLog.ensures ∙ left (goal.at.returns-in-ClearLog c).Start c.in-ClearLog.is tt c.clear_log.ensures;
      laws = step_laws;
    }

pub returns-in-Script : goal.returns-in-Script
returns-in-Script c =
    record {
      value = c.with-in-Script.ensures ∙ left (goal.at.returns-in-Script c).Start c.in-Script.is tt c.script.ensures;
      laws = step_laws;
    }
