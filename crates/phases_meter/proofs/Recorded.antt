-- A call keeps what a record can hold: four limiters with the same Over and Under, and no profile.
use Rattle.base.proofs.Prelude.{refl, ap, List, [], ◌∷◌, ℕ, ℤ, each_from}
use Rattle.events.specs.Line.{Line}
use Rattle.events.specs.Table.{EventRow}
use Rattle.control.specs.declared.Request.{Request}
use Rattle.control.specs.declared.Request.TheVariants as request
use Rattle.control.specs.declared.Decision.{Decision}
use Rattle.control.specs.declared.Decision.TheVariants.{Move, Stay, NotListed}
use Rattle.control.specs.Control.{moved_to}
use Rattle.limiter.specs.declared.Watched.{Watched}
use Rattle.emergency.specs.Emergency.{no_emergency}
use Rattle.calls.specs.declared.Answer.{Answer}
use Rattle.calls.specs.declared.Answer.TheVariants.{Accepted, Refused}
use Rattle.history.specs.Effects.{AnyCall}
use Rattle.machine.specs.Settings.{limits_answer}
use Rattle.machine.specs.Values.{Values, with_control, with_limiters}
use Rattle.machine.specs.Machine.{Change, Result, refusing, making, owing, answered_with, line_now, moving, decided, disconnect_tried, reconnect_tried}
use Rattle.machine.specs.Machine.{after_sample, sample_result, request_result, settings_each, limiter_result, result}
use Rattle.machine.proofs.Answers.{either}
use Rattle.machine.proofs.Effects.{armed_or_not}
use Rattle.status.specs.Status.{status_values}
use Rattle.status.specs.Laws.{NoLimiter, result_with}
use Rattle.status.proofs.Limiters.{laws as status_laws}
use Rattle.phases.specs.declared.ThreePhaseCall.{ThreePhaseCall}
use Rattle.phases.specs.declared.ThreePhaseCall.TheVariants.{Sample, RemoteDisconnect, RemoteReconnect, ManualDisconnect, ManualReconnect, SetMode}
use Rattle.phases.specs.declared.ThreePhaseCall.TheVariants.{SetLimiter, SetClock, Event, SetAlarmFilter, SetErrorFilter, ClearAlarms, ClearErrors, ClearLog}
use Rattle.phases.specs.declared.ThreePhaseCall.TheVariants.{Script}
use Rattle.phases.specs.ThreePhase.{in_order, exact_sum, as_any_call}
use Rattle.phases_steps.specs.declared.Limiters.{Limiters}
use Rattle.phases_steps.specs.declared.ThreePhaseScalars.{ThreePhaseScalars}
use Rattle.phases_steps.specs.Scalars.{limiters_in, three_phase_values}
use Rattle.phases_steps.specs.Step.{three_phase_result}
use Rattle.phases_steps.proofs.Samples.{sampled_scalars, sample_change}
use Rattle.phases_meter.proofs.Values.{Recorded}

-- ---- the switch
moved : (v : Values) (xs : List Line) (d : Decision) → Recorded v → Recorded (moving v xs d).values
moved v xs (Move t c o x) same = ap (λ (w : Values). with_control w (moved_to v.control t o)) same
moved v xs Stay same = same
moved v xs NotListed same = same

tried : (v : Values) (xs : List Line) (ws : List Watched) → Recorded v → Recorded (after_sample v xs ws).values
tried v xs ws same =
    either (λ (k : Change). Recorded k.values) (disconnect_tried ws) (λ e. moved v _ (decided v request.LocalDisconnect) same)
    (λ e. either (λ (k : Change). Recorded k.values) (reconnect_tried ws) (λ f. moved v _ (decided v request.LocalReconnect) same) (λ f. same))

-- ---- what comes of a call
abbrev pub RecordedResult : Result → Type 0
RecordedResult (refusing n) = Unit
RecordedResult (making k) = Recorded k.values

with_recorded : (l : Limiters) (r : Result) → RecordedResult (result_with (limiters_in l) no_emergency r)
with_recorded l (refusing n) = tt
with_recorded l (making k) = refl

module _ (rows : List EventRow) (s : ThreePhaseScalars) where
  sample_recorded : (ps : List ℤ) → Recorded (sample_result (three_phase_values s) ps).values
  sample_recorded ps = rw (sample_change s ps) (tried (three_phase_values (sampled_scalars s ps)) [] _ refl)

  settings_recorded : (a b c d : ℤ) (o u : ℕ) → RecordedResult (limiter_result (three_phase_values s) (in_order a b c d) o u)
  unfolding limiter_result each_from
  settings_recorded a b c d o u = go (limits_answer (in_order a b c d) o u)
    where
      go : (x : Answer) → RecordedResult
          (answered_with x
          (owing (with_limiters (three_phase_values s) (settings_each (limiters_in s.limiters) (in_order a b c d) o u)) 3 (line_now (three_phase_values s) 67 ∷ [])))
      go Accepted = refl
      go (Refused n) = tt

  left_recorded : (c : AnyCall) → NoLimiter c → RecordedResult (result rows (three_phase_values s) c)
  left_recorded c h =
      let v = status_values s.status in
      rw (status_laws.limiters_left rows v (limiters_in s.limiters) no_emergency c h) (with_recorded s.limiters (result rows v c))

  armed_recorded : (q : Request) → RecordedResult (request_result (three_phase_values s) q)
  armed_recorded q =
      let v = status_values s.status in
      let ls = limiters_in s.limiters in
      rw (status_laws.limiters_armed v ls no_emergency q)
      (armed_or_not (λ ks. RecordedResult (result_with ks no_emergency (request_result v q))) q (decided v q) ls
      (with_recorded s.limiters (request_result v q)) (with_recorded _ (request_result v q)))

  -- a call keeps it
  pub kept_recorded : (c : ThreePhaseCall) → RecordedResult (three_phase_result rows s c)
  kept_recorded (Sample a b c) = sample_recorded (in_order a b c (exact_sum a b c))
  kept_recorded RemoteDisconnect = left_recorded (as_any_call RemoteDisconnect) tt
  kept_recorded RemoteReconnect = left_recorded (as_any_call RemoteReconnect) tt
  kept_recorded ManualDisconnect = left_recorded (as_any_call ManualDisconnect) tt
  kept_recorded ManualReconnect = armed_recorded request.ManualReconnect
  kept_recorded (SetMode n) = left_recorded (as_any_call (SetMode n)) tt
  kept_recorded (SetLimiter a b c d o u) = settings_recorded a b c d o u
  kept_recorded (SetClock n) = left_recorded (as_any_call (SetClock n)) tt
  kept_recorded (Event c) = left_recorded (as_any_call (Event c)) tt
  kept_recorded (SetAlarmFilter n) = left_recorded (as_any_call (SetAlarmFilter n)) tt
  kept_recorded (SetErrorFilter n) = left_recorded (as_any_call (SetErrorFilter n)) tt
  kept_recorded (ClearAlarms n) = left_recorded (as_any_call (ClearAlarms n)) tt
  kept_recorded (ClearErrors n) = left_recorded (as_any_call (ClearErrors n)) tt
  kept_recorded (ClearLog n) = left_recorded (as_any_call (ClearLog n)) tt
  kept_recorded (Script n) = left_recorded (as_any_call (Script n)) tt
