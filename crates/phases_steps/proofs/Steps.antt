-- The machine's results by what the code learns on its way: the status's step with limiters, and the letter of a manual reconnect.
use Rattle.base.proofs.Prelude.{◌≡◌, refl, sym, ap, ap₂, ◌∙◌, ℤ, Bool, true, false, cond, List, [], ◌∷◌, map, ℕ, ◌≤◌, arith, eqb, leb, length, within}
use mathlib.Core.Option.{Option, none, some}
use types.Run.{OneOf, miss}
use denote.Enum.Declared.{tag_of}
use Rattle.events.specs.Line.{Line, is_log}
use Rattle.events.specs.Table.{EventRow, lookup}
use Rattle.control.specs.Control.{mode_decision}
use Rattle.control.specs.declared.Request.{Request}
use Rattle.control.specs.declared.Request.TheVariants.{RemoteDisconnect, RemoteReconnect, ManualReconnect}
use Rattle.control.specs.declared.Decision.{Decision}
use Rattle.control.specs.declared.Decision.TheVariants.{Move, Stay, NotListed}
use Rattle.control.proofs.Answers.{answered, rows}
use Rattle.limiter.specs.declared.Limiter.{Limiter}
use Rattle.limiter.specs.Limiter.{armed}
use Rattle.emergency.specs.Emergency.{no_emergency}
use Rattle.logs.specs.Layout.{line_clock, line_code}
use Rattle.calls.specs.declared.Answer.TheVariants.{Accepted}
use Rattle.calls.specs.declared.Letter.TheVariants.{E, None}
use Rattle.calls.specs.contracts.Letter as letters
use Rattle.history.specs.Effects.{remote_disconnect, remote_reconnect, manual_disconnect, manual_reconnect, alarms, errors, AnyCall, sample, request, set_mode}
use Rattle.history.specs.Effects.{set_limiter, set_clock, event, set_filter, clear_bits, clear_log, script, set_groups, set_profile}
use Rattle.machine.specs.Values.{Values, with_limiters}
use Rattle.machine.specs.Machine.{Result, refusing, making, result, moving, decided, answering, armed_by, occurring, request_result, mode_result}
use Rattle.machine.specs.Machine.{event_result, clear_log_result, script_result, owing, lettered, line_now, settings_each, limiter_result}
use Rattle.machine.specs.Settings.{limits_answer}
use Rattle.status.specs.Status.{status_values, status_from}
use Rattle.status.specs.declared.StatusStep.{StatusStep}
use Rattle.status.specs.Step.{in_places, status_step_for, status_step_of}
use Rattle.status.specs.Laws.{NoLimiter, result_with}
use Rattle.status.proofs.Limiters.{laws}
use Rattle.phases_steps.specs.declared.Limiters.{Limiters}
use Rattle.phases_steps.specs.declared.ThreePhaseScalars.{ThreePhaseScalars}
use Rattle.phases_steps.specs.declared.ThreePhaseStep.{ThreePhaseStep}
use Rattle.phases_steps.specs.Scalars.{limiters_in, limiters_from, three_phase_values}
use Rattle.phases_steps.specs.Laws.{Laws}
use Rattle.phases_steps.specs.Step.{in_five_places, widened, step_with_limiters, three_phase_step_of}

-- ---- four places and one more are five, of four lines at most
widened_places : (f : Line → ℕ) (xs : List Line) → length xs ≤ 4 → widened (in_places (map f xs)) ≡ in_five_places (map f xs)
widened_places f [] h = refl
widened_places f (a ∷ []) h = refl
widened_places f (a ∷ b ∷ []) h = refl
widened_places f (a ∷ b ∷ c ∷ []) h = refl
widened_places f (a ∷ b ∷ c ∷ d ∷ []) h = refl
widened_places f (a ∷ b ∷ c ∷ d ∷ e ∷ xs) h = absurd (omega (arith, h))

-- a result that owes four lines at most
abbrev Short : Result → Type 0
Short (refusing n) = Unit
Short (making k) = length k.lines ≤ 4

-- ---- a call that touches no limiter owes four lines at most
moving_short : (v : Values) (d : Decision) → length (moving v [] d).lines ≤ 4
moving_short v (Move t c o x) = omega arith
moving_short v Stay = omega arith
moving_short v NotListed = omega arith

answering_short : (v : Values) (d : Decision) → Short (answering v d)
answering_short v (Move t c o x) = omega arith
answering_short v Stay = omega arith
answering_short v NotListed = tt

request_short : (v : Values) (q : Request) → Short (request_result v q)
unfolding request_result
request_short v q = answering_short _ (decided v q)

either : (b : Bool) (x y : Result) → Short x → Short y → Short (cond b x y)
either true x y h k = h
either false x y h k = k

occurring_short : (v : Values) (r : Option EventRow) → Short (occurring v r)
occurring_short v none = tt
occurring_short v (some r) = omega arith

short : (table : List EventRow) (v : Values) (c : AnyCall) → NoLimiter c → Short (result table v c)
unfolding mode_result event_result clear_log_result script_result
short table v (sample _) h = elim h [ ]
short table v (request remote_disconnect) h = request_short v _
short table v (request remote_reconnect) h = request_short v _
short table v (request manual_disconnect) h = request_short v _
short table v (request manual_reconnect) h = elim h [ ]
short table v (set_mode n) h = either (leb n 6) _ _ (moving_short _ (mode_decision n v.control.state)) tt
short table v (set_limiter _ _ _) h = elim h [ ]
short table v (set_clock n) h = omega arith
short table v (event c) h = occurring_short v (lookup table c)
short table v (set_filter alarms n) h = omega arith
short table v (set_filter errors n) h = omega arith
short table v (clear_bits alarms n) h = omega arith
short table v (clear_bits errors n) h = omega arith
short table v (clear_log n) h = either (is_log n) _ _ (omega arith) tt
short table v (script n) h =
    either (eqb n 1) _ _ (request_short v RemoteDisconnect) (either (eqb n 2) _ _ (request_short v RemoteReconnect) tt)
short table v (set_groups _ _) h = elim h [ ]
short table v (set_profile _) h = elim h [ ]

-- ---- such a call, by the status's step
pub left_step : (table : List EventRow) (s : ThreePhaseScalars) (c : AnyCall) → NoLimiter c
    → step_with_limiters s.limiters (status_step_of s.status (result table (status_values s.status) c))
    ≡ three_phase_step_of s (result table (three_phase_values s) c)
left_step table s c left =
    rw (laws.limiters_left table (status_values s.status) (limiters_in s.limiters) no_emergency c left)
    (go (result table (status_values s.status) c) (short table (status_values s.status) c left))
  where
    go : (r : Result) → Short r
        → step_with_limiters s.limiters (status_step_of s.status r) ≡ three_phase_step_of s (result_with (limiters_in s.limiters) no_emergency r)
    go (refusing n) h = refl
    go (making k) h = λ i. record {
      scalars = record { status = status_from k.values; limiters = s.limiters };
      answer = Accepted;
      letter = k.letter;
      cleared = k.cleared;
      log = k.log;
      count = length k.lines;
      clocks = widened_places line_clock k.lines h i;
      codes = widened_places line_code k.lines h i;
    }

-- ---- a limiter setting that is accepted, by the status's step
pub set_step : (s : ThreePhaseScalars) (ts : List ℤ) (o u : ℕ) {l : Limiters} {x : StatusStep} → limits_answer ts o u ≡ Accepted
    → l ≡ limiters_from (settings_each (limiters_in s.limiters) ts o u)
    → x ≡ status_step_for (lettered None (owing (status_values s.status) 3 (line_now (status_values s.status) 67 ∷ [])))
    → step_with_limiters l x ≡ three_phase_step_of s (limiter_result (three_phase_values s) ts o u)
unfolding limiter_result
set_step s ts o u a le xe = rw a (ap₂ step_with_limiters le xe)

-- ---- a manual reconnect, by the status's step: it arms the limiters exactly if its letter is e
-- the tags of the other letters
abbrev pub others_than_e : List ℕ
others_than_e = 0 ∷ 1 ∷ 2 ∷ 3 ∷ 5 ∷ 6 ∷ 7 ∷ 8 ∷ []

module _ (s : ThreePhaseScalars) where
  abbrev in_all : List Limiter
  in_all = limiters_in s.limiters

  -- the limiters armed again
  abbrev pub armed_limiters : Limiters
  armed_limiters = limiters_from (map armed in_all)

  -- the step, and what it comes to with the limiters, by the decision
  abbrev step_by : List Limiter → Decision → StatusStep
  step_by ls d = status_step_of s.status (answering (with_limiters (status_values s.status) ls) d)

  abbrev with_by : List Limiter → Decision → ThreePhaseStep
  with_by ls d = three_phase_step_of s (result_with (armed_by ManualReconnect d in_all) no_emergency (answering (with_limiters (status_values s.status) ls) d))

  moved_by : (ls : List Limiter) (d : Decision) → (step_by ls d).letter ≡ E → step_with_limiters armed_limiters (step_by ls d) ≡ with_by ls d
  moved_by ls (Move t c o x) e = refl
  moved_by ls Stay e = cc
  moved_by ls NotListed e = cc

  unmoved_by : (ls : List Limiter) (o a b : Bool)
      → let d = cond a (cond b (Move 1 61 o E) Stay) NotListed in
      OneOf others_than_e (tag_of letters.the_type (step_by ls d).letter) → step_with_limiters s.limiters (step_by ls d) ≡ with_by ls d
  unmoved_by ls o true true k = absurd (miss others_than_e 4 tt k)
  unmoved_by ls o true false k = refl
  unmoved_by ls o false b k = refl

  abbrev reconnect_step : StatusStep
  reconnect_step = status_step_of s.status (request_result (status_values s.status) ManualReconnect)

  pub moved_step : reconnect_step.letter ≡ E
      → step_with_limiters armed_limiters reconnect_step ≡ three_phase_step_of s (request_result (three_phase_values s) ManualReconnect)
  unfolding request_result
  moved_step e =
      moved_by _ (decided (status_values s.status) ManualReconnect) e
      ∙ ap (three_phase_step_of s) (sym (laws.limiters_armed (status_values s.status) in_all no_emergency ManualReconnect))

  pub unmoved_step : OneOf others_than_e (tag_of letters.the_type reconnect_step.letter)
      → step_with_limiters s.limiters reconnect_step ≡ three_phase_step_of s (request_result (three_phase_values s) ManualReconnect)
  unfolding request_result answered
  unmoved_step k =
      let m = s.status.control.mode in
      let from = s.status.control.state in
      rw (laws.limiters_armed (status_values s.status) in_all no_emergency ManualReconnect, rows)
      (unmoved_by _ (eqb from 1) (within 1 6 m) (eqb from 2) (rw rows at k))

-- ---- the laws
pub step_laws : Laws
step_laws = record { scalars_back = λ s. refl }
