-- A sample of the three-phase meter, as the code makes it: the four monitored values, then their lines in order, then what they try.
use Rattle.std.specs.Prelude.{ℕ, ◌+◌, Bool, cond, List, [], ◌∷◌, map, leb, ℤ, set}
use Rattle.control.specs.declared.Decision.{Decision}
use Rattle.control.specs.declared.Decision.TheVariants.{Move, Stay, NotListed}
use Rattle.control.specs.Control.{moved_to}
use Rattle.limiter.specs.declared.Watched.{Watched}
use Rattle.limiter.specs.Limiter.{sampled_power}
use Rattle.calls.specs.declared.Letter.{Letter}
use Rattle.history.specs.Last.{number_at}
use Rattle.machine.specs.Values.{with_control}
use Rattle.status.specs.Status.{status_values, status_from}
use Rattle.phases_steps.specs.declared.MonitoredValue.{MonitoredValue}
use Rattle.phases_steps.specs.declared.Limiters.{Limiters}
use Rattle.phases_steps.specs.declared.sampling.Sampled.{Sampled}
use Rattle.phases_steps.specs.declared.ThreePhaseScalars.{ThreePhaseScalars}
use Rattle.phases_steps.specs.declared.ThreePhaseStep.{ThreePhaseStep}
use Rattle.phases_steps.specs.Step.{most_three_phase_lines}
use Rattle.phases_steps.specs.Scalars.{limiter_with, limiters_from}

-- a monitored value, judged by its own threshold
abbrev pub sampled_monitored : Limiters → MonitoredValue → ℤ → Watched
sampled_monitored l m p = sampled_power (limiter_with l.over l.under m) m.threshold p

-- each, by the powers in their order
abbrev pub sampled_by : Limiters → List ℤ → Sampled
sampled_by l ps =
    record {
      l1 = sampled_monitored l l.l1 (number_at ps 0);
      l2 = sampled_monitored l l.l2 (number_at ps 1);
      l3 = sampled_monitored l l.l3 (number_at ps 2);
      sum = sampled_monitored l l.sum (number_at ps 3);
    }

-- '.. in line order'
abbrev pub in_line : Sampled → List Watched
in_line s = s.l1 ∷ s.l2 ∷ s.l3 ∷ s.sum ∷ []

-- the limiters after it
abbrev pub limiters_after : Sampled → Limiters
limiters_after s = limiters_from (map (λ w. w.limiter) (in_line s))

-- a step with a line of this code behind its lines, at its scalars' clock; five lines leave no room
abbrev pub logged_by : ThreePhaseStep → ℕ → ThreePhaseStep
logged_by x code =
    cond (leb most_three_phase_lines x.count) x
    (record {
      scalars = x.scalars;
      answer = x.answer;
      letter = x.letter;
      cleared = x.cleared;
      log = x.log;
      count = x.count + 1;
      clocks = set x.clocks x.count x.scalars.status.clock;
      codes = set x.codes x.count code;
    })

-- 'Each firing logs 65 or 66 ..'
abbrev pub fired_by : ThreePhaseStep → Watched → ThreePhaseStep
fired_by x w = cond w.fired (cond w.limiter.exceeded (logged_by x 65) (logged_by x 66)) x

-- a step with other scalars, and the letter of the move that gave them
abbrev pub with_move : ThreePhaseStep → ThreePhaseScalars → Letter → ThreePhaseStep
with_move x s letter =
    record {
      scalars = s;
      answer = x.answer;
      letter = letter;
      cleared = x.cleared;
      log = x.log;
      count = x.count;
      clocks = x.clocks;
      codes = x.codes;
    }

-- the scalars with the switch moved
abbrev pub scalars_moved : ThreePhaseScalars → ℕ → Bool → ThreePhaseScalars
scalars_moved s to opens =
    record { status = status_from (with_control (status_values s.status) (moved_to s.status.control to opens)); limiters = s.limiters }

-- a decision carried out on a step
abbrev pub switched_by : ThreePhaseStep → Decision → ThreePhaseStep
switched_by x (Move to code opens letter) = logged_by (with_move x (scalars_moved x.scalars to opens) letter) code
switched_by x Stay = x
switched_by x NotListed = x
