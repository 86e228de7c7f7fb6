-- What a call makes of the scalars, as the code has it: the next scalars, the answer, the letter of its move, and what is done to the
-- logs.
use Rattle.std.specs.Prelude.{ℕ, ◌+◌, Bool, List, [], ◌∷◌, map, ◌&&◌, not, eqb, ℤ, length, get_or, set, cond, Option, Some, None}
use Rattle.base.specs.Numbers.{held}
use Rattle.events.specs.Table.{EventRow}
use Rattle.logs.specs.Layout.{line_clock, line_code}
use Rattle.calls.specs.declared.Call.{Call}
use Rattle.calls.specs.declared.Answer.TheVariants.{Accepted, Refused}
use Rattle.calls.specs.declared.Letter.TheVariants as letters
use Rattle.history.specs.OnePhase.{as_call}
use Rattle.machine.specs.Machine.{Change, Result, refusing, making, result}
use Rattle.limiter.specs.declared.Limiter.{Limiter}
use Rattle.limiter.specs.Limiter.{sampled_power}
use Rattle.emergency.specs.declared.Emergency.{Emergency}
use Rattle.status.specs.declared.StatusStep.{StatusStep}
use Rattle.status.specs.Step.{in_places}
use Rattle.steps.specs.declared.Scalars.{Scalars}
use Rattle.steps.specs.declared.Step.{Step}
use Rattle.steps.specs.Scalars.{values_of, scalars_with, scalars_from}

-- what the machine makes of them
abbrev pub result_of : List EventRow → Scalars → Call → Result
result_of rows s c = result rows (values_of s) (as_call c)

-- a change: the lines' clocks and codes in arrays of so many places
abbrev pub step_for : Change → Step
step_for k =
    record {
      scalars = scalars_from k.values;
      answer = Accepted;
      letter = k.letter;
      cleared = k.cleared;
      log = k.log;
      count = length k.lines;
      clocks = in_places (map line_clock k.lines);
      codes = in_places (map line_code k.lines);
    }

-- a result: refused, the scalars are those that came in, and nothing is owed
abbrev pub step_of : Scalars → Result → Step
step_of s (refusing n) = record { scalars = s; answer = Refused n; letter = letters.None; cleared = 0; log = 0; count = 0; clocks = in_places []; codes = in_places [] }
step_of s (making k) = step_for k

-- the scalars after a sample that is judged by the normal threshold
abbrev pub after_normal : Scalars → ℤ → Scalars
after_normal s p =
    record {
      control = s.control;
      limiter = (sampled_power s.limiter s.limiter.threshold p).limiter;
      clock = held (s.clock + 1);
      alarms = s.alarms;
      errors = s.errors;
      emergency = s.emergency;
    }

-- a sample that finds no profile is judged by the normal threshold; where it does not fire, it owes no line: it is quiet, which is no word of the
-- documents
abbrev pub is_quiet : Scalars → ℤ → Bool
is_quiet s p = eqb s.emergency.state 0 && not (sampled_power s.limiter s.limiter.threshold p).fired

-- the scalars after a quiet sample
abbrev pub quiet_sample : Scalars → ℤ → Option Scalars
quiet_sample s p = cond (is_quiet s p) (Some (after_normal s p)) None

-- a step of the status, with a limiter, and a profile and groups
abbrev pub step_with : Limiter → Emergency → StatusStep → Step
step_with l e x =
    record {
      scalars = scalars_with l e x.status;
      answer = x.answer;
      letter = x.letter;
      cleared = x.cleared;
      log = x.log;
      count = x.count;
      clocks = x.clocks;
      codes = x.codes;
    }

-- a step with a line of this code, at its scalars' clock, before its first three places
abbrev pub led_by : Step → ℕ → Step
led_by x code =
    record {
      scalars = x.scalars;
      answer = x.answer;
      letter = x.letter;
      cleared = x.cleared;
      log = x.log;
      count = x.count + 1;
      clocks = x.scalars.clock ∷ get_or x.clocks 0 0 ∷ get_or x.clocks 1 0 ∷ get_or x.clocks 2 0 ∷ [];
      codes = code ∷ get_or x.codes 0 0 ∷ get_or x.codes 1 0 ∷ get_or x.codes 2 0 ∷ [];
    }

-- with one behind its lines
abbrev pub ended_by : Step → ℕ → Step
ended_by x code =
    record {
      scalars = x.scalars;
      answer = x.answer;
      letter = x.letter;
      cleared = x.cleared;
      log = x.log;
      count = x.count + 1;
      clocks = set x.clocks x.count x.scalars.clock;
      codes = set x.codes x.count code;
    }
