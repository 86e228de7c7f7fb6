-- What a call makes of the scalars, as the code has it: the next scalars, the answer, the letter of its move, and what is done to the
-- logs.
use Rattle.std.specs.Prelude.{ℕ, ◌-◌, List, [], ◌∷◌, ◌++◌, map, length, get_or, replicate}
use Rattle.events.specs.Table.{EventRow}
use Rattle.logs.specs.Layout.{line_clock, line_code}
use Rattle.calls.specs.declared.Answer.TheVariants.{Accepted, Refused}
use Rattle.calls.specs.declared.Letter.TheVariants.{None}
use Rattle.machine.specs.Machine.{Change, Result, refusing, making, result}
use Rattle.status.specs.declared.StatusStep.{StatusStep}
use Rattle.phases.specs.declared.ThreePhaseCall.{ThreePhaseCall}
use Rattle.phases.specs.ThreePhase.{as_any_call}
use Rattle.phases_steps.specs.declared.Limiters.{Limiters}
use Rattle.phases_steps.specs.declared.ThreePhaseScalars.{ThreePhaseScalars}
use Rattle.phases_steps.specs.declared.ThreePhaseStep.{ThreePhaseStep}
use Rattle.phases_steps.specs.Scalars.{three_phase_values, three_phase_scalars}

-- what the machine makes of them
abbrev pub three_phase_result : List EventRow → ThreePhaseScalars → ThreePhaseCall → Result
three_phase_result rows s c = result rows (three_phase_values s) (as_any_call c)

-- the most lines that a call owes, a sample: a firing of each of the four monitored values, and the move that they try
abbrev pub most_three_phase_lines : ℕ
most_three_phase_lines = 5

-- numbers in as many places, zeros past them
abbrev pub in_five_places : List ℕ → List ℕ
in_five_places xs = xs ++ replicate (most_three_phase_lines - length xs) 0

-- a change: the lines' clocks and codes in arrays of so many places
abbrev pub three_phase_step_for : Change → ThreePhaseStep
three_phase_step_for k =
    record {
      scalars = three_phase_scalars k.values;
      answer = Accepted;
      letter = k.letter;
      cleared = k.cleared;
      log = k.log;
      count = length k.lines;
      clocks = in_five_places (map line_clock k.lines);
      codes = in_five_places (map line_code k.lines);
    }

-- a result: refused, the scalars are those that came in, and nothing is owed
abbrev pub three_phase_step_of : ThreePhaseScalars → Result → ThreePhaseStep
three_phase_step_of s (refusing n) =
    record { scalars = s; answer = Refused n; letter = None; cleared = 0; log = 0; count = 0; clocks = in_five_places []; codes = in_five_places [] }
three_phase_step_of s (making k) = three_phase_step_for k

-- four numbers, and a zero behind them
abbrev pub widened : List ℕ → List ℕ
widened xs = get_or xs 0 0 ∷ get_or xs 1 0 ∷ get_or xs 2 0 ∷ get_or xs 3 0 ∷ 0 ∷ []

-- a step of the status, with limiters: its four places and one more
abbrev pub step_with_limiters : Limiters → StatusStep → ThreePhaseStep
step_with_limiters l x =
    record {
      scalars = record { status = x.status; limiters = l };
      answer = x.answer;
      letter = x.letter;
      cleared = x.cleared;
      log = x.log;
      count = x.count;
      clocks = widened x.clocks;
      codes = widened x.codes;
    }
