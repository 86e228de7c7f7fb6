-- What a call makes of the status, as the code has it: the next status, the answer, the letter of its move, and what is done to the logs.
use Rattle.std.specs.Prelude.{ℕ, ◌-◌, List, [], ◌++◌, map, length, replicate}
use Rattle.logs.specs.Layout.{line_clock, line_code}
use Rattle.calls.specs.declared.Answer.TheVariants.{Accepted, Refused}
use Rattle.calls.specs.declared.Letter.TheVariants.{None}
use Rattle.machine.specs.Machine.{Change, Result, refusing, making}
use Rattle.status.specs.declared.Status.{Status}
use Rattle.status.specs.declared.StatusStep.{StatusStep}
use Rattle.status.specs.Status.{status_from}

-- the most lines that a call owes, a sample (document 02, A3): a change of the threshold in force, a firing, the move that it tries, and a change again
abbrev pub most_lines : ℕ
most_lines = 4

-- numbers in as many places, zeros past them
abbrev pub in_places : List ℕ → List ℕ
in_places xs = xs ++ replicate (most_lines - length xs) 0

-- a change: the lines' clocks and codes in arrays of so many places
abbrev pub status_step_for : Change → StatusStep
status_step_for k =
    record {
      status = status_from k.values;
      answer = Accepted;
      letter = k.letter;
      cleared = k.cleared;
      log = k.log;
      count = length k.lines;
      clocks = in_places (map line_clock k.lines);
      codes = in_places (map line_code k.lines);
    }

-- a result: refused, the status is the one that came in, and nothing is owed
abbrev pub status_step_of : Status → Result → StatusStep
status_step_of s (refusing n) =
    record { status = s; answer = Refused n; letter = None; cleared = 0; log = 0; count = 0; clocks = in_places []; codes = in_places [] }
status_step_of s (making k) = status_step_for k
