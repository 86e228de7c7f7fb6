-- The laws of the machine, together.
use mathlib.Core.Path.{◌≡◌}
use mathlib.Core.Bool.{true}
use mathlib.Core.List.{List}
use Rattle.base.specs.Tests.{every}
use Rattle.events.specs.Table.{EventRow, lawful}
use Rattle.events.proofs.Rule.{built_in_lawful}
use Rattle.meter.specs.Laws.{LawsOf, Laws}
use Rattle.meter.proofs.Values.{record_of_state, state_of_record}
use Rattle.meter.proofs.Tail.{sound_in_parts, command_in_parts}
use Rattle.meter.proofs.Preserved.{applied_answer, unsound_refused_lem, refused_same, refused_letter, commanded_same, applied_sound}
use Rattle.meter.proofs.Simulates.{simulates, letters, reached_sound}

pub laws_of : (rows : List EventRow) → every lawful rows ≡ true → LawsOf rows
laws_of rows table =
    record {
      record_of_state = record_of_state rows;
      state_of_record = state_of_record rows;
      kept_sound = λ m c z i e. applied_sound rows table m c i z e;
      sound_in_parts = sound_in_parts rows;
      command_in_parts = command_in_parts rows;
      answers = applied_answer rows;
      unsound_refused_lem = unsound_refused_lem rows;
      refused_same = refused_same rows;
      command_refused_same = commanded_same rows;
      refused_letter = refused_letter rows;
      reached_sound = λ f calls t i. reached_sound rows table f t calls i;
      simulates = λ f calls t i. simulates rows table f t calls i;
      letters = λ f calls c t i. letters rows table f t calls c i;
    }

pub laws : Laws
laws = (built_in_lawful, laws_of)
