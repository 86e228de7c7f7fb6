use mathlib.Core.Bool.{true}
use mathlib.Core.Path.{◌≡◌, ap, sym, ◌∙◌}
use borrow.Author.Rules.{rules}
use Rattle.tables.specs.Index.{table_in}
use Rattle.logs.specs.Layout.{Sized}
use Rattle.steps.specs.Step.{quiet_sample}
use Rattle.meter.specs.Parts.{outcome_of}
use Rattle.meter.specs.Sound.{sound_meter}
use Rattle.meter.proofs.Tail.{unsound_refused_lem, quiet_applied, of_parts}
use Rattle.machine.specs.Laws.{Laws as MachineLaws}
use Rattle.machine.proofs.Simulates.{laws as machine_laws}
use Rattle.meter.specs.Laws.{Laws}
use Rattle.meter.specs.Examples.{Examples}
use Rattle.meter.proofs.Laws.{laws}
use Rattle.meter.proofs.Examples.{examples}
use Rattle.meter.proofs.Meter.apply.Goals as goal
use Rattle.meter.proofs.Meter.apply.Goals.{Else-not-sound, Joined-call, Start}

sized : (c : Start) → Sized c.args.self.logs
sized c = record { counts = search rules; clocks = search rules; codes = search rules }

-- past the test the record is sound
tested : (c : Else-not-sound) → sound_meter (table_in c.args.table.now) c.args.self ≡ true
tested c = sym c.sound.ensures.value ∙ c.if-not-sound.false

-- where the ways meet, the call is as it came in
same_call : (c : Joined-call) → c.match-call.call ≡ c.args.call
same_call c = search rules

claims : Laws × (Examples × MachineLaws)
claims = (laws, (examples, machine_laws))

pub returns-then-not-sound : goal.returns-then-not-sound
returns-then-not-sound c =
    record {
      value = unsound_refused_lem _ _ _ (sym c.sound.ensures.value ∙ c.if-not-sound.true);
      laws = claims.0;
      examples = claims.1.0;
      simulation = claims.1.1;
    }

pub returns-in-Some : goal.returns-in-Some
returns-in-Some c =
    let a = c.args in record {
      value = rw c.in-Sample.is
          (quiet_applied (table_in a.table.now) a.self c.in-Sample.power c.scalars.result c.in-Some.next (sized (goal.at.returns-in-Some c).Start)
          (tested (goal.at.returns-in-Some c).Else-not-sound) c.scalars.ensures
          (ap (quiet_sample c.scalars.result) (search rules) ∙ sym c.quiet_sample.ensures ∙ c.in-Some.is));
      laws = claims.0;
      examples = claims.1.0;
      simulation = claims.1.1;
    }

pub returns : goal.returns
returns c =
    let made = c.carry_out-answered in
    let left = outcome_of made.result made.new.counts made.new.clocks made.new.codes in
    let whole = of_parts (table_in c.args.table.now) c.args.self c.match-call.call c.scalars-2.result left (sized (goal.at.returns c).Start) (tested (goal.at.returns c).Else-not-sound) c.scalars-2.ensures made.ensures in
    record {
      value = rw (c.of_parts.ensures, ← same_call (goal.at.returns c).Joined-call) whole;
      laws = claims.0;
      examples = claims.1.0;
      simulation = claims.1.1;
    }
