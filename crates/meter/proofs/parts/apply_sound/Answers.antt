use mathlib.Core.Path.{◌≡◌, ap, sym, ◌∙◌}
use borrow.Author.Rules.{rules}
use Rattle.tables.specs.Index.{table_in}
use Rattle.steps.specs.Step.{quiet_sample}
use Rattle.meter.specs.State.{with_logs}
use Rattle.meter.proofs.Tail.{quiet_left}
use Rattle.meter.proofs.parts.apply_sound.Goals as goal
use Rattle.meter.proofs.parts.apply_sound.Goals.{Joined-call}

-- where the ways meet, the call is as it came in
same_call : (c : Joined-call) → c.match-call.call ≡ c.args.call
same_call c = search rules

pub returns-in-Some : goal.returns-in-Some
returns-in-Some c =
    let a = c.args in
    let m = with_logs a.scalars a.counts.now a.clocks.now a.codes.now in
    rw c.in-Sample.is
    (quiet_left (table_in a.table.now) m c.in-Sample.power c.in-Some.next
    (ap (quiet_sample a.scalars) (search rules) ∙ sym c.quiet_sample.ensures ∙ c.in-Some.is))

pub returns : goal.returns
returns c = rw (← same_call (goal.at.returns c).Joined-call) c.carry_out.ensures
