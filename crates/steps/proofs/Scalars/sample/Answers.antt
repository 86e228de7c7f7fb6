use mathlib.Core.Path.{ap, ◌∙◌}
use borrow.Author.Rules.{rules}
use Rattle.emergency.specs.Emergency.{in_force}
use Rattle.steps.proofs.Steps.{same_number, same_bits}
use Rattle.steps.proofs.Samples.{profile_made, sampled_profile}
use Rattle.steps.proofs.Scalars.sample.Goals as goal

pub returns : goal.returns
returns c =
    let threshold = same_number c.args.self.limiter.threshold (search rules) in
    sampled_profile c.args.self c.args.power c.next_held.result
    c.start-self.result c.end-self.result
    c.in_force-before.result c.in_force-during.result c.in_force-after.result
    c.next_held.ensures (c.in_force-before.ensures ∙ ap (in_force c.args.self.emergency) threshold)
    c.start-self.ensures.value
    (c.in_force-during.ensures ∙ ap (in_force c.start-self.result) threshold) c.end-self.ensures
    (c.in_force-after.ensures ∙ ap (in_force c.end-self.result) threshold)
    (profile_made c.args.self c.args.power _ _ c.in_force-before.result c.in_force-during.result c.in_force-after.result
    (same_bits c.in_force-before.result c.in_force-during.result (search rules) (search rules))
    (same_bits c.in_force-during.result c.in_force-after.result (search rules) (search rules)) c.restarted.ensures
    (c.sample-watched.ensures.value ∙ search rules) c.restarted-self.ensures c.watched.ensures
    c.led_by_change.ensures c.ended_by_change.ensures)
