use mathlib.Core.Path.{◌≡◌, refl, ◌∙◌}
use mathlib.Core.List.{List, [], ◌∷◌}
use mathlib.Core.Logic.{inl, inr}
use native.Mathlib.Omega.{arith}
use types.Run.{OneOf}
use borrow.Enum.Refused.{opened}
use denote.Enum.Declared.{tag_of}
use Rattle.control.specs.declared.Decision.{Decision}
use Rattle.control.specs.declared.Decision.TheVariants.{Move, Stay, NotListed}
use Rattle.control.specs.contracts.Decision as decisions
use Rattle.limiter.specs.declared.Limiter.{Limiter}
use Rattle.machine.specs.Values.{with_limiters}
use Rattle.machine.specs.Machine.{moving, answering, request_result}
use Rattle.status.specs.declared.Status.{Status}
use Rattle.status.specs.Status.{status_values}
use Rattle.status.specs.Step.{status_step_for, status_step_of}
use Rattle.status.proofs.Limiters.{laws}
use Rattle.status.proofs.Status.request.Goals as goal

-- what is listed is carried out, whatever becomes of limiters
listed : (s : Status) (ls : List Limiter) (d : Decision) → OneOf (0 ∷ 1 ∷ []) (tag_of decisions.the_type d)
    → status_step_for (moving (status_values s) [] d) ≡ status_step_of s (answering (with_limiters (status_values s) ls) d)
listed s ls (Move t c o x) h = refl
listed s ls Stay h = refl
listed s ls NotListed (inl e) = absurd (omega arith)
listed s ls NotListed (inr e) = absurd (omega arith)

pub returns-in-NotListed : goal.returns-in-NotListed
unfolding request_result
returns-in-NotListed c =
    record {
      value = rw (← c.decide-decision.ensures, c.in-NotListed.is) c.refused.ensures;
      laws = laws;
    }

pub returns-in_default : goal.returns-in_default
unfolding request_result
returns-in_default c =
    let d = c.decide-decision in
    record {
      value = rw (← d.ensures) (c.switched.ensures ∙ listed c.args.self _ d.result (opened c.in_default.in_default-own.keys2));
      laws = laws;
    }
