use Rattle.base.proofs.Prelude.{ap₂, ◌∙◌, ℤ, rules}
use Rattle.base.proofs.Tests.{tests}
use Rattle.phases.specs.Examples.{Examples}
use Rattle.phases.specs.Laws.{Laws}
use Rattle.std.specs.Prelude.{Ok}
use Rattle.phases.specs.declared.ThreePhaseCall.TheVariants.{Sample, SetLimiter}
use Rattle.phases.specs.Calls.{three_phase_call_of}
use Rattle.phases.proofs.Named.{laws}
use Rattle.phases.proofs.Examples.{examples}
use Rattle.phases.proofs.read_command.Goals as goal

claims : Laws × Examples
claims = (laws, examples)

pub returns-in-1 : goal.returns-in-1
unfolding three_phase_call_of
returns-in-1 c =
    record {
      value = rw c.in-1.is
          (ap₂ (λ (x : ℤ × ℤ) (z : ℤ). Ok (Sample x.0 x.1 z))
          (ap₂ (λ (x y : ℤ). (x, y)) (search rules ∙ c.signed.ensures) (search rules ∙ c.signed-in-1.ensures)) (search rules ∙ c.signed-in-1-2.ensures));
      laws = claims.0;
      examples = claims.1;
    }

pub returns-in-7 : goal.returns-in-7
unfolding three_phase_call_of
returns-in-7 c =
    let a = c.args.command in record {
      value = rw c.in-7.is
          (ap₂ (λ (x y : ℤ × ℤ). Ok (SetLimiter x.0 x.1 y.0 y.1 a.n5 a.n6))
          (ap₂ (λ (x y : ℤ). (x, y)) (search rules ∙ c.signed-in-7.ensures) (search rules ∙ c.signed-in-7-2.ensures))
          (ap₂ (λ (x y : ℤ). (x, y)) (search rules ∙ c.signed-in-7-3.ensures) (search rules ∙ c.signed-in-7-4.ensures)));
      laws = claims.0;
      examples = claims.1;
    }

pub returns-in-2 : goal.returns-in-2
unfolding three_phase_call_of
returns-in-2 c =
    record {
      value = rw c.in-2.is;
      laws = claims.0;
      examples = claims.1;
    }

pub returns-in-3 : goal.returns-in-3
unfolding three_phase_call_of
returns-in-3 c =
    record {
      value = rw c.in-3.is;
      laws = claims.0;
      examples = claims.1;
    }

pub returns-in-4 : goal.returns-in-4
unfolding three_phase_call_of
returns-in-4 c =
    record {
      value = rw c.in-4.is;
      laws = claims.0;
      examples = claims.1;
    }

pub returns-in-5 : goal.returns-in-5
unfolding three_phase_call_of
returns-in-5 c =
    record {
      value = rw c.in-5.is;
      laws = claims.0;
      examples = claims.1;
    }

pub returns-in-6 : goal.returns-in-6
unfolding three_phase_call_of
returns-in-6 c =
    record {
      value = rw c.in-6.is;
      laws = claims.0;
      examples = claims.1;
    }

pub returns-in-8 : goal.returns-in-8
unfolding three_phase_call_of
returns-in-8 c =
    record {
      value = rw c.in-8.is;
      laws = claims.0;
      examples = claims.1;
    }

pub returns-in-9 : goal.returns-in-9
unfolding three_phase_call_of
returns-in-9 c =
    record {
      value = rw c.in-9.is;
      laws = claims.0;
      examples = claims.1;
    }

pub returns-in-10 : goal.returns-in-10
unfolding three_phase_call_of
returns-in-10 c =
    record {
      value = rw c.in-10.is;
      laws = claims.0;
      examples = claims.1;
    }

pub returns-in-11 : goal.returns-in-11
unfolding three_phase_call_of
returns-in-11 c =
    record {
      value = rw c.in-11.is;
      laws = claims.0;
      examples = claims.1;
    }

pub returns-in-12 : goal.returns-in-12
unfolding three_phase_call_of
returns-in-12 c =
    record {
      value = rw c.in-12.is;
      laws = claims.0;
      examples = claims.1;
    }

pub returns-in-13 : goal.returns-in-13
unfolding three_phase_call_of
returns-in-13 c =
    record {
      value = rw c.in-13.is;
      laws = claims.0;
      examples = claims.1;
    }

pub returns-in-14 : goal.returns-in-14
unfolding three_phase_call_of
returns-in-14 c =
    record {
      value = rw c.in-14.is;
      laws = claims.0;
      examples = claims.1;
    }

pub returns-in-15 : goal.returns-in-15
unfolding three_phase_call_of
returns-in-15 c =
    record {
      value = rw c.in-15.is;
      laws = claims.0;
      examples = claims.1;
    }

pub returns-in_default : goal.returns-in_default
unfolding three_phase_call_of
returns-in_default c =
    record {
      value = search tests;
      laws = claims.0;
      examples = claims.1;
    }
