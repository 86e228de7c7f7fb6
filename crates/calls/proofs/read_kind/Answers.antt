use Rattle.base.proofs.Prelude.{ap, ◌∙◌, ℤ, rules}
use Rattle.base.proofs.Tests.{tests}
use Rattle.std.specs.Prelude.{Ok}
use Rattle.calls.specs.declared.Call.TheVariants.{Sample, SetLimiter, SetProfile}
use Rattle.calls.specs.Calls.{call_of}
use Rattle.calls.proofs.Named.{laws}
use Rattle.calls.proofs.read_kind.Goals as goal

pub returns-in-1 : goal.returns-in-1
unfolding call_of
returns-in-1 c = record {
  value = rw c.in-1.is (ap (λ (z : ℤ). Ok (Sample z)) (search rules ∙ c.signed.ensures));
  laws = laws;
}

pub returns-in-7 : goal.returns-in-7
unfolding call_of
returns-in-7 c =
    let a = c.args.command in
    record {
      value = rw c.in-7.is (ap (λ (z : ℤ). Ok (SetLimiter z a.n2 a.n3)) (search rules ∙ c.signed-in-7.ensures));
      laws = laws;
    }

pub returns-in-17 : goal.returns-in-17
unfolding call_of
returns-in-17 c =
    let a = c.args.command in
    record {
      value = rw c.in-17.is (ap (λ (z : ℤ). Ok (SetProfile a.n1 z a.n3 a.n4)) (search rules ∙ c.signed-in-17.ensures));
      laws = laws;
    }

pub returns-in-2 : goal.returns-in-2
unfolding call_of
returns-in-2 c =
    record {
      value = rw c.in-2.is;
      laws = laws;
    }

pub returns-in-3 : goal.returns-in-3
unfolding call_of
returns-in-3 c =
    record {
      value = rw c.in-3.is;
      laws = laws;
    }

pub returns-in-4 : goal.returns-in-4
unfolding call_of
returns-in-4 c =
    record {
      value = rw c.in-4.is;
      laws = laws;
    }

pub returns-in-5 : goal.returns-in-5
unfolding call_of
returns-in-5 c =
    record {
      value = rw c.in-5.is;
      laws = laws;
    }

pub returns-in-6 : goal.returns-in-6
unfolding call_of
returns-in-6 c =
    record {
      value = rw c.in-6.is;
      laws = laws;
    }

pub returns-in-8 : goal.returns-in-8
unfolding call_of
returns-in-8 c =
    record {
      value = rw c.in-8.is;
      laws = laws;
    }

pub returns-in-9 : goal.returns-in-9
unfolding call_of
returns-in-9 c =
    record {
      value = rw c.in-9.is;
      laws = laws;
    }

pub returns-in-10 : goal.returns-in-10
unfolding call_of
returns-in-10 c =
    record {
      value = rw c.in-10.is;
      laws = laws;
    }

pub returns-in-11 : goal.returns-in-11
unfolding call_of
returns-in-11 c =
    record {
      value = rw c.in-11.is;
      laws = laws;
    }

pub returns-in-12 : goal.returns-in-12
unfolding call_of
returns-in-12 c =
    record {
      value = rw c.in-12.is;
      laws = laws;
    }

pub returns-in-13 : goal.returns-in-13
unfolding call_of
returns-in-13 c =
    record {
      value = rw c.in-13.is;
      laws = laws;
    }

pub returns-in-14 : goal.returns-in-14
unfolding call_of
returns-in-14 c =
    record {
      value = rw c.in-14.is;
      laws = laws;
    }

pub returns-in-15 : goal.returns-in-15
unfolding call_of
returns-in-15 c =
    record {
      value = rw c.in-15.is;
      laws = laws;
    }

pub returns-in-16 : goal.returns-in-16
unfolding call_of
returns-in-16 c =
    record {
      value = rw c.in-16.is;
      laws = laws;
    }

pub returns-in_default : goal.returns-in_default
unfolding call_of
returns-in_default c =
    record {
      value = search tests;
      laws = laws;
    }
