use Rattle.base.proofs.Prelude.{◌≡◌, sym, ◌∙◌, false}
use Rattle.std.proofs.lemmas.Result.{err_from_is_err_and}
use Rattle.energy.proofs.Joins.{any_unreduced, days_unreduced, import_refused, export_refused, both_joined, join_laws}
use Rattle.energy.proofs.NearMisses.{near_misses}
use Rattle.energy.proofs.joining.join_days.Goals as goal
use Rattle.energy.proofs.joining.join_days.Goals.{Else-is_unreduced}

pub returns-then-is_unreduced : goal.returns-then-is_unreduced
returns-then-is_unreduced c = record {
  value = days_unreduced _ _ (rw (← c.is_unreduced.ensures, ← c.is_unreduced-2.ensures, ← c.is_unreduced-3.ensures, ← c.is_unreduced-4.ensures) c.if-is_unreduced.true);
  laws = join_laws;
  near_misses = near_misses;
}

reduced : (c : Else-is_unreduced) → any_unreduced c.args.a c.args.b ≡ false
reduced c =
    rw (← c.is_unreduced.ensures, ← c.is_unreduced-2.ensures, ← c.is_unreduced-3.ensures, ← c.is_unreduced-4.ensures) c.if-is_unreduced.false

pub returns-in_err-join : goal.returns-in_err-join
returns-in_err-join c =
    let r = err_from_is_err_and c.from_residual.result c.from_residual.ensures.1 in
    let import = sym c.join.ensures ∙ c.in_err-join.was in
    record {
      value = rw (r.1, r.2) (import_refused _ _ (reduced (goal.at.returns-in_err-join c).Else-is_unreduced) _ import);
      laws = join_laws;
      near_misses = near_misses;
    }

pub returns-in_err-join-2 : goal.returns-in_err-join-2
returns-in_err-join-2 c =
    let r = err_from_is_err_and c.from_residual-in_err-join-2.result c.from_residual-in_err-join-2.ensures.1 in
    let import = sym c.join.ensures ∙ c.in_ok-join.was in
    let export = sym c.join-2.ensures ∙ c.in_err-join-2.was in
    record {
      value = rw (r.1, r.2) (export_refused _ _ (reduced (goal.at.returns-in_err-join-2 c).Else-is_unreduced) _ _ import export);
      laws = join_laws;
      near_misses = near_misses;
    }

pub returns : goal.returns
returns c =
    let import = sym c.join.ensures ∙ c.in_ok-join.was in
    let export = sym c.join-2.ensures ∙ c.in_ok-join-2.was in
    record {
      value = both_joined _ _ (reduced (goal.at.returns c).Else-is_unreduced) _ _ import export;
      laws = join_laws;
      near_misses = near_misses;
    }
