-- `measure_read` meets its contract: the rounds so far that were accepted, and the page with the last of them.
use mathlib.Core.Path.{◌≡◌, refl, ap, ◌∙◌}
use Prim.Native.Nat.{ℕ}
use native.Mathlib.Omega.{arith}
use lib.Dec.{eqb}
use borrow.Author.Rules.{rules}
use Rattle.tables.specs.Index.{table_in}
use Rattle.meter.specs.declared.Outcome.{Outcome}
use Rattle.page.specs.Layout.{read_of}
use Rattle.measure.specs.Rounds.{passing, is_accepted, page_in_round, page_after_rounds}
use Rattle.measure.proofs.Rounds.{passing_room, next_passing, next_page, after_round}
use Rattle.measure.proofs.measure_read.Goals as goal

pub loop-round-init : goal.loop-round-init
unfolding passing page_after_rounds
loop-round-init c = (omega arith, refl, refl, refl)

pub overflow_add-accepted : goal.overflow_add-accepted
overflow_add-accepted c =
    let l = c.loop-round in
    omega (arith, passing_room l.round l.accepted c.from-accepted.result _ (eqb c.number.result 0) l.invariant.1 c.from-accepted.ensures)

pub loop-round-preserved : goal.loop-round-preserved
loop-round-preserved c =
    let l = c.loop-round in
    let a = c.before.args in
    let page = a.page.now in
    let rows = table_in a.table.now in
    let counted : c.count_round.new.page ≡ page_in_round page l.round = c.count_round.ensures ∙ rw l.invariant.2 (next_page page l.round) in (
      search rules,
      next_passing l.round l.accepted c.from-accepted.result (λ i. is_accepted (read_of rows (page_in_round page i)).answer) _ l.invariant.1
          c.from-accepted.ensures
          (ap (λ (k : ℕ). eqb k 0) c.number.ensures
          ∙ ap (λ (o : Outcome). is_accepted o.answer) (c.read_page-read.ensures.value ∙ ap (read_of rows) counted)),
      counted ∙ after_round page l.round,
      search rules,
    )

pub returns : goal.returns
returns c =
    let l = c.loop-round in
    let e : l.round ≡ c.args.rounds = omega arith in
    (rw (l.invariant.1, e), rw (l.invariant.2, e))
