-- `measure_write` meets its contract: the rounds so far that were accepted, and the bytes that they left.
use mathlib.Core.Path.{◌≡◌, refl, ap, ◌∙◌}
use Prim.Native.Nat.{ℕ}
use native.Mathlib.Omega.{arith}
use lib.Dec.{eqb}
use borrow.Author.Rules.{rules}
use Rattle.tables.specs.Index.{table_in}
use Rattle.meter.specs.declared.Meter.{Meter}
use Rattle.page.specs.Layout.{write_answer}
use Rattle.measure.specs.Rounds.{passing, is_accepted, in_round, written_rounds}
use Rattle.measure.proofs.Rounds.{passing_room, next_passing, same_round, next_written, answer_by_length}
use Rattle.measure.proofs.measure_write.Goals as goal

pub loop-round-init : goal.loop-round-init
unfolding passing written_rounds
loop-round-init c = (omega arith, refl, refl, refl, refl)

pub overflow_add-accepted : goal.overflow_add-accepted
overflow_add-accepted c =
    let l = c.loop-round in
    omega (arith, passing_room l.round l.accepted c.from-accepted.result _ (eqb c.number.result 0) l.invariant.1 c.from-accepted.ensures)

pub loop-round-preserved : goal.loop-round-preserved
loop-round-preserved c =
    let l = c.loop-round in
    let m = c.read_page-read.result.meter in
    let a = c.before.args in
    let page = a.page.now in
    let rows = table_in a.table.now in
    let same = same_round l.meter m l.round l.invariant.2 in
    let answers : c.write_page-answer.result ≡ write_answer rows (in_round m l.round) page =
    c.write_page-answer.ensures.value.0
    ∙ ap (λ (x : Meter). write_answer rows x l.page) same
    ∙ answer_by_length rows (in_round m l.round) l.page page l.invariant.4 in (
      search rules,
      next_passing l.round l.accepted c.from-accepted.result (λ i. is_accepted (write_answer rows (in_round m i) page)) _ l.invariant.1 c.from-accepted.ensures
          (ap (λ (k : ℕ). eqb k 0) c.number.ensures ∙ ap is_accepted answers),
      l.invariant.2,
      c.write_page-answer.ensures.value.1 ∙ rw (same, l.invariant.3) (next_written rows m page l.round),
      search rules,
    )

pub returns : goal.returns
returns c =
    let l = c.loop-round in
    let e : l.round ≡ c.before.args.rounds = omega arith in
    let read = c.read_page-read.ensures.value in
    (rw (l.invariant.1, e, read), rw (l.invariant.3, e, read))
