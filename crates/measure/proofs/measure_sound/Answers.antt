-- `measure_sound` meets its contract: the rounds so far that were sound, on the meter that was read but for its clock.
use mathlib.Core.Path.{◌≡◌, refl, ap, ◌∙◌}
use native.Mathlib.Omega.{arith}
use borrow.Author.Rules.{rules}
use Rattle.tables.specs.Index.{table_in}
use Rattle.meter.specs.Sound.{sound_meter}
use Rattle.measure.specs.Rounds.{passing, in_round}
use Rattle.measure.proofs.Rounds.{passing_room, next_passing, same_round}
use Rattle.measure.proofs.measure_sound.Goals as goal

pub loop-round-init : goal.loop-round-init
unfolding passing
loop-round-init c = (omega arith, refl, refl)

pub overflow_add-sound : goal.overflow_add-sound
overflow_add-sound c =
    let l = c.loop-round in
    omega (arith, passing_room l.round l.sound c.from-sound.result _ c.sound.result l.invariant.1 c.from-sound.ensures)

pub loop-round-preserved : goal.loop-round-preserved
loop-round-preserved c =
    let l = c.loop-round in
    let m = c.read_page-read.result.meter in
    let rows = table_in c.args.table.now in (
      search rules,
      next_passing l.round l.sound c.from-sound.result (λ i. sound_meter rows (in_round m i)) c.sound.result l.invariant.1 c.from-sound.ensures
          (c.sound.ensures.value ∙ ap (sound_meter rows) (same_round l.meter m l.round l.invariant.2)),
      l.invariant.2,
    )

pub returns : goal.returns
returns c =
    let l = c.loop-round in
    let e : l.round ≡ c.args.rounds = omega arith in
    rw (l.invariant.1, e, c.read_page-read.ensures.value)
