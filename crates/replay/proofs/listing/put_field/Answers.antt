use mathlib.Core.Path.{◌∙◌}
use Prim.Native.Nat.{◌-◌}
use native.Mathlib.Omega.{arith}
use lib.ListN.{length-set}
use borrow.Author.Rules.{rules}
use Rattle.replay.specs.Listing.{digit_byte}
use Rattle.replay.proofs.Digits.{some_digits, field_length}
use Rattle.replay.proofs.Stores.{field_stored, first_digit, next_digit, last_digit}
use Rattle.replay.proofs.listing.put_field.Goals as goal

pub overflow_sub-at : goal.overflow_sub-at
overflow_sub-at c = omega (arith, field_length c.args.n c.args.last)

pub bounds-out-at : goal.bounds-out-at
bounds-out-at c = omega (arith, field_length c.args.n c.args.last)

pub loop-rest-init : goal.loop-rest-init
loop-rest-init c =
    let a = c.args in
    first_digit _ _ _ (omega (arith, field_length a.n a.last)) (omega (arith, length-set a.out.now (a.end - 1) a.last))

pub overflow_sub-at-in-loop-rest : goal.overflow_sub-at-in-loop-rest
overflow_sub-at-in-loop-rest c = omega (arith, some_digits c.loop-rest.rest)

pub bounds-out-at-in-loop-rest : goal.bounds-out-at-in-loop-rest
bounds-out-at-in-loop-rest c = omega (arith, some_digits c.loop-rest.rest)

pub loop-rest-preserved : goal.loop-rest-preserved
loop-rest-preserved c = next_digit c.loop-rest.invariant (search rules)

pub overflow_sub-at-2 : goal.overflow_sub-at-2
overflow_sub-at-2 c = omega (arith, some_digits c.loop-rest.rest)

pub bounds-out-at-2 : goal.bounds-out-at-2
bounds-out-at-2 c = omega (arith, some_digits c.loop-rest.rest)

pub shape_of-out : goal.shape_of-out
shape_of-out c =
    let a = c.args in
    let l = c.loop-rest in
    length-set l.out (l.at - 1) (digit_byte l.rest) ∙ l.invariant.size ∙ length-set a.out.now (a.end - 1) a.last

pub returns : goal.returns
returns c =
    let a = c.args in
    let stored = last_digit c.loop-rest.invariant (search rules) in
    let ended = field_stored a.out.now a.end a.n a.last c.requires.0 in
    (stored.0 ∙ ended.0, stored.1 ∙ ended.1)
