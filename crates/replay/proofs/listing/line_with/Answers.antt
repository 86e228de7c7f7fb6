use mathlib.Core.Path.{◌∙◌}
use mathlib.Core.List.{List, ◌++◌}
use Prim.Native.Nat.{ℕ}
use native.Mathlib.Omega.{arith}
use borrow.Author.Rules.{rules}
use lib.ListN.{replicate, length-append}
use Rattle.replay.specs.Listing.{line_bytes}
use Rattle.replay.proofs.Digits.{spaced, from_openings, from_switch, from_refusal, Room, room}
use Rattle.replay.proofs.Stores.{Ending, fits_in_front, in_front, behind}
use Rattle.replay.proofs.listing.line_with.Goals as goal
use Rattle.replay.proofs.listing.line_with.Goals.{After-put_field-openings_at, After-put_field-refusal_at, After-put_field-state_at, Start}

-- there is room for each field
abbrev RoomAt : Start → Type 0
RoomAt c = Room c.args.position c.args.refusal c.args.state c.args.openings

room_at : (c : Start) → RoomAt c
room_at c = room _ _ _ _ (search rules) (search rules) (search rules) (search rules)

-- the function's start, from the place after each store
abbrev start1 : After-put_field-openings_at → Start
start1 c = c.before.before

abbrev start2 : After-put_field-state_at → Start
start2 c = start1 c.before.before.before

abbrev start3 : After-put_field-refusal_at → Start
start3 c = start2 c.before.before.before

-- what stands after each store
abbrev Stands : List ℕ → List ℕ → ℕ → Type 0
Stands = Ending (replicate 40 0) 40

after_openings : (c : After-put_field-openings_at) → Stands (from_openings (start1 c).args.openings) c.put_field-openings_at.new.out c.put_field-openings_at.result
after_openings c = record { place = c.put_field-openings_at.ensures.0; bytes = c.put_field-openings_at.ensures.1 }

after_state : (c : After-put_field-state_at)
    → Stands (from_switch (start2 c).args.state (start2 c).args.openings) c.put_field-state_at.new.out c.put_field-state_at.result
after_state c =
    let s = start1 c.before.before.before in
    in_front (after_openings c.before.before.before) (spaced s.args.state) (room_at s).switch c.put_field-state_at.ensures

after_refusal : (c : After-put_field-refusal_at)
    → Stands (from_refusal (start3 c).args.refusal (start3 c).args.state (start3 c).args.openings) c.put_field-refusal_at.new.out c.put_field-refusal_at.result
after_refusal c =
    let s = start2 c.before.before.before in
    in_front (after_state c.before.before.before) (spaced s.args.refusal) (room_at s).refusal c.put_field-refusal_at.ensures

pub put_field-openings_at-requires : goal.put_field-openings_at-requires
put_field-openings_at-requires c = ((room_at (goal.at.put_field-openings_at-requires c).Start).openings, omega arith)

pub put_field-state_at-requires : goal.put_field-state_at-requires
put_field-state_at-requires c =
    let s = start1 (goal.at.put_field-state_at-requires c).After-put_field-openings_at in
    fits_in_front (after_openings (goal.at.put_field-state_at-requires c).After-put_field-openings_at) (spaced s.args.state) (room_at s).switch (omega arith)

pub put_field-refusal_at-requires : goal.put_field-refusal_at-requires
put_field-refusal_at-requires c =
    let s = start2 (goal.at.put_field-refusal_at-requires c).After-put_field-state_at in
    fits_in_front (after_state (goal.at.put_field-refusal_at-requires c).After-put_field-state_at) (spaced s.args.refusal) (room_at s).refusal (omega arith)

pub put_field-start-requires : goal.put_field-start-requires
put_field-start-requires c =
    let s = start3 (goal.at.put_field-start-requires c).After-put_field-refusal_at in
    fits_in_front (after_refusal (goal.at.put_field-start-requires c).After-put_field-refusal_at) (spaced s.args.position) (room_at s).position (omega arith)

pub returns : goal.returns
unfolding line_bytes
returns c =
    let s = start3 (goal.at.returns c).After-put_field-refusal_at in
    let xs = spaced s.args.position ++ from_refusal s.args.refusal s.args.state s.args.openings in
    let all : Stands xs c.put_field-start.new.out c.put_field-start.result =
    in_front (after_refusal (goal.at.returns c).After-put_field-refusal_at) (spaced s.args.position) (room_at s).position c.put_field-start.ensures in
    let bytes = all.bytes ∙ behind 0 40 xs (rw length-append (room_at s).position) in
    λ i. record { bytes = bytes i; start = all.place i }
