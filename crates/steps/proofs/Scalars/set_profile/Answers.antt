use Prim.Native.Nat.{ℕ}
use mathlib.Core.Path.{◌≡◌, ap, ap₂, ◌∙◌}
use mathlib.Core.Bool.{true, cond}
use lib.IntN.{ℤ}
use mir.Syntax.{w32}
use mir.Val.{of_z}
use lib.Dec.{eqb}
use Rattle.base.proofs.Prelude.{eq-eqb, ne_eqb}
use borrow.Author.Rules.{rules}
use Rattle.base.specs.Tests.{among, eq_z}
use Rattle.emergency.specs.Emergency.{groups_in, with_profile, in_force}
use Rattle.history.specs.OnePhase.{profile_with}
use Rattle.machine.specs.Machine.{profile_result}
use Rattle.steps.specs.Scalars.{values_of}
use Rattle.steps.specs.Step.{step_of}
use Rattle.steps.proofs.Steps.{same_number, same_bits}
use Rattle.steps.proofs.Profiles.{not_in_group, in_group, ranges, no_group, no_range, unlogged, logged, profile_set_lem}
use Rattle.steps.proofs.Scalars.set_profile.Goals as goal
use Rattle.steps.proofs.Scalars.set_profile.Goals.{After-set_profile-self, In-Some}

-- the group was found, and its id is the one asked for
listed : (c : In-Some) → let a = c.args in
    (among (groups_in a.self.emergency) a.id ≡ true) × (c.in-Some.found ≡ a.id)
listed c = let a = c.args in in_group (groups_in a.self.emergency) a.id c.find.ensures c.in-Some.is

-- the profile is set: with a line 67 or without one
set : (c : After-set_profile-self) →
    let a = c.args in
    let l = c.restarted-self.result in
    let e = c.set_profile-self.result in
    cond (eqb (of_z w32 c.in_force.result) (of_z w32 a.self.limiter.threshold))
    (unlogged a.self a.id a.threshold a.activation a.duration l e) (logged a.self a.id a.threshold a.activation a.duration l e)
    ≡ step_of a.self (profile_result (values_of a.self) (profile_with a.id a.threshold a.activation a.duration))
set c =
    let a = c.args in
    let normal = same_number a.self.limiter.threshold (search rules) in
    profile_set_lem a.self a.id a.threshold a.activation a.duration (in_group (groups_in a.self.emergency) a.id c.find.ensures c.in-Some.is).0
    (ranges _ _ a.duration a.threshold c.is_duration.ensures c.ranges.threshold c.if-not-is_duration-threshold.false)
    (same_bits c.in_force.result a.self.limiter.threshold (search rules) normal ∙ ap (λ (z : ℤ). eq_z z a.self.limiter.threshold) (c.in_force.ensures ∙ ap (in_force a.self.emergency) normal)) c.restarted-self.ensures
    (c.set_profile-self.ensures
    ∙ ap₂ (λ (i : ℕ) (t : ℤ). with_profile a.self.emergency i t a.activation a.duration) (in_group (groups_in a.self.emergency) a.id c.find.ensures c.in-Some.is).1
    (same_number a.threshold c.ranges.threshold))

pub returns-in_default : goal.returns-in_default
returns-in_default c =
    let a = c.args in
    rw (c.with.ensures, c.refused.ensures, c.status.ensures)
    (no_group a.self a.id a.threshold a.activation a.duration
    (not_in_group (groups_in a.self.emergency) a.id c.find.ensures c.in_default.is))

pub returns-then-not-is_duration-threshold : goal.returns-then-not-is_duration-threshold
returns-then-not-is_duration-threshold c =
    let a = c.args in
    rw (c.with-then-not-is_duration-threshold.ensures, c.refused-then-not-is_duration-threshold.ensures, c.status-then-not-is_duration-threshold.ensures)
    (no_range a.self a.id a.threshold a.activation a.duration (listed (goal.at.returns-then-not-is_duration-threshold c).In-Some).0
    (ranges _ _ a.duration a.threshold c.is_duration.ensures c.ranges.threshold c.if-not-is_duration-threshold.true))

pub returns-then-same : goal.returns-then-same
returns-then-same c = rw (c.with-then-same.ensures, c.accepted.ensures, c.status-then-same.ensures) (rw (eq-eqb _ _ c.if-same.true) at (set (goal.at.returns-then-same c).After-set_profile-self))

pub returns : goal.returns
returns c = rw (c.with-2.ensures, c.logged.ensures, c.status-2.ensures) (rw (ne_eqb _ _ c.if-same.false) at (set (goal.at.returns c).After-set_profile-self))
