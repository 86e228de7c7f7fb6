-- What an accepted call makes of the values apart from control and limiters: a decision on the switch bears on those alone.
use Prim.Native.Nat.{◌+◌}
use mathlib.Core.Path.{◌≡◌, refl}
use mathlib.Core.Bool.{Bool, true, false}
use mathlib.Core.List.{List, [], ◌++◌, map}
use Rattle.base.specs.Numbers.{held}
use Rattle.base.specs.Tests.{gathered}
use Rattle.events.specs.Line.{Line}
use Rattle.control.specs.declared.Decision.{Decision}
use Rattle.control.specs.declared.Decision.TheVariants.{Move, Stay, NotListed}
use Rattle.control.specs.declared.Request.TheVariants as request
use Rattle.control.specs.Control.{mode_decision, in_mode}
use Rattle.limiter.specs.declared.Watched.{Watched}
use Rattle.emergency.specs.Emergency.{with_groups, with_profile, started, ended}
use Rattle.history.specs.Effects.{alarms, errors, Effect, sampled, requested, mode_set, limits_set, clock_set, occurred, filter_set, bits_cleared, log_cleared}
use Rattle.history.specs.Effects.{groups_set, profile_set}
use Rattle.machine.specs.Values.{Values, with_control, with_limiters, with_clock, with_emergency}
use Rattle.machine.specs.Machine.{moving, decided, armed_values, request_of, fired_lines, disconnect_tried, reconnect_tried, sampled_each, same_threshold}
use Rattle.machine.specs.Machine.{change_lines, after_sample, sample_result}
use Rattle.machine.proofs.Effects.{effect_result}

-- the values after an accepted call, but for control and limiters
abbrev pub other_parts : Values → Effect → Values
other_parts s (sampled ps) = with_emergency (with_clock s (held (s.clock + 1))) (ended (started (held (s.clock + 1)) s.emergency))
other_parts s (requested q) = s
other_parts s (mode_set n) = s
other_parts s (limits_set ts o u) = s
other_parts s (clock_set n) = (effect_result s (clock_set n)).values
other_parts s (occurred r) = (effect_result s (occurred r)).values
other_parts s (filter_set x n) = (effect_result s (filter_set x n)).values
other_parts s (bits_cleared x n) = (effect_result s (bits_cleared x n)).values
other_parts s (log_cleared n) = s
other_parts s (groups_set g) = with_emergency s (with_groups s.emergency g)
other_parts s (profile_set w) = with_emergency s (with_profile s.emergency w.id w.threshold w.activation w.duration)

-- values that are those of s but for control and limiters
abbrev Apart : Values → Values → Type 0
Apart s t = t ≡ with_control (with_limiters s t.limiters) t.control

moving_apart : (s : Values) (xs : List Line) (d : Decision) → Apart s (moving s xs d).values
moving_apart s xs (Move t c o x) = refl
moving_apart s xs Stay = refl
moving_apart s xs NotListed = refl

sample_apart : (s : Values) (xs : List Line) (ws : List Watched) → Apart s (after_sample s xs ws).values
sample_apart s xs ws = go (disconnect_tried ws) (reconnect_tried ws) refl refl
  where
    go : (x y : Bool) → disconnect_tried ws ≡ x → reconnect_tried ws ≡ y → Apart s (after_sample s xs ws).values
    go true y a b = rw a (moving_apart s (xs ++ gathered (fired_lines s) ws) (decided s request.LocalDisconnect))
    go false true a b = rw (a, b) (moving_apart s (xs ++ gathered (fired_lines s) ws) (decided s request.LocalReconnect))
    go false false a b = rw (a, b)

pub values_after : (s : Values) (e : Effect) → Apart (other_parts s e) (effect_result s e).values
unfolding sample_result
values_after s (sampled ps) =
    let now = held (s.clock + 1) in
    let during = started now s.emergency in
    let ws = sampled_each s.emergency during (ended during) s.limiters ps in
    let next = with_emergency (with_limiters (with_clock s now) (map (λ w. w.limiter) ws)) (ended during) in
    sample_apart next (change_lines next (map (same_threshold s.emergency during) s.limiters)) ws
values_after s (requested q) = moving_apart (armed_values s (request_of q)) [] (decided s (request_of q))
values_after s (mode_set n) = moving_apart (with_control s (in_mode s.control n)) [] (mode_decision n s.control.state)
values_after s (limits_set ts o u) = refl
values_after s (clock_set n) = refl
values_after s (occurred r) = refl
values_after s (filter_set alarms n) = refl
values_after s (filter_set errors n) = refl
values_after s (bits_cleared alarms n) = refl
values_after s (bits_cleared errors n) = refl
values_after s (log_cleared n) = refl
values_after s (groups_set g) = refl
values_after s (profile_set w) = refl
