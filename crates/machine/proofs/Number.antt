-- A call keeps the number of limiters.
use Prim.Native.Nat.{ℕ, suc, ◌+◌}
use mathlib.Core.Path.{◌≡◌, refl, ap, ◌∙◌}
use mathlib.Core.Bool.{Bool, true, false}
use mathlib.Core.List.{List, [], ◌∷◌, ◌++◌, map}
use lib.ListN.{length, length-map}
use Rattle.base.specs.Numbers.{held}
use Rattle.base.specs.Tests.{gathered, each_from}
use Rattle.events.specs.Line.{Line}
use Rattle.events.specs.Table.{EventRow}
use Rattle.control.specs.declared.Request.TheVariants as request
use Rattle.control.specs.declared.Decision.{Decision}
use Rattle.control.specs.declared.Decision.TheVariants.{Move, Stay, NotListed}
use Rattle.control.specs.Control.{mode_decision, in_mode}
use Rattle.limiter.specs.declared.Watched.{Watched}
use Rattle.limiter.specs.Limiter.{armed}
use Rattle.emergency.specs.Emergency.{groups_in, started, ended}
use Rattle.history.specs.Effects.{alarms, errors, AnyCall, Effect, sampled, requested, mode_set, limits_set, clock_set, occurred, filter_set, bits_cleared}
use Rattle.history.specs.Effects.{log_cleared, groups_set, profile_set, Reading, refused, accepted, reading}
use Rattle.machine.specs.Values.{Values, State, with_control, with_limiters, with_clock, with_emergency}
use Rattle.machine.specs.Machine.{moving, decided, armed_values, sampled_each, same_threshold, fired_lines, disconnect_tried, reconnect_tried, after_sample}
use Rattle.machine.specs.Machine.{change_lines, sample_result, request_of, result}
use Rattle.machine.proofs.Effects.{armed_or_not, effect_result, read_result}
use Rattle.machine.specs.Laws.{after_result}
use Rattle.machine.proofs.Answers.{by_reading}

length_each : {A B : Type 0} (k : ℕ) (f : ℕ → A → B) (xs : List A) → length (each_from k f xs) ≡ length xs
unfolding each_from
length_each k f [] = refl
length_each k f (x ∷ xs) = ap suc (length_each (suc k) f xs)

moving_limiters : (v : Values) (xs : List Line) (d : Decision) → (moving v xs d).values.limiters ≡ v.limiters
moving_limiters v xs (Move t c o x) = refl
moving_limiters v xs Stay = refl
moving_limiters v xs NotListed = refl

sample_limiters : (v : Values) (xs : List Line) (ws : List Watched) → (after_sample v xs ws).values.limiters ≡ v.limiters
sample_limiters v xs ws = go (disconnect_tried ws) (reconnect_tried ws) refl refl
  where
    go : (x y : Bool) → disconnect_tried ws ≡ x → reconnect_tried ws ≡ y → (after_sample v xs ws).values.limiters ≡ v.limiters
    go true y a b = rw a (moving_limiters v (xs ++ gathered (fired_lines v) ws) (decided v request.LocalDisconnect))
    go false true a b = rw (a, b) (moving_limiters v (xs ++ gathered (fired_lines v) ws) (decided v request.LocalReconnect))
    go false false a b = rw (a, b)

effect_number : (v : Values) (e : Effect) → length (effect_result v e).values.limiters ≡ length v.limiters
unfolding sample_result
effect_number v (sampled ps) =
    let now = held (v.clock + 1) in
    let during = started now v.emergency in
    let ws = sampled_each v.emergency during (ended during) v.limiters ps in
    let next = with_emergency (with_limiters (with_clock v now) (map (λ w. w.limiter) ws)) (ended during) in
    ap length (sample_limiters next (change_lines next (map (same_threshold v.emergency during) v.limiters)) ws)
    ∙ length-map ws (λ w. w.limiter)
    ∙ length_each 0 _ v.limiters
effect_number v (requested q) =
    ap length (moving_limiters (armed_values v (request_of q)) [] (decided v (request_of q)))
    ∙ armed_or_not (λ ls. length ls ≡ length v.limiters) (request_of q) (decided v (request_of q)) v.limiters refl (length-map v.limiters armed)
effect_number v (mode_set n) = ap length (moving_limiters (with_control v (in_mode v.control n)) [] (mode_decision n v.control.state))
effect_number v (limits_set ts o u) = length_each 0 _ v.limiters
effect_number v (clock_set n) = refl
effect_number v (occurred r) = refl
effect_number v (filter_set alarms n) = refl
effect_number v (filter_set errors n) = refl
effect_number v (bits_cleared alarms n) = refl
effect_number v (bits_cleared errors n) = refl
effect_number v (log_cleared n) = refl
effect_number v (groups_set g) = refl
effect_number v (profile_set w) = length-map v.limiters _

pub number_kept : (rows : List EventRow) (s : State) (c : AnyCall)
    → length (after_result s (result rows s.values c)).values.limiters ≡ length s.values.limiters
number_kept rows s c = rw (by_reading rows s.values c) (go (reading rows s.values.control.mode (groups_in s.values.emergency) c))
  where
    go : (x : Reading) → length (after_result s (read_result s.values x)).values.limiters ≡ length s.values.limiters
    go (refused n) = refl
    go (accepted e) = effect_number s.values e
