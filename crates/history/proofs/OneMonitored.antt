-- With one monitored value a sample decides and owes what document 01 says of its firing.
use Prim.Native.Nat.{ℕ}
use mathlib.Core.Path.{◌≡◌, refl, sym, ap, ap₂, ◌∙◌}
use mathlib.Core.Bool.{Bool, true, false, not, ◌&&◌, ◌||◌, cond, or-false}
use mathlib.Core.List.{List, [], ◌∷◌, ◌++◌, append-nil, append_assoc}
use mathlib.Core.Option.{Option, none, some}
use lib.Dec.{eqb}
use lib.IntN.{ℤ}
use borrow.Author.Tests.{eq-eqb}
use Rattle.base.specs.Tests.{among, any, eq_z, numbers_from, gathered}
use Rattle.events.specs.Line.{Line, line}
use Rattle.history.specs.Effects.{AnyFresh, sampled}
use Rattle.history.specs.Last.{History, otherwise, given, last, mode_of, clock_of}
use Rattle.history.specs.Profile.{threshold_in_force, threshold_at}
use Rattle.history.specs.Limiter.{monitored_values}
use Rattle.history.specs.Switch.{spell, observations, last_decided, decides, switch_of, exceeded_of}
use Rattle.history.specs.Logs.{when, moves, local_code, firing_lines, change_lines}
use Rattle.history.specs.Laws.{over_firing, under_firing, line_after, OneMonitoredValue}

-- one threshold, one monitored value
pub one_value : (f : AnyFresh) (t : ℤ) → f.thresholds ≡ t ∷ [] → monitored_values f ≡ 0 ∷ []
unfolding numbers_from
one_value f t e = rw e

-- what a sample decides, by its firing
abbrev decides_one : AnyFresh → List ℤ → History → Option ℕ
decides_one f ps h =
    cond (spell h) none
    (cond (over_firing f ps h && not (eqb (mode_of f h) 0)) (some 2)
    (given (under_firing f ps h && among (5 ∷ 6 ∷ []) (mode_of f h)) 1))

sample_decides : (f : AnyFresh) → monitored_values f ≡ 0 ∷ [] → (ps : List ℤ) (h : History) → decides f (sampled ps) h ≡ decides_one f ps h
unfolding any
sample_decides f one ps h =
    ap (cond (spell h) none)
    (rw one (go (exceeded_of f 0 h) (exceeded_of f 0 (sampled ps ∷ h)) (eqb (mode_of f h) 0) (among (5 ∷ 6 ∷ []) (mode_of f h))))
  where
    go :
        (x y z l : Bool)
        → cond ((not x && y) || false) (given {A = ℕ} (not z) 2) (given (((x && not y) || false) && not (y || false) && l) 1)
        ≡ cond ((not x && y) && not z) (some 2) (given ((x && not y) && l) 1)
    go true true z l = refl
    go true false z l = refl
    go false true true l = refl
    go false true false l = refl
    go false false z l = refl

switch_sampled :
    (f : AnyFresh)
    → monitored_values f ≡ 0 ∷ []
    → (ps : List ℤ) (h : History)
    → switch_of f (sampled ps ∷ h) ≡ cond (spell h) 0 (otherwise (decides_one f ps h) (last_decided f h))
unfolding switch_of spell last observations last_decided
switch_sampled f one ps h = ap (λ (o : Option ℕ). cond (spell h) 0 (otherwise o (last_decided f h))) (sample_decides f one ps h)

-- a switch that stays logs nothing
stays : (v : ℕ) → not (eqb v v) ≡ false
stays v = rw (eq-eqb v v refl)

-- the lines of a sample: by Exceeded before and after it, mode 0, the modes of h, the spell and the last deciding call before it
firing_lines_lem : (now : ℕ) (x y z l s : Bool) (v : ℕ) →
    let to = cond s 0 (otherwise (cond s none (cond ((not x && y) && not z) (some 2) (given ((x && not y) && l) 1))) v) in
    let moved = not (eqb (cond s 0 v) to) in
    ((when (not x && y) (line now 65 ∷ []) ++ when (x && not y) (line now 66 ∷ [])) ++ []) ++ when moved (line now (local_code to) ∷ [])
    ≡ when (not x && y) (line now 65 ∷ when moved (line now 64 ∷ [])) ++ when (x && not y) (line now 66 ∷ when moved (line now 69 ∷ []))
firing_lines_lem now true true z l true v = refl
firing_lines_lem now true false z l true v = refl
firing_lines_lem now false true z l true v = refl
firing_lines_lem now false false z l true v = refl
firing_lines_lem now true true z l false v = rw (stays v)
firing_lines_lem now true false z true false v = refl
firing_lines_lem now true false z false false v = rw (stays v)
firing_lines_lem now false true true l false v = rw (stays v)
firing_lines_lem now false true false l false v = sym (append-nil _)
firing_lines_lem now false false z l false v = rw (stays v)

-- a change of the one threshold in force
one_change : (f : AnyFresh) → monitored_values f ≡ 0 ∷ [] → (now : ℕ) (before after : ℕ → ℤ)
    → change_lines f now before after ≡ when (not (eq_z (before 0) (after 0))) (line now 67 ∷ [])
unfolding any
one_change f one now before after = rw one (ap (λ (x : Bool). when x (line now 67 ∷ [])) (or-false (not (eq_z (before 0) (after 0)))))

-- the lines of a sample, between two that are owed before and after them
between : (xs ys zs us vs : List Line) → ys ++ zs ≡ us → xs ++ (ys ++ (zs ++ vs)) ≡ xs ++ (us ++ vs)
between xs ys zs us vs e = ap (λ (ls : List Line). xs ++ ls) (sym (append_assoc ys zs vs) ∙ ap (λ (ls : List Line). ls ++ vs) e)

sample_lines_lem : (f : AnyFresh) → monitored_values f ≡ 0 ∷ [] → (ps : List ℤ) (h : History)
    → gathered (firing_lines f (sampled ps) h) (monitored_values f)
    ++ when (moves f (sampled ps) h) (line_after f ps h (local_code (switch_of f (sampled ps ∷ h))) ∷ [])
    ≡ when (over_firing f ps h) (line_after f ps h 65 ∷ when (moves f (sampled ps) h) (line_after f ps h 64 ∷ []))
    ++ when (under_firing f ps h) (line_after f ps h 66 ∷ when (moves f (sampled ps) h) (line_after f ps h 69 ∷ []))
unfolding gathered switch_of
sample_lines_lem f one ps h =
    rw (switch_sampled f one ps h, one)
    (firing_lines_lem (clock_of f (sampled ps ∷ h)) (exceeded_of f 0 h) (exceeded_of f 0 (sampled ps ∷ h)) (eqb (mode_of f h) 0)
    (among (5 ∷ 6 ∷ []) (mode_of f h)) (spell h) (last_decided f h))

sample_owes : (f : AnyFresh) → monitored_values f ≡ 0 ∷ [] → (ps : List ℤ) (h : History) →
    let now = clock_of f (sampled ps ∷ h) in
    let fired = when (over_firing f ps h) (line_after f ps h 65 ∷ when (moves f (sampled ps) h) (line_after f ps h 64 ∷ []))
    ++ when (under_firing f ps h) (line_after f ps h 66 ∷ when (moves f (sampled ps) h) (line_after f ps h 69 ∷ [])) in
    change_lines f now (λ k. threshold_in_force f k h) (λ k. threshold_at f k ps h)
    ++ (gathered (firing_lines f (sampled ps) h) (monitored_values f)
    ++ (when (moves f (sampled ps) h) (line now (local_code (switch_of f (sampled ps ∷ h))) ∷ [])
    ++ change_lines f now (λ k. threshold_at f k ps h) (λ k. threshold_in_force f k (sampled ps ∷ h))))
    ≡ when (not (eq_z (threshold_in_force f 0 h) (threshold_at f 0 ps h))) (line_after f ps h 67 ∷ [])
    ++ (fired ++ when (not (eq_z (threshold_at f 0 ps h) (threshold_in_force f 0 (sampled ps ∷ h)))) (line_after f ps h 67 ∷ []))
sample_owes f one ps h =
    let now = clock_of f (sampled ps ∷ h) in
    let firings = gathered (firing_lines f (sampled ps) h) (monitored_values f) in
    let moved = when (moves f (sampled ps) h) (line now (local_code (switch_of f (sampled ps ∷ h))) ∷ []) in
    ap₂ (λ (xs ys : List Line). xs ++ (firings ++ (moved ++ ys)))
    (one_change f one now (λ k. threshold_in_force f k h) (λ k. threshold_at f k ps h))
    (one_change f one now (λ k. threshold_at f k ps h) (λ k. threshold_in_force f k (sampled ps ∷ h)))
    ∙ between (when (not (eq_z (threshold_in_force f 0 h) (threshold_at f 0 ps h))) (line now 67 ∷ [])) firings moved _
    (when (not (eq_z (threshold_at f 0 ps h) (threshold_in_force f 0 (sampled ps ∷ h)))) (line now 67 ∷ [])) (sample_lines_lem f one ps h)

pub one_monitored_value : (f : AnyFresh) (t : ℤ) → f.thresholds ≡ t ∷ [] → OneMonitoredValue f
one_monitored_value f t e =
    let one = one_value f t e in
    record { sample_decides = sample_decides f one; sample_owes = λ n ps h. ap (when (eqb n 3)) (sample_owes f one ps h) }
