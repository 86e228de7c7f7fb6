-- The limiter: after each sample the machine's Exceeded, Run and firing are those that the account draws from the stretches behind it. One
-- argument for every monitored value.
use Prim.Native.Nat.{ℕ, zero, suc, ◌≤◌}
use native.Mathlib.Numerals.{add-one}
use mathlib.Core.Path.{◌≡◌, refl, ap, ap₂, sym, ◌∙◌}
use mathlib.Core.Bool.{Bool, true, false, not, ◌&&◌, cond, beq, and-false}
use mathlib.Core.List.{List, [], ◌∷◌, ◌++◌, map}
use lib.Dec.{leb, leb-zero, leb-suc-zero, leb-suc-suc}
use lib.IntN.{ℤ}
use lib.ListN.{length, take}
use lib.Signed.{lt_z}
use borrow.Author.Tests.{leb-true, lt-leb}
use Rattle.base.proofs.Bools.{and_left}
use Rattle.limiter.specs.declared.Limiter.{Limiter}
use Rattle.limiter.specs.declared.Watched.{Watched}
use Rattle.limiter.specs.Limiter.{watching, watched, with_settings, armed}
use Rattle.emergency.specs.Emergency.{ended}
use Rattle.base.specs.Tests.{eq_z}
use Rattle.history.specs.Effects.{AnyFresh, Profile, manual_reconnect, sampled, requested, limits_set, profile_set}
use Rattle.history.specs.Last.{History, Limits, last, limits_of, threshold_of, number_at}
use Rattle.history.specs.Limiter.{Observation, setting, judged, duration_of, duration, since_setting, all_are, exceeded, trailing, run, monitored_values}
use Rattle.history.specs.Switch.{observations, exceeded_of}
use Rattle.history.specs.Profile.{threshold_in_force, threshold_at}
use Rattle.history.specs.Logs.{moves}
use Rattle.history.proofs.Stretches.{sample_seen, durations_last}
use Rattle.history.proofs.Armed.{moved_arms, unmoved_unseen}
use Rattle.machine.specs.Machine.{same_threshold, restarted_by, sampled_value, sampled_each, settings_each}
use Rattle.machine.specs.Ranges.{AnySettings}
use Rattle.machine.proofs.Lists.{map_ext, map_map, each_numbered}
use Rattle.machine.proofs.Ranges.{DurationsInRange, durations_range}
use Rattle.machine.proofs.Effects.{AllProper, held_emergency, held_limiter, held_limiters}
use Rattle.machine.proofs.Profile.{during_of, in_force_before, in_force_at, in_force_after, replacing, in_force_replaced}

-- the duration in force for over samples (true) or others (false) is at least 1
duration_positive : (l : Limits) → DurationsInRange l → (b : Bool) → 1 ≤ duration_of b l.over l.under
duration_positive l p true = leb-true 1 l.over (and_left (leb 1 l.over) (leb l.over 86400) p.0)
duration_positive l p false = leb-true 1 l.under (and_left (leb 1 l.under) (leb l.under 86400) p.1)

-- ---- a full stretch ends where the trailing samples of its kind are at least as many as its duration
counted : (b : Bool) (n : ℕ) (cs : List Bool) → leb n (length cs) && all_are b (take n cs) ≡ leb n (trailing b cs)
unfolding all_are trailing
counted b zero cs = rw (leb-zero (length cs), leb-zero (trailing b cs))
counted b (suc n) [] = rw leb-suc-zero
counted b (suc n) (c ∷ cs) = go (beq b c) (counted b n cs)
  where
    go : (x : Bool) → leb n (length cs) && all_are b (take n cs) ≡ leb n (trailing b cs)
        → leb (suc n) (suc (length cs)) && (x && all_are b (take n cs)) ≡ leb (suc n) (cond x (suc (trailing b cs)) 0)
    go true i = rw (leb-suc-suc n (length cs), leb-suc-suc n (trailing b cs)) i
    go false i = rw leb-suc-zero (and-false (leb (suc n) (suc (length cs))))

-- at a sample only a stretch of its own kind can end: durations are at least 1
exceeded_next : (b : Bool) (os : List Observation) → ((c : Bool) → 1 ≤ duration c os)
    → exceeded (judged b ∷ os) ≡ cond (leb (duration b os) (suc (trailing b (since_setting os)))) b (exceeded os)
unfolding exceeded duration since_setting trailing
exceeded_next true os p =
    let cs = true ∷ since_setting os in
    rw (counted true (duration true os) cs, counted false (duration false os) cs, lt-leb (duration false os) 0 (p false))
exceeded_next false os p =
    let cs = false ∷ since_setting os in
    rw (counted true (duration true os) cs, counted false (duration false os) cs, lt-leb (duration true os) 0 (p true))

-- ---- one sample
-- a limiter with given settings, samples since the last setting, and Exceeded
abbrev limiter_by : ℤ → ℕ → ℕ → List Bool → Bool → Limiter
limiter_by t o u cs e = record { threshold = t; over = o; under = u; exceeded = e; run = trailing (not e) cs }

-- 'A sample that changes Exceeded is a firing'
abbrev pub changes : Bool → Bool → Bool
changes e e' = not (beq e e')

-- what one sample makes of it, by whether the trailing samples of its kind reach their duration
watched_by : (t : ℤ) (o u : ℕ) (cs : List Bool) (e b x : Bool) → leb (duration_of b o u) (suc (trailing b cs)) ≡ x
    → watched (limiter_by t o u cs e) b ≡ watching (limiter_by t o u (b ∷ cs) (cond x b e)) (changes e (cond x b e))
unfolding watched trailing
watched_by t o u cs false false true h = refl
watched_by t o u cs false false false h = refl
watched_by t o u cs false true true h = rw (add-one, h)
watched_by t o u cs false true false h = rw (add-one, h)
watched_by t o u cs true false true h = rw (add-one, h)
watched_by t o u cs true false false h = rw (add-one, h)
watched_by t o u cs true true true h = refl
watched_by t o u cs true true false h = refl

-- the limiter of settings, by what it has seen
abbrev limiter_seeing : ℤ → ℕ → ℕ → List Observation → Limiter
limiter_seeing t o u os = record { threshold = t; over = o; under = u; exceeded = exceeded os; run = run os }

-- a sample
seen_watched : (t : ℤ) (o u : ℕ) (os : List Observation) (b : Bool) → ((c : Bool) → duration c os ≡ duration_of c o u)
    → ((c : Bool) → 1 ≤ duration_of c o u)
    → watched (limiter_seeing t o u os) b ≡ watching (limiter_seeing t o u (judged b ∷ os)) (changes (exceeded os) (exceeded (judged b ∷ os)))
unfolding since_setting
seen_watched t o u os b same positive =
    let cs = since_setting os in
    let next : exceeded (judged b ∷ os) ≡ cond (leb (duration_of b o u) (suc (trailing b cs))) b (exceeded os) =
    exceeded_next b os (λ c. rw (same c) (positive c)) ∙ ap (λ (n : ℕ). cond (leb n (suc (trailing b cs))) b (exceeded os)) (same b) in
    watched_by t o u cs (exceeded os) b (leb (duration_of b o u) (suc (trailing b cs))) refl
    ∙ ap (λ (e : Bool). watching (limiter_by t o u (b ∷ cs) e) (changes (exceeded os) e)) (sym next)

-- a change of the threshold in force (x: there is none)
abbrev change_or : Bool → ℕ → ℕ → List Observation → List Observation
change_or x o u os = cond x [] (setting o u ∷ []) ++ os

seen_restarted : (t : ℤ) (o u : ℕ) (os : List Observation) (x : Bool) → restarted_by x (limiter_seeing t o u os) ≡ limiter_seeing t o u (change_or x o u os)
unfolding exceeded since_setting trailing
seen_restarted t o u os true = refl
seen_restarted t o u os false = refl

same_exceeded : (o u : ℕ) (os : List Observation) (x : Bool) → exceeded (change_or x o u os) ≡ exceeded os
unfolding exceeded
same_exceeded o u os true = refl
same_exceeded o u os false = refl

same_duration : (o u : ℕ) (os : List Observation) (x c : Bool) → duration c os ≡ duration_of c o u → duration c (change_or x o u os) ≡ duration_of c o u
unfolding duration
same_duration o u os true c e = e
same_duration o u os false c e = refl

-- a sample that is over or not (b), with the threshold in force the same before it (x) and after it (y)
sampled_by_lem : (t : ℤ) (o u : ℕ) (os : List Observation) (x y b : Bool) → ((c : Bool) → duration c os ≡ duration_of c o u)
    → ((c : Bool) → 1 ≤ duration_of c o u)
    → (let w = watched (restarted_by x (limiter_seeing t o u os)) b in watching (restarted_by y w.limiter) w.fired)
    ≡ (let after = change_or y o u (judged b ∷ change_or x o u os) in watching (limiter_seeing t o u after) (changes (exceeded os) (exceeded after)))
sampled_by_lem t o u os x y b same positive =
    let before = change_or x o u os in
    let at = judged b ∷ before in
    ap (λ (l : Limiter). watching (restarted_by y (watched l b).limiter) (watched l b).fired) (seen_restarted t o u os x)
    ∙ ap (λ (w : Watched). watching (restarted_by y w.limiter) w.fired) (seen_watched t o u before b (λ c. same_duration o u os x c (same c)) positive)
    ∙ ap (λ (l : Limiter). watching l (changes (exceeded before) (exceeded at))) (seen_restarted t o u at y)
    ∙ ap₂ (λ (e e' : Bool). watching (limiter_seeing t o u (change_or y o u at)) (changes e e')) (same_exceeded o u os x) (sym (same_exceeded o u at y))

-- what the limiter makes of a sample of monitored value k: the limiter after it, and whether Exceeded changed
abbrev pub watched_of : AnyFresh → History → List ℤ → ℕ → Watched
watched_of f h ps k = watching (held_limiter f (sampled ps ∷ h) k) (changes (exceeded_of f k h) (exceeded_of f k (sampled ps ∷ h)))

-- the machine's limiter of a monitored value at a sample: the account's, and it fires exactly if Exceeded changes
value_watched : (f : AnyFresh) (h : History) (ps : List ℤ) → AnySettings f → AllProper f h → (k : ℕ)
    → sampled_value (held_emergency f h) (during_of f h) (ended (during_of f h)) (held_limiter f h k) (number_at ps k) ≡ watched_of f h ps k
unfolding last
value_watched f h ps s a k =
    let l = limits_of f h in
    rw (in_force_before f h k, in_force_at f h ps a k, in_force_after f h ps a k, sample_seen f k ps h)
    (sampled_by_lem (threshold_of f k h) l.over l.under (observations f k h)
    (eq_z (threshold_in_force f k h) (threshold_at f k ps h)) (eq_z (threshold_at f k ps h) (threshold_in_force f k (sampled ps ∷ h)))
    (lt_z (threshold_at f k ps h) (number_at ps k)) (durations_last f k h) (duration_positive l (durations_range f s h a)))

-- all of them
pub sampled_watched : (f : AnyFresh) (h : History) (ps : List ℤ) → AnySettings f → AllProper f h
    → sampled_each (held_emergency f h) (during_of f h) (ended (during_of f h)) (held_limiters f h) ps ≡ map (watched_of f h ps) (monitored_values f)
sampled_watched f h ps s a =
    each_numbered 0 (length f.thresholds) (λ k l. sampled_value (held_emergency f h) (during_of f h) (ended (during_of f h)) l (number_at ps k))
    (held_limiter f h) (watched_of f h ps) (value_watched f h ps s a)

-- ---- a profile over another
pub limiters_replaced : (f : AnyFresh) (h : History) (w : Profile)
    → map (λ l. restarted_by (same_threshold (held_emergency f h) (replacing f h w) l) l) (held_limiters f h) ≡ held_limiters f (profile_set w ∷ h)
unfolding last observations
limiters_replaced f h w =
    map_map (λ l. restarted_by (same_threshold (held_emergency f h) (replacing f h w) l) l) (held_limiter f h) (monitored_values f)
    ∙ map_ext _ (held_limiter f (profile_set w ∷ h)) (monitored_values f)
    (λ k.
    ap₂ (λ (x y : ℤ). restarted_by (eq_z x y) (held_limiter f h k)) (in_force_before f h k) (in_force_replaced f h w k)
    ∙ seen_restarted (threshold_of f k h) (limits_of f h).over (limits_of f h).under (observations f k h)
    (eq_z (threshold_in_force f k h) (threshold_in_force f k (profile_set w ∷ h))))

-- ---- a setting
pub limiters_limited : (f : AnyFresh) (h : History) (ts : List ℤ) (o u : ℕ)
    → settings_each (held_limiters f h) ts o u ≡ held_limiters f (limits_set ts o u ∷ h)
unfolding last observations exceeded since_setting trailing
limiters_limited f h ts o u =
    each_numbered 0 (length f.thresholds) (λ k l. with_settings l (number_at ts k) o u) (held_limiter f h) (held_limiter f (limits_set ts o u ∷ h)) (λ k. refl)

-- ---- a manual reconnect: armed where it moves the switch, else as they were
module _ (f : AnyFresh) (h : History) where
  -- by what the limiter has seen of monitored value k
  abbrev limiter_seen : List Observation → ℕ → Limiter
  limiter_seen os k =
      record { threshold = threshold_of f k h; over = (limits_of f h).over; under = (limits_of f h).under; exceeded = exceeded os; run = run os }

  pub limiters_armed : moves f (requested manual_reconnect) h ≡ true → map armed (held_limiters f h) ≡ held_limiters f (requested manual_reconnect ∷ h)
  unfolding last exceeded since_setting trailing
  limiters_armed m =
      map_map armed (held_limiter f h) (monitored_values f)
      ∙ map_ext _ _ (monitored_values f) (λ k. ap (λ (os : List Observation). limiter_seen os k) (sym (moved_arms f k h m)))

  pub limiters_unarmed : moves f (requested manual_reconnect) h ≡ false → held_limiters f h ≡ held_limiters f (requested manual_reconnect ∷ h)
  unfolding last
  limiters_unarmed m = map_ext _ _ (monitored_values f) (λ k. ap (λ (os : List Observation). limiter_seen os k) (sym (unmoved_unseen f k h m)))
