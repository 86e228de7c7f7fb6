-- Full stretches, Exceeded and Run as splits of what the limiter saw, both ways.
use Prim.Native.Nat.{ℕ, zero, suc}
use mathlib.Core.Path.{◌≡◌, refl, sym, ap, ap₂, subst, ◌∙◌}
use mathlib.Core.Bool.{Bool, true, false, not, ◌&&◌, cond, beq, false≢true, and-false}
use mathlib.Core.List.{List, [], ◌∷◌, ◌++◌, map, map-append, append_assoc, append-nil}
use mathlib.Core.Logic.{◌↔◌, ◌≢◌}
use mathlib.Core.Option.{some}
use lib.Dec.{eqb, leb, leb-zero, leb-suc-zero, leb-suc-suc}
use lib.IntN.{ℤ}
use lib.ListN.{length, take, drop, replicate}
use lib.Signed.{lt_z}
use Rattle.base.specs.Tests.{eq_z}
use Rattle.history.specs.Effects.{AnyFresh, Profile, remote_disconnect, remote_reconnect, manual_disconnect, manual_reconnect, Effect, sampled, requested}
use Rattle.history.specs.Effects.{mode_set, limits_set, clock_set, occurred, filter_set, bits_cleared, log_cleared, groups_set, profile_set}
use Rattle.history.specs.Last.{History, otherwise, given, last, limits_of, number_at}
use Rattle.history.specs.Profile.{threshold_in_force, threshold_at}
use Rattle.history.specs.Limiter.{Observation, setting, judged, duration_of, duration, since_setting, all_are, stretch_ends, exceeded, trailing}
use Rattle.history.specs.Switch.{switch_by, setting_of, change_seen, observations, last_decided, exceeded_of, run_of}
use Rattle.history.specs.Splits.{LatestElse, InForce, FullStretch, stretch_at, Trailing, all, broken}
use Rattle.history.proofs.Lists.{latest_split}

-- what the limiter sees in a sample and in a setting
pub sample_seen : (f : AnyFresh) (k : ℕ) (ps : List ℤ) (h : History)
    → observations f k (sampled ps ∷ h)
    ≡ change_seen f h (threshold_at f k ps h) (threshold_in_force f k (sampled ps ∷ h))
    ++ (judged (lt_z (threshold_at f k ps h) (number_at ps k))
    ∷ (change_seen f h (threshold_in_force f k h) (threshold_at f k ps h) ++ observations f k h))
unfolding observations
sample_seen f k ps h =
    append_assoc (change_seen f h (threshold_at f k ps h) (threshold_in_force f k (sampled ps ∷ h)))
    (judged (lt_z (threshold_at f k ps h) (number_at ps k)) ∷ change_seen f h (threshold_in_force f k h) (threshold_at f k ps h))
    (observations f k h)

pub setting_seen : (f : AnyFresh) (k : ℕ) (ts : List ℤ) (o u : ℕ) (h : History)
    → observations f k (limits_set ts o u ∷ h) ≡ setting o u ∷ observations f k h
unfolding observations
setting_seen f k ts o u h = refl

-- 'Other calls between don't break it': the limiter sees samples, settings, manual reconnects and profiles alone
pub others_unseen :
    (f : AnyFresh) (k : ℕ) (e : Effect) (h : History)
    → ((ps : List ℤ) → e ≢ sampled ps)
    → ((ts : List ℤ) (o u : ℕ) → e ≢ limits_set ts o u)
    → e ≢ requested manual_reconnect
    → ((w : Profile) → e ≢ profile_set w)
    → observations f k (e ∷ h) ≡ observations f k h
unfolding observations
others_unseen f k (sampled ps) h s l m p = absurd (s ps refl)
others_unseen f k (requested remote_disconnect) h s l m p = refl
others_unseen f k (requested remote_reconnect) h s l m p = refl
others_unseen f k (requested manual_disconnect) h s l m p = refl
others_unseen f k (requested manual_reconnect) h s l m p = absurd (m refl)
others_unseen f k (mode_set n) h s l m p = refl
others_unseen f k (limits_set ts o u) h s l m p = absurd (l ts o u refl)
others_unseen f k (clock_set n) h s l m p = refl
others_unseen f k (occurred r) h s l m p = refl
others_unseen f k (filter_set r n) h s l m p = refl
others_unseen f k (bits_cleared r n) h s l m p = refl
others_unseen f k (log_cleared n) h s l m p = refl
others_unseen f k (groups_set g) h s l m p = refl
others_unseen f k (profile_set w) h s l m p = absurd (p w refl)

sample_more : (c : Bool) {os : List Observation} → InForce os → InForce (judged c ∷ os)
sample_more c i =
    let split = ap (λ (os : List Observation). judged c ∷ os) i.split in
    record { samples = c ∷ i.samples; over = i.over; under = i.under; before = i.before; split = split }

-- a change of the threshold in force is a setting
change_more : (f : AnyFresh) (h : History) (before after : ℤ) {os : List Observation} → InForce os → InForce (change_seen f h before after ++ os)
change_more f h before after {os} i = go (eq_z before after)
  where
    go : (x : Bool) → InForce (cond x [] (setting_of f h ∷ []) ++ os)
    go true = i
    go false = record { samples = []; over = (limits_of f h).over; under = (limits_of f h).under; before = os; split = refl }

-- a setting with nothing before it, or what was seen
only_setting : (x : Bool) (o u : ℕ) {os : List Observation} → InForce os → InForce (cond x (setting o u ∷ []) os)
only_setting true o u i = record { samples = []; over = o; under = u; before = []; split = refl }
only_setting false o u i = i

-- 'A limiter setting is fresh or an accepted call 7': there is always one
pub in_force_lem : (f : AnyFresh) (k : ℕ) (h : History) → InForce (observations f k h)
unfolding observations
in_force_lem f k [] = record { samples = []; over = f.over; under = f.under; before = []; split = refl }
in_force_lem f k (sampled ps ∷ h) =
    subst InForce (sym (sample_seen f k ps h))
    (change_more f h (threshold_at f k ps h) (threshold_in_force f k (sampled ps ∷ h))
    (sample_more _ (change_more f h (threshold_in_force f k h) (threshold_at f k ps h) (in_force_lem f k h))))
in_force_lem f k (requested remote_disconnect ∷ h) = in_force_lem f k h
in_force_lem f k (requested remote_reconnect ∷ h) = in_force_lem f k h
in_force_lem f k (requested manual_disconnect ∷ h) = in_force_lem f k h
in_force_lem f k (requested manual_reconnect ∷ h) =
    only_setting (eqb (switch_by h (last_decided f h)) 2) (limits_of f h).over (limits_of f h).under (in_force_lem f k h)
in_force_lem f k (mode_set n ∷ h) = in_force_lem f k h
in_force_lem f k (limits_set ts o u ∷ h) = record { samples = []; over = o; under = u; before = observations f k h; split = refl }
in_force_lem f k (clock_set n ∷ h) = in_force_lem f k h
in_force_lem f k (occurred r ∷ h) = in_force_lem f k h
in_force_lem f k (filter_set s n ∷ h) = in_force_lem f k h
in_force_lem f k (bits_cleared s n ∷ h) = in_force_lem f k h
in_force_lem f k (log_cleared n ∷ h) = in_force_lem f k h
in_force_lem f k (groups_set g ∷ h) = in_force_lem f k h
in_force_lem f k (profile_set w ∷ h) = change_more f h (threshold_in_force f k h) (threshold_in_force f k (profile_set w ∷ h)) (in_force_lem f k h)

since_is : (xs : List Bool) (o u : ℕ) (os : List Observation) → since_setting (map judged xs ++ (setting o u ∷ os)) ≡ xs
unfolding since_setting
since_is [] o u os = refl
since_is (x ∷ xs) o u os = ap (λ (ys : List Bool). x ∷ ys) (since_is xs o u os)

duration_is : (b : Bool) (xs : List Bool) (o u : ℕ) (os : List Observation) → duration b (map judged xs ++ (setting o u ∷ os)) ≡ duration_of b o u
unfolding duration
duration_is b [] o u os = refl
duration_is b (x ∷ xs) o u os = duration_is b xs o u os

-- the durations in force are those last accepted, else fresh
either_duration : (x b : Bool) (o u : ℕ) (os : List Observation) → duration b os ≡ duration_of b o u
    → duration b (cond x (setting o u ∷ []) os) ≡ duration_of b o u
unfolding duration
either_duration true b o u os e = refl
either_duration false b o u os e = e

change_duration : (f : AnyFresh) (h : History) (before after : ℤ) (b : Bool) (os : List Observation)
    → duration b os ≡ duration_of b (limits_of f h).over (limits_of f h).under
    → duration b (change_seen f h before after ++ os) ≡ duration_of b (limits_of f h).over (limits_of f h).under
unfolding duration
change_duration f h before after b os e = go (eq_z before after)
  where
    go : (x : Bool) → duration b (cond x [] (setting_of f h ∷ []) ++ os) ≡ duration_of b (limits_of f h).over (limits_of f h).under
    go true = e
    go false = refl

pub durations_last : (f : AnyFresh) (k : ℕ) (h : History) (b : Bool)
    → duration b (observations f k h) ≡ duration_of b (limits_of f h).over (limits_of f h).under
unfolding observations duration last
durations_last f k [] b = refl
durations_last f k (sampled ps ∷ h) b =
    ap (duration b) (sample_seen f k ps h)
    ∙ change_duration f h (threshold_at f k ps h) (threshold_in_force f k (sampled ps ∷ h)) b _
    (change_duration f h (threshold_in_force f k h) (threshold_at f k ps h) b (observations f k h) (durations_last f k h b))
durations_last f k (requested remote_disconnect ∷ h) b = durations_last f k h b
durations_last f k (requested remote_reconnect ∷ h) b = durations_last f k h b
durations_last f k (requested manual_disconnect ∷ h) b = durations_last f k h b
durations_last f k (requested manual_reconnect ∷ h) b =
    either_duration (eqb (switch_by h (last_decided f h)) 2) b (limits_of f h).over (limits_of f h).under (observations f k h) (durations_last f k h b)
durations_last f k (mode_set n ∷ h) b = durations_last f k h b
durations_last f k (limits_set ts o u ∷ h) b = refl
durations_last f k (clock_set n ∷ h) b = durations_last f k h b
durations_last f k (occurred r ∷ h) b = durations_last f k h b
durations_last f k (filter_set s n ∷ h) b = durations_last f k h b
durations_last f k (bits_cleared s n ∷ h) b = durations_last f k h b
durations_last f k (log_cleared n ∷ h) b = durations_last f k h b
durations_last f k (groups_set g ∷ h) b = durations_last f k h b
durations_last f k (profile_set w ∷ h) b =
    change_duration f h (threshold_in_force f k h) (threshold_in_force f k (profile_set w ∷ h)) b (observations f k h) (durations_last f k h b)

pub in_force_limits :
    (f : AnyFresh) (k : ℕ) (h : History) (i : InForce (observations f k h))
    → (i.over ≡ (limits_of f h).over) × (i.under ≡ (limits_of f h).under)
in_force_limits f k h i = (same_duration true, same_duration false)
  where
    same_duration : (b : Bool) → duration_of b i.over i.under ≡ duration_of b (limits_of f h).over (limits_of f h).under
    same_duration b = sym (duration_is b i.samples i.over i.under i.before) ∙ ap (duration b) (sym i.split) ∙ durations_last f k h b

-- the first d are there and all b
abbrev all_first : Bool → ℕ → List Bool → Bool
all_first b d xs = leb d (length xs) && all_are b (take d xs)

same : (b : Bool) → beq b b ≡ true
same true = refl
same false = refl

first_all : (b : Bool) (d : ℕ) (xs : List Bool) → all_first b d xs ≡ true → xs ≡ replicate d b ++ drop d xs
unfolding all_are
first_all b zero xs q = refl
first_all b (suc d) [] q = absurd (false≢true (rw (leb-suc-zero d) at q))
first_all true (suc d) (true ∷ xs) q = ap (λ (ys : List Bool). true ∷ ys) (first_all true d xs (rw (leb-suc-suc d (length xs)) at q))
first_all true (suc d) (false ∷ xs) q = absurd (false≢true (sym (and-false (leb (suc d) (suc (length xs)))) ∙ q))
first_all false (suc d) (true ∷ xs) q = absurd (false≢true (sym (and-false (leb (suc d) (suc (length xs)))) ∙ q))
first_all false (suc d) (false ∷ xs) q = ap (λ (ys : List Bool). false ∷ ys) (first_all false d xs (rw (leb-suc-suc d (length xs)) at q))

all_first_lem : (b : Bool) (d : ℕ) (ys : List Bool) → all_first b d (replicate d b ++ ys) ≡ true
unfolding all_are
all_first_lem b zero ys = rw (leb-zero (length ys))
all_first_lem b (suc d) ys = rw (leb-suc-suc, same b) (all_first_lem b d ys)

-- whether a stretch ends, by the setting in force
ends_by :
    (b : Bool) (xs : List Bool) (o u : ℕ) (os : List Observation)
    → stretch_ends b (map judged xs ++ (setting o u ∷ os)) ≡ all_first b (duration_of b o u) xs
ends_by b xs o u os = ap₂ (all_first b) (duration_is b xs o u os) (since_is xs o u os)

pub stretch_split : (b : Bool) (os : List Observation) → InForce os → (stretch_ends b os ≡ true) ↔ FullStretch b os
stretch_split b os i = (to, from)
  where
    to : stretch_ends b os ≡ true → FullStretch b os
    to q =
        let d = duration_of b i.over i.under in
        let tail = setting i.over i.under ∷ i.before in
        let a = first_all b d i.samples (sym (ends_by b i.samples i.over i.under i.before) ∙ ap (stretch_ends b) (sym i.split) ∙ q) in
        record {
          others = drop d i.samples;
          over = i.over;
          under = i.under;
          before = i.before;
          split =
              i.split
              ∙ ap (λ (xs : List Bool). map judged xs ++ tail) a
              ∙ rw (map-append judged) (append_assoc (map judged (replicate d b)) (map judged (drop d i.samples)) tail);
        }

    from : FullStretch b os → stretch_ends b os ≡ true
    from s =
        let d = duration_of b s.over s.under in
        let tail = setting s.over s.under ∷ s.before in
        ap (stretch_ends b) s.split
        ∙ ap (stretch_ends b)
        (sym (append_assoc (map judged (replicate d b)) (map judged s.others) tail)
        ∙ ap (λ (os : List Observation). os ++ tail) (sym (map-append judged (replicate d b) s.others)))
        ∙ ends_by b (replicate d b ++ s.others) s.over s.under s.before
        ∙ all_first_lem b d s.others

-- 'Exceeded is yes if the latest full stretch, under any settings, was over; no if it was under or there is none'
pub exceeded_split : (os : List Observation) (b : Bool) → (exceeded os ≡ b) ↔ LatestElse stretch_at false os b
unfolding exceeded
exceeded_split = latest_split stretch_at exceeded more
  where
    by : (x y r : Bool) → cond x true (cond y false r) ≡ otherwise (cond x (some true) (given y false)) r
    by true y r = refl
    by false true r = refl
    by false false r = refl

    more : (e : Observation) (os : List Observation) → exceeded (e ∷ os) ≡ otherwise (stretch_at e os) (exceeded os)
    more (setting o u) os = refl
    more (judged c) os = by (stretch_ends true (judged c ∷ os)) (stretch_ends false (judged c ∷ os)) (exceeded os)

trailing_same : (b : Bool) (n : ℕ) (ys : List Bool) → trailing b ys ≡ 0 → trailing b (replicate n b ++ ys) ≡ n
unfolding trailing
trailing_same b zero ys z = z
trailing_same b (suc n) ys z = rw (same b, trailing_same b n ys z)

stops : (b : Bool) (ys : List Bool) → trailing b (not b ∷ ys) ≡ 0
unfolding trailing
stops true ys = refl
stops false ys = refl

pub trailing_split : (b : Bool) (xs : List Bool) (n : ℕ) → (trailing b xs ≡ n) ↔ Trailing b xs n
unfolding trailing
trailing_split b xs n = (λ e. subst (Trailing b xs) e (split b xs), from)
  where
    more : (c : Bool) (ys : List Bool) → Trailing c ys (trailing c ys) → Trailing c (c ∷ ys) (suc (trailing c ys))
    more c ys (all q) = all (ap (λ (zs : List Bool). c ∷ zs) q)
    more c ys (broken others q) = broken others (ap (λ (zs : List Bool). c ∷ zs) q)

    split : (c : Bool) (ys : List Bool) → Trailing c ys (trailing c ys)
    split c [] = all refl
    split true (true ∷ ys) = more true ys (split true ys)
    split true (false ∷ ys) = broken ys refl
    split false (true ∷ ys) = broken ys refl
    split false (false ∷ ys) = more false ys (split false ys)

    from : Trailing b xs n → trailing b xs ≡ n
    from (all q) = ap (trailing b) (q ∙ sym (append-nil (replicate n b))) ∙ trailing_same b n [] refl
    from (broken others q) = ap (trailing b) q ∙ trailing_same b n (not b ∷ others) (stops b others)

-- 'Run counts the trailing samples since the last limiter setting that are over (not Exceeded) or not over (Exceeded)'
pub run_split :
    (f : AnyFresh) (k : ℕ) (h : History) (i : InForce (observations f k h)) (n : ℕ)
    → (run_of f k h ≡ n) ↔ Trailing (not (exceeded_of f k h)) i.samples n
run_split f k h i n =
    let since : since_setting (observations f k h) ≡ i.samples = ap since_setting i.split ∙ since_is i.samples i.over i.under i.before in
    rw since (trailing_split (not (exceeded_of f k h)) i.samples n)
