-- What the limiter has seen: a manual reconnect that moves the switch leaves it the setting in force alone; as a split of the history, both ways.
use Prim.Native.Nat.{ℕ}
use mathlib.Core.Path.{◌≡◌, refl, sym, ap, subst, ◌∙◌}
use mathlib.Core.Bool.{Bool, true, false, not, ◌&&◌, cond, false≢true}
use mathlib.Core.List.{List, [], ◌∷◌, ◌++◌, append-nil, append_assoc}
use mathlib.Core.Logic.{◌↔◌, ◌⊎◌, inl, inr}
use mathlib.Core.Option.{Option, none}
use lib.Dec.{eqb}
use Rattle.events.specs.Line.{line}
use Rattle.history.specs.Effects.{AnyFresh, remote_disconnect, remote_reconnect, manual_disconnect, manual_reconnect, Effect, sampled, requested}
use Rattle.history.specs.Effects.{mode_set, limits_set, clock_set, occurred, filter_set, bits_cleared, log_cleared, groups_set, profile_set}
use Rattle.history.specs.Last.{History, otherwise, given, last, samples_since, clock_of}
use Rattle.history.specs.Limiter.{Observation, setting, exceeded, since_setting, trailing, run}
use Rattle.history.specs.Switch.{spell, setting_of, seen_in, observations, last_decided, switch_of, exceeded_of, run_of}
use Rattle.history.specs.Logs.{when, moves, owed_by}
use Rattle.history.specs.Splits.{Each, NonePicks, Latest, seen_between, Arms, SeenSince, last_armed, never_armed}
use Rattle.history.proofs.Lists.{each_first, each_rest, each_only, latest_or_none}
use Rattle.history.proofs.Splits.{some≢none, given_some}
use Rattle.history.proofs.Letters.{OneOrTwo, one, two, last_decided_lem}

-- a manual reconnect moves the switch exactly from Ready
from_ready : (s : Bool) {c : ℕ} → OneOrTwo c → not (eqb (cond s 0 c) (cond s 0 (otherwise (given (not s) 1) c))) ≡ eqb (cond s 0 c) 2
from_ready true p = refl
from_ready false one = refl
from_ready false two = refl

pub reconnect_moves : (f : AnyFresh) (h : History) → moves f (requested manual_reconnect) h ≡ eqb (switch_of f h) 2
unfolding switch_of spell last observations last_decided
reconnect_moves f h = from_ready (spell h) (last_decided_lem f h)

-- it owes its own line alone
pub armed_owes : (f : AnyFresh) (n : ℕ) (h : History)
    → owed_by f n (requested manual_reconnect) h ≡ when (eqb n 3 && moves f (requested manual_reconnect) h) (line (clock_of f h) 61 ∷ [])
unfolding last samples_since
armed_owes f n h = refl

module _ (f : AnyFresh) (k : ℕ) where
  -- after a manual reconnect, by whether it moves the switch
  seen_reconnect : (h : History)
      → observations f k (requested manual_reconnect ∷ h) ≡ cond (moves f (requested manual_reconnect) h) (setting_of f h ∷ []) (observations f k h)
  unfolding observations switch_of
  seen_reconnect h = ap (λ (x : Bool). cond x (setting_of f h ∷ []) (observations f k h)) (sym (reconnect_moves f h))

  pub moved_arms : (h : History) → moves f (requested manual_reconnect) h ≡ true → observations f k (requested manual_reconnect ∷ h) ≡ setting_of f h ∷ []
  moved_arms h m = seen_reconnect h ∙ ap (λ (x : Bool). cond x (setting_of f h ∷ []) (observations f k h)) m

  pub moved_ends : (h : History) → moves f (requested manual_reconnect) h ≡ true
      → (exceeded_of f k (requested manual_reconnect ∷ h) ≡ false) × (run_of f k (requested manual_reconnect ∷ h) ≡ 0)
  unfolding exceeded since_setting trailing
  moved_ends h m = (ap exceeded (moved_arms h m), ap run (moved_arms h m))

  pub unmoved_unseen : (h : History) → moves f (requested manual_reconnect) h ≡ false → observations f k (requested manual_reconnect ∷ h) ≡ observations f k h
  unmoved_unseen h m = seen_reconnect h ∙ ap (λ (x : Bool). cond x (setting_of f h ∷ []) (observations f k h)) m

  -- one call that does not arm
  seen_one : (e : Effect) (h : History) → ¬ Arms f e h → observations f k (e ∷ h) ≡ seen_in f k e h ++ observations f k h
  unfolding observations
  seen_one (sampled ps) h n = refl
  seen_one (requested remote_disconnect) h n = refl
  seen_one (requested remote_reconnect) h n = refl
  seen_one (requested manual_disconnect) h n = refl
  seen_one (requested manual_reconnect) h n = go (moves f (requested manual_reconnect) h) refl
    where
      go : (x : Bool) → moves f (requested manual_reconnect) h ≡ x → observations f k (requested manual_reconnect ∷ h) ≡ observations f k h
      go true q = absurd (n (record { is_reconnect = refl; is_move = q }))
      go false q = unmoved_unseen h q
  seen_one (mode_set m) h n = refl
  seen_one (limits_set ts o u) h n = refl
  seen_one (clock_set m) h n = refl
  seen_one (occurred r) h n = refl
  seen_one (filter_set r m) h n = refl
  seen_one (bits_cleared r m) h n = refl
  seen_one (log_cleared m) h n = refl
  seen_one (groups_set g) h n = refl
  seen_one (profile_set w) h n = refl

  seen_more : (later before : History) → Each (λ e h. ¬ Arms f e h) later before
      → observations f k (later ++ before) ≡ seen_between f k later before ++ observations f k before
  unfolding seen_between
  seen_more [] before n = refl
  seen_more (e ∷ later) before n =
      seen_one e (later ++ before) (each_first n)
      ∙ ap (λ (os : List Observation). seen_in f k e (later ++ before) ++ os) (seen_more later before (each_rest n))
      ∙ sym (append_assoc (seen_in f k e (later ++ before)) (seen_between f k later before) (observations f k before))

  -- one that does
  arms_alone : (e : Effect) (h : History) → Arms f e h → observations f k (e ∷ h) ≡ setting_of f h ∷ []
  arms_alone e h a = rw a.is_reconnect (moved_arms h (rw a.is_reconnect at a.is_move))

  -- whether a call arms
  arming : Effect → History → Bool
  arming (sampled ps) h = false
  arming (requested remote_disconnect) h = false
  arming (requested remote_reconnect) h = false
  arming (requested manual_disconnect) h = false
  arming (requested manual_reconnect) h = moves f (requested manual_reconnect) h
  arming (mode_set n) h = false
  arming (limits_set ts o u) h = false
  arming (clock_set n) h = false
  arming (occurred r) h = false
  arming (filter_set r n) h = false
  arming (bits_cleared r n) h = false
  arming (log_cleared n) h = false
  arming (groups_set g) h = false
  arming (profile_set w) h = false

  arming_arms : (e : Effect) (h : History) → arming e h ≡ true → Arms f e h
  unfolding arming
  arming_arms (sampled ps) h q = absurd (false≢true q)
  arming_arms (requested remote_disconnect) h q = absurd (false≢true q)
  arming_arms (requested remote_reconnect) h q = absurd (false≢true q)
  arming_arms (requested manual_disconnect) h q = absurd (false≢true q)
  arming_arms (requested manual_reconnect) h q = record { is_reconnect = refl; is_move = q }
  arming_arms (mode_set n) h q = absurd (false≢true q)
  arming_arms (limits_set ts o u) h q = absurd (false≢true q)
  arming_arms (clock_set n) h q = absurd (false≢true q)
  arming_arms (occurred r) h q = absurd (false≢true q)
  arming_arms (filter_set r n) h q = absurd (false≢true q)
  arming_arms (bits_cleared r n) h q = absurd (false≢true q)
  arming_arms (log_cleared n) h q = absurd (false≢true q)
  arming_arms (groups_set g) h q = absurd (false≢true q)
  arming_arms (profile_set w) h q = absurd (false≢true q)

  abbrev picked : Effect → History → Option Bool
  picked e h = given (arming e h) true

  none_arms : (e : Effect) (h : History) → picked e h ≡ none → ¬ Arms f e h
  unfolding arming
  none_arms e h q a = some≢none (rw (a.is_reconnect, rw a.is_reconnect at a.is_move) at q)

  pub seen_split : (h : History) (os : List Observation) → (observations f k h ≡ os) ↔ SeenSince f k h os
  unfolding observations
  seen_split h os = (λ e. subst (SeenSince f k h) e (go (latest_or_none picked h)), from)
    where
      after :
          (later : History) (e : Effect) (before : History)
          → h ≡ later ++ (e ∷ before)
          → Arms f e before
          → Each (λ e h. ¬ Arms f e h) later (e ∷ before)
          → observations f k h ≡ seen_between f k later (e ∷ before) ++ (setting_of f before ∷ [])
      after later e before s a n =
          ap (observations f k) s
          ∙ seen_more later (e ∷ before) n
          ∙ ap (λ (os : List Observation). seen_between f k later (e ∷ before) ++ os) (arms_alone e before a)

      ever : Each (λ e h. ¬ Arms f e h) h [] → observations f k h ≡ seen_between f k h [] ++ (setting f.over f.under ∷ [])
      ever n = ap (observations f k) (sym (append-nil h)) ∙ seen_more h [] n

      from : SeenSince f k h os → observations f k h ≡ os
      from (last_armed later e before s a n q) = after later e before s a n ∙ sym q
      from (never_armed n q) = ever n ∙ sym q

      go : ((v : Bool) × Latest picked h v) ⊎ NonePicks picked h [] → SeenSince f k h (observations f k h)
      go (inl w) =
          let l = w.1 in
          let a = arming_arms l.entry l.before (given_some (arming l.entry l.before) w.0 l.picks) in
          let n = each_only none_arms l.none_later in
          last_armed l.later l.entry l.before l.split a n (after l.later l.entry l.before l.split a n)
      go (inr p) = let n = each_only none_arms p in never_armed n (ever n)
