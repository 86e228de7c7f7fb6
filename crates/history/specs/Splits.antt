-- The forms of document 01's sentences that speak of a last or latest call: there is one, and none later; and the prefixes that are openings.
-- Lists are the newest first. A split: the list is `later`, then the call, then `before`. What the account computes by looking back is equal to these,
-- both ways: see Laws.
use Rattle.std.specs.Prelude.{ℕ, suc, ◌+◌, ◌-◌, ◌≤◌, ◌<◌, ◌≡◌, Bool, true, false, not, ◌&&◌, cond, List, [], ◌∷◌, ◌++◌, map, ◌≢◌, eqb, ℤ, replicate}
use Rattle.std.proofs.Math.Option.{Option, none, some}
use Rattle.base.specs.Numbers.{held}
use Rattle.events.specs.Line.{Line, line}
use Rattle.events.specs.Table.{EventRow}
use Rattle.history.specs.Effects.{AnyFresh, AnyCall, Profile, remote_disconnect, remote_reconnect, manual_reconnect, Effect, sampled, requested, mode_set}
use Rattle.history.specs.Effects.{limits_set, clock_set, occurred, filter_set, bits_cleared, log_cleared, groups_set, profile_set}
use Rattle.history.specs.Last.{History, given, clock_in, clock_of}
use Rattle.history.specs.Profile.{profile_in, ProfileState, no_profile, waiting, active}
use Rattle.history.specs.Switch.{setting_of, seen_in}
use Rattle.history.specs.Limiter.{Observation, setting, judged, duration_of, stretch_ends}
use Rattle.history.specs.Logs.{moves, owed_by}
use Rattle.history.specs.Account.{switch_after}

-- what is said of all later calls: P holds at each entry of `later`, with those before it, which are the rest of `later`, then `before`
pub record Each {A : Type 0} (P : A → List A → Type 0) (later before : List A) : Type 0 where
  pub at :
      (newer : List A) (e : A) (older : List A)
      → later ≡ newer ++ (e ∷ older)
      → P e (older ++ before)

-- none later: at no entry of `later`, each with those before it, does `pick` give anything
abbrev pub NonePicks : {A B : Type 0} → (A → List A → Option B) → List A → List A → Type 0
NonePicks pick later before = Each (λ e h. pick e h ≡ none) later before

-- '.. last accepted ..', '.. the latest full stretch ..', '.. the last deciding call ..': there is an entry at which `pick` gives v,
-- and none later at which it gives anything
pub record Latest {A B : Type 0} (pick : A → List A → Option B) (h : List A) (v : B) : Type 0 where
  pub later : List A
  pub entry : A
  pub before : List A
  pub split : h ≡ later ++ (entry ∷ before)
  pub picks : pick entry before ≡ some v
  pub none_later : NonePicks pick later (entry ∷ before)

-- '.. last accepted, else fresh ..': v is what the latest such entry gives, or a if there is none
pub data LatestElse {A B : Type 0} (pick : A → List A → Option B) (a : B) (h : List A) (v : B) : Type 0 where
  latest : Latest pick h v → LatestElse pick a h v
  never : NonePicks pick h [] → v ≡ a → LatestElse pick a h v

-- '.. an event raised it .. and no clear of it .. came later': there is an entry at which it begins, and none later at which it ends
pub record Ongoing {A : Type 0} (begins ends : A → List A → Bool) (h : List A) : Type 0 where
  pub later : List A
  pub entry : A
  pub before : List A
  pub split : h ≡ later ++ (entry ∷ before)
  pub begun : begins entry before ≡ true
  pub none_ends : Each (λ e h. ends e h ≡ false) later (entry ∷ before)

-- '.. samples since ..', counted in a list of calls
unfoldable pub samples_in : History → ℕ
samples_in [] = 0
samples_in (sampled p ∷ h) = suc (samples_in h)
samples_in (requested q ∷ h) = samples_in h
samples_in (mode_set n ∷ h) = samples_in h
samples_in (limits_set t o u ∷ h) = samples_in h
samples_in (clock_set n ∷ h) = samples_in h
samples_in (occurred r ∷ h) = samples_in h
samples_in (filter_set s n ∷ h) = samples_in h
samples_in (bits_cleared s n ∷ h) = samples_in h
samples_in (log_cleared n ∷ h) = samples_in h
samples_in (groups_set g ∷ h) = samples_in h
samples_in (profile_set w ∷ h) = samples_in h

-- 'Clock: last set, else fresh, plus samples since, held as above'
pub data ClockSince (f : AnyFresh) (h : History) (t : ℕ) : Type 0 where
  last_set :
      (later : History) (n : ℕ) (before : History)
      → h ≡ later ++ (clock_set n ∷ before)
      → NonePicks clock_in later (clock_set n ∷ before)
      → t ≡ held (n + samples_in later)
      → ClockSince f h t
  never_set :
      NonePicks clock_in h []
      → t ≡ held (f.clock + samples_in h)
      → ClockSince f h t

-- 'A spell runs from an accepted remote disconnect to the next accepted remote reconnect or mode 0': there is one, and neither came later
pub record InSpell (h : History) : Type 0 where
  pub later : History
  pub before : History
  pub split : h ≡ later ++ (requested remote_disconnect ∷ before)
  pub no_reconnect : Each (λ e h. e ≢ requested remote_reconnect) later (requested remote_disconnect ∷ before)
  pub no_mode_zero : Each (λ e h. e ≢ mode_set 0) later (requested remote_disconnect ∷ before)

-- '.. lines owed by the call rules ..': those that the calls of `later`, made after those of `before`, owe to log n, oldest first
unfoldable pub owed_between : AnyFresh → ℕ → History → History → List Line
owed_between f n [] before = []
owed_between f n (e ∷ later) before = owed_between f n later before ++ owed_by f n e (later ++ before)

-- '.. since that log was last cleared ..': no call of `later` clears log n
abbrev pub NotCleared : ℕ → History → History → Type 0
NotCleared n later before = Each (λ e h. e ≢ log_cleared n) later before

-- '.. lines owed by the call rules since that log was last cleared, its 255 included ..', or since the fresh meter
pub data OwedSince (f : AnyFresh) (n : ℕ) (h : History) (ls : List Line) : Type 0 where
  last_clear :
      (later before : History)
      → h ≡ later ++ (log_cleared n ∷ before)
      → NotCleared n later (log_cleared n ∷ before)
      → ls ≡ line (clock_of f (log_cleared n ∷ before)) 255 ∷ owed_between f n later (log_cleared n ∷ before)
      → OwedSince f n h ls
  never_cleared :
      NotCleared n h []
      → ls ≡ owed_between f n h []
      → OwedSince f n h ls

-- 'Openings: prefixes with switch 1 whose next call gives another ..': those prefixes of a list of calls, refused ones too
unfoldable pub opening_prefixes : List EventRow → AnyFresh → List AnyCall → List (List AnyCall)
opening_prefixes rows f [] = []
opening_prefixes rows f (next ∷ prefix) =
    cond (eqb (switch_after rows f prefix) 1 && not (eqb (switch_after rows f (next ∷ prefix)) 1))
    (prefix ∷ opening_prefixes rows f prefix)
    (opening_prefixes rows f prefix)

-- what the limiter sees of monitored value k in the calls of `later`, made after those of `before`, newest first
unfoldable pub seen_between : AnyFresh → ℕ → History → History → List Observation
seen_between f k [] before = []
seen_between f k (e ∷ later) before = seen_in f k e (later ++ before) ++ seen_between f k later before

-- document 02, A5: '.. a manual reconnect that moves the switch ..'
pub record Arms (f : AnyFresh) (e : Effect) (h : History) : Type 0 where
  pub is_reconnect : e ≡ requested manual_reconnect
  pub is_move : moves f e h ≡ true

-- document 02, A5: 'In the account such a reconnect acts as a limiter setting, and earlier full stretches no longer count': what the limiter has
-- seen is the setting in force at the last one, and what came later; if there was none, the fresh setting and all that came later
pub data SeenSince (f : AnyFresh) (k : ℕ) (h : History) (os : List Observation) : Type 0 where
  last_armed :
      (later : History) (e : Effect) (before : History)
      → h ≡ later ++ (e ∷ before)
      → Arms f e before
      → Each (λ e h. ¬ Arms f e h) later (e ∷ before)
      → os ≡ seen_between f k later (e ∷ before) ++ (setting_of f before ∷ [])
      → SeenSince f k h os
  never_armed :
      Each (λ e h. ¬ Arms f e h) h []
      → os ≡ seen_between f k h [] ++ (setting f.over f.under ∷ [])
      → SeenSince f k h os

-- '.. the settings in force ..': the last limiter setting that the limiter saw of a monitored value, and the samples since, newest first
pub record InForce (os : List Observation) : Type 0 where
  pub samples : List Bool
  pub over : ℕ
  pub under : ℕ
  pub before : List Observation
  pub split : os ≡ map judged samples ++ (setting over under ∷ before)

-- '.. it and the Over − 1 samples before it are all over, by the settings in force at that sample and none of them before those were set ..'
-- (b true), '.. likewise with Under and samples not over' (b false)
pub record FullStretch (b : Bool) (os : List Observation) : Type 0 where
  pub others : List Bool
  pub over : ℕ
  pub under : ℕ
  pub before : List Observation
  pub split :
      os
      ≡ map judged (replicate (duration_of b over under) b)
      ++ (map judged others ++ (setting over under ∷ before))

-- 'A full over stretch ends at a sample ..' (true), '.. a full under stretch likewise ..' (false)
abbrev pub stretch_at : Observation → List Observation → Option Bool
stretch_at (setting o u) os = none
stretch_at (judged c) os = cond (stretch_ends true (judged c ∷ os)) (some true) (given (stretch_ends false (judged c ∷ os)) false)

-- '.. the trailing samples ..': n of the newest are b, and then there are no more, or one that is not b
pub data Trailing (b : Bool) (xs : List Bool) (n : ℕ) : Type 0 where
  all : xs ≡ replicate n b → Trailing b xs n
  broken : (others : List Bool) → xs ≡ replicate n b ++ (not b ∷ others) → Trailing b xs n

-- ---- document 02, A3: the profile

-- 'It replaces any earlier profile ..': no call of `later` sets one
abbrev pub NoneSet : History → History → Type 0
NoneSet later before = NonePicks profile_in later before

-- no sample of `later` has reached the activation clock; the 'advanced clock' is the one after the sample
abbrev pub NotReached : AnyFresh → ℕ → History → History → Type 0
NotReached f activation later before = Each (λ e h. (ps : List ℤ) → e ≡ sampled ps → clock_of f (e ∷ h) < activation) later before

-- '.. and waits': w is the profile last set, and no sample since has reached activation
pub record Waits (f : AnyFresh) (h : History) (w : Profile) : Type 0 where
  pub since : History
  pub before : History
  pub split : h ≡ since ++ (profile_set w ∷ before)
  pub none_set : NoneSet since (profile_set w ∷ before)
  pub not_reached : NotReached f w.activation since (profile_set w ∷ before)

-- 'It goes active with the first sample whose advanced clock has reached activation ..': w is the profile last set, there is such a sample, and there are n
-- samples from it on, it included
pub record Begun (f : AnyFresh) (h : History) (w : Profile) (n : ℕ) : Type 0 where
  pub since : History
  pub powers : List ℤ
  pub waited : History
  pub before : History
  pub split : h ≡ since ++ (sampled powers ∷ (waited ++ (profile_set w ∷ before)))
  pub none_set : NoneSet since (sampled powers ∷ (waited ++ (profile_set w ∷ before)))
  pub none_set_waiting : NoneSet waited (profile_set w ∷ before)
  pub not_reached : NotReached f w.activation waited (profile_set w ∷ before)
  pub reached : w.activation ≤ clock_of f (sampled powers ∷ (waited ++ (profile_set w ∷ before)))
  pub counted : n ≡ suc (samples_in since)

-- '.. the profile while it waits or runs, which of the two, and samples left; after the last governed sample the state is 0 and the account has no profile'
pub data InState (f : AnyFresh) (h : History) (x : ProfileState) : Type 0 where
  none_ever : NoneSet h [] → x ≡ no_profile → InState f h x
  waits : (w : Profile) → Waits f h w → x ≡ waiting w → InState f h x
  runs : (w : Profile) (n : ℕ) → Begun f h w n → n < w.duration → x ≡ active w (w.duration - n) → InState f h x
  ended : (w : Profile) (n : ℕ) → Begun f h w n → w.duration ≤ n → x ≡ no_profile → InState f h x
