-- A3: the profile as splits of the history, both ways.
use Prim.Native.Nat.{ℕ, zero, suc, min, ◌+◌, ◌-◌, ◌≤◌, ◌<◌}
use native.Mathlib.Nat.{min-zero}
use native.Mathlib.Omega.{arith}
use mathlib.Core.Path.{◌≡◌, refl, sym, ap, ap₂, subst, fun_ext, ◌∙◌}
use mathlib.Core.Bool.{Bool, true, false, not, ◌&&◌, cond, false≢true}
use mathlib.Core.List.{List, [], ◌∷◌, ◌++◌, append_assoc, append-nil}
use mathlib.Core.Logic.{◌↔◌, ◌≢◌, ◌⊎◌, inl, inr}
use mathlib.Core.Option.{Option, none, some}
use lib.Dec.{eqb, leb, ltb}
use lib.IntN.{ℤ, pos, negsuc}
use lib.Signed.{lt_z, le_z}
use lib.ListN.{length, length-take}
use borrow.Author.Tests.{leb-true, leb-false, ltb-true, ltb-false, lt-leb, le-leb, lt-ltb, le-ltb, eq-eqb}
use Rattle.base.specs.Tests.{within, among, every, any, gathered, eq_z}
use Rattle.base.proofs.Bools.{and_left}
use Rattle.events.specs.Line.{Line, line, is_log}
use Rattle.events.specs.Table.{EventRow, lookup}
use Rattle.history.specs.Effects.{AnyFresh, Profile, RequestCall, remote_disconnect, remote_reconnect, AnyCall, sample as sample_call, request, set_mode}
use Rattle.history.specs.Effects.{set_limiter, set_clock, event, set_filter, clear_bits, clear_log, script, set_groups, set_profile, Reading, refused}
use Rattle.history.specs.Effects.{accepted, listed_modes, read_request, read_event, reading, Effect, sampled, requested, mode_set, limits_set, clock_set}
use Rattle.history.specs.Effects.{occurred, filter_set, bits_cleared, log_cleared, groups_set, profile_set}
use Rattle.history.specs.Last.{History, last, samples_since, mode_of, clock_of, threshold_of, number_at}
use Rattle.history.specs.Profile.{groups_in, groups_of, profile_in, profile_of, clocks_since, from_reached, governed, ProfileState, no_profile, waiting}
use Rattle.history.specs.Profile.{active, state_by, state_at, profile_state, threshold_by, threshold_in_force, threshold_with, threshold_at}
use Rattle.history.specs.Limiter.{Observation, judged, since_setting, exceeded, trailing, run, monitored_values}
use Rattle.history.specs.Switch.{setting_of, change_seen, observations, switch_of}
use Rattle.history.specs.Logs.{when, moves, local_code, firing_lines, change_lines, owed_by}
use Rattle.history.specs.Account.{grown, accepted_calls}
use Rattle.history.specs.Splits.{Each, NonePicks, Latest, LatestElse, never, samples_in, NoneSet, NotReached, Waits, Begun, InState, none_ever}
use Rattle.history.specs.Splits.{waits, runs, ended}
use Rattle.history.specs.Laws.{Governs}
use Rattle.history.proofs.Lists.{each_none, each_more, each_first, each_rest, latest_or_none, kept}
use Rattle.history.proofs.Splits.{some≢none, last_split}
use Rattle.history.proofs.Governed.{advanced, reached_more, governed_none}

pub groups_split : (h : History) (g : List ℕ) → (groups_of h ≡ g) ↔ LatestElse groups_in [] h g
groups_split = last_split groups_in []

pub profile_split : (h : History) (o : Option Profile) → (profile_of h ≡ o) ↔ LatestElse profile_in none h o
profile_split = last_split profile_in none

-- ---- a call is a sample, sets a profile, or does neither
abbrev is_sample : Effect → Bool
is_sample (sampled ps) = true
is_sample (requested q) = false
is_sample (mode_set n) = false
is_sample (limits_set ts o u) = false
is_sample (clock_set n) = false
is_sample (occurred r) = false
is_sample (filter_set s n) = false
is_sample (bits_cleared s n) = false
is_sample (log_cleared n) = false
is_sample (groups_set g) = false
is_sample (profile_set w) = false

-- a call that is neither leaves the samples since, and their number
record Other (e : Effect) : Type 0 where
  pub clocks : (f : AnyFresh) (h : History) → clocks_since f (e ∷ h) ≡ clocks_since f h
  pub samples : (h : History) → samples_in (e ∷ h) ≡ samples_in h
  pub unlike : is_sample e ≡ false
  pub picks : (h : History) → profile_in e h ≡ none

data Kind (e : Effect) : Type 0 where
  sample : (ps : List ℤ) → e ≡ sampled ps → Kind e
  sets : (w : Profile) → e ≡ profile_set w → Kind e
  other : Other e → Kind e

kind : (e : Effect) → Kind e
unfolding clocks_since samples_in
kind (sampled ps) = sample ps refl
kind (requested q) = other (record { clocks = λ f h. refl; samples = λ h. refl; unlike = refl; picks = λ h. refl })
kind (mode_set n) = other (record { clocks = λ f h. refl; samples = λ h. refl; unlike = refl; picks = λ h. refl })
kind (limits_set ts o u) = other (record { clocks = λ f h. refl; samples = λ h. refl; unlike = refl; picks = λ h. refl })
kind (clock_set n) = other (record { clocks = λ f h. refl; samples = λ h. refl; unlike = refl; picks = λ h. refl })
kind (occurred r) = other (record { clocks = λ f h. refl; samples = λ h. refl; unlike = refl; picks = λ h. refl })
kind (filter_set s n) = other (record { clocks = λ f h. refl; samples = λ h. refl; unlike = refl; picks = λ h. refl })
kind (bits_cleared s n) = other (record { clocks = λ f h. refl; samples = λ h. refl; unlike = refl; picks = λ h. refl })
kind (log_cleared n) = other (record { clocks = λ f h. refl; samples = λ h. refl; unlike = refl; picks = λ h. refl })
kind (groups_set g) = other (record { clocks = λ f h. refl; samples = λ h. refl; unlike = refl; picks = λ h. refl })
kind (profile_set w) = sets w refl

-- nothing but a sample and kind 17 bears on the profile
pub profile_kept : (f : AnyFresh) (e : Effect) (h : History) → ((ps : List ℤ) → e ≢ sampled ps) → ((w : Profile) → e ≢ profile_set w) → profile_state f (e ∷ h) ≡ profile_state f h
unfolding last
profile_kept f e h s p = go (kind e)
  where
    go : Kind e → profile_state f (e ∷ h) ≡ profile_state f h
    go (sample ps q) = absurd (s ps q)
    go (sets w q) = absurd (p w q)
    go (other o) = rw (o.picks h, o.clocks f h)

-- ---- the number of samples from the first that reached activation on
abbrev reached_in : AnyFresh → ℕ → History → ℕ
reached_in f a h = length (from_reached a (clocks_since f h))

reached_sampled : (f : AnyFresh) (a : ℕ) (ps : List ℤ) (h : History) → reached_in f a (sampled ps ∷ h) ≡ advanced a (clock_of f (sampled ps ∷ h)) (reached_in f a h)
unfolding clocks_since
reached_sampled f a ps h = reached_more a (clock_of f (sampled ps ∷ h)) (clocks_since f h)

reached_set : (f : AnyFresh) (a : ℕ) (w : Profile) (h : History) → reached_in f a (profile_set w ∷ h) ≡ 0
unfolding clocks_since from_reached
reached_set f a w h = refl

module _ (f : AnyFresh) (a : ℕ) where
  -- none, while no sample has reached it
  reached_none : (later before : History) → NoneSet later before → NotReached f a later before → reached_in f a before ≡ 0 → reached_in f a (later ++ before) ≡ 0
  reached_none [] before n r z = z
  reached_none (e ∷ later) before n r z = go (kind e) (reached_none later before (each_rest n) (each_rest r) z)
    where
      go : Kind e → reached_in f a (later ++ before) ≡ 0 → reached_in f a (e ∷ (later ++ before)) ≡ 0
      go (sample ps q) i =
          rw q (reached_sampled f a ps (later ++ before)
          ∙ ap (advanced a (clock_of f (sampled ps ∷ (later ++ before)))) i
          ∙ rw (lt-leb a (clock_of f (sampled ps ∷ (later ++ before))) (rw q at (each_first r ps q))))
      go (sets w q) i = absurd (some≢none (ap (λ (x : Effect). profile_in x (later ++ before)) (sym q) ∙ each_first n))
      go (other o) i = rw (o.clocks f (later ++ before)) i

  -- one more with each sample, once there is one
  reached_some : (later before : History) (m : ℕ) → NoneSet later before → reached_in f a before ≡ suc m → reached_in f a (later ++ before) ≡ suc (samples_in later + m)
  unfolding samples_in
  reached_some [] before m n z = z ∙ ap suc (omega arith)
  reached_some (e ∷ later) before m n z = go (kind e) (reached_some later before m (each_rest n) z)
    where
      go : Kind e → reached_in f a (later ++ before) ≡ suc (samples_in later + m) → reached_in f a (e ∷ (later ++ before)) ≡ suc (samples_in (e ∷ later) + m)
      go (sample ps q) i =
          rw q (reached_sampled f a ps (later ++ before) ∙ ap (advanced a (clock_of f (sampled ps ∷ (later ++ before)))) i ∙ omega arith)
      go (sets w q) i = absurd (some≢none (ap (λ (x : Effect). profile_in x (later ++ before)) (sym q) ∙ each_first n))
      go (other o) i = rw (o.clocks f (later ++ before), o.samples later) i

-- a history that waits, and one that has begun
module _ (f : AnyFresh) (h : History) (w : Profile) where
  waits_profile : Waits f h w → profile_of h ≡ some w
  unfolding last
  waits_profile x = ap profile_of x.split ∙ kept profile_in (last profile_in none) (λ e h. refl) x.since (profile_set w ∷ x.before) x.none_set

  waits_count : Waits f h w → reached_in f w.activation h ≡ 0
  waits_count x =
      ap (reached_in f w.activation) x.split
      ∙ reached_none f w.activation x.since (profile_set w ∷ x.before) x.none_set x.not_reached (reached_set f w.activation w x.before)

  begun_profile : (n : ℕ) → Begun f h w n → profile_of h ≡ some w
  unfolding last
  begun_profile n x =
      ap profile_of x.split
      ∙ kept profile_in (last profile_in none) (λ e h. refl) x.since (sampled x.powers ∷ (x.waited ++ (profile_set w ∷ x.before))) x.none_set
      ∙ kept profile_in (last profile_in none) (λ e h. refl) x.waited (profile_set w ∷ x.before) x.none_set_waiting

  begun_count : (n : ℕ) → Begun f h w n → reached_in f w.activation h ≡ n
  begun_count n x =
      let a = w.activation in
      let rest = x.waited ++ (profile_set w ∷ x.before) in
      let t = clock_of f (sampled x.powers ∷ rest) in
      let one : reached_in f a (sampled x.powers ∷ rest) ≡ 1 =
      reached_sampled f a x.powers rest
      ∙ ap (advanced a t) (reached_none f a x.waited (profile_set w ∷ x.before) x.none_set_waiting x.not_reached (reached_set f a w x.before))
      ∙ rw (le-leb a t x.reached) in
      ap (reached_in f a) x.split
      ∙ reached_some f a x.since (sampled x.powers ∷ rest) 0 x.none_set one
      ∙ omega (arith, x.counted)

  begun_one : (n : ℕ) → Begun f h w n → 1 ≤ n
  begun_one n x = omega (arith, x.counted)

  -- the profile by that number
  state_by_count : (n : ℕ) → profile_of h ≡ some w → reached_in f w.activation h ≡ n → profile_state f h ≡ state_by w (min w.duration n)
  state_by_count n p c =
      ap (λ (o : Option Profile). state_at o (clocks_since f h)) p
      ∙ ap (state_by w) (length-take w.duration (from_reached w.activation (clocks_since f h)) ∙ ap (min w.duration) c)

still_waiting : (w : Profile) → state_by w (min w.duration 0) ≡ waiting w
still_waiting w = ap (state_by w) (min-zero w.duration)

still_active : (w : Profile) (n : ℕ) → 1 ≤ n → n < w.duration → state_by w (min w.duration n) ≡ active w (w.duration - n)
still_active w zero p l = absurd (omega (arith, p))
still_active w (suc n) p l =
    let e : min w.duration (suc n) ≡ suc n = omega (arith, l) in
    rw e (rw (lt-ltb (suc n) w.duration l))

all_governed : (w : Profile) (n m : ℕ) → m ≡ min w.duration n → 1 ≤ w.duration → w.duration ≤ n → state_by w m ≡ no_profile
all_governed w n zero e p l = absurd (omega (arith, e, p, l))
all_governed w n (suc m) e p l = rw (le-ltb (suc m) w.duration (omega (arith, e, l)))

-- what a split says is what the account says
module _ (f : AnyFresh) (h : History) where
  pub ended_profile : (w : Profile) (n : ℕ) → Begun f h w n → 1 ≤ w.duration → w.duration ≤ n → profile_state f h ≡ no_profile
  ended_profile w n b p l = state_by_count f h w n (begun_profile f h w n b) (begun_count f h w n b) ∙ all_governed w n (min w.duration n) refl p l

  state_only : (x : ProfileState) → Governs h → InState f h x → profile_state f h ≡ x
  state_only x g (none_ever n q) = ap (λ (o : Option Profile). state_at o (clocks_since f h)) ((profile_split h none).1 (never n refl)) ∙ sym q
  state_only x g (waits w v q) = state_by_count f h w 0 (waits_profile f h w v) (waits_count f h w v) ∙ still_waiting w ∙ sym q
  state_only x g (runs w n b l q) = state_by_count f h w n (begun_profile f h w n b) (begun_count f h w n b) ∙ still_active w n (begun_one f h w n b) l ∙ sym q
  state_only x g (ended w n b l q) = ended_profile w n b (g w (begun_profile f h w n b)) l ∙ sym q

-- ---- each history is one of these
module _ {A : Type 0} {P : A → List A → Type 0} where
  each_older : (newer older before : List A) → Each P (newer ++ older) before → Each P older before
  each_older newer older before ps =
      record { at = λ n e o q. ps.at (newer ++ n) e o (ap (λ (l : List A). newer ++ l) q ∙ sym (append_assoc newer n (e ∷ o))) }

  each_newer : (newer older before : List A) → Each P (newer ++ older) before → Each P newer (older ++ before)
  each_newer newer older before ps =
      record { at = λ n e o q. rw (append_assoc o older before) at (ps.at n e (o ++ older) (ap (λ (l : List A). l ++ older) q ∙ append_assoc n (e ∷ o) older)) }

-- the first sample of `later` that reached activation
record First (f : AnyFresh) (a : ℕ) (later before : History) : Type 0 where
  pub since : History
  pub powers : List ℤ
  pub waited : History
  pub split : later ≡ since ++ (sampled powers ∷ waited)
  pub not_reached : NotReached f a waited before
  pub reached : a ≤ clock_of f (sampled powers ∷ (waited ++ before))

first_or_none : (f : AnyFresh) (a : ℕ) (later before : History) → NotReached f a later before ⊎ First f a later before
first_or_none f a [] before = inl each_none
first_or_none f a (e ∷ later) before = go (first_or_none f a later before) (kind e)
  where
    unlike : is_sample e ≡ false → (ps : List ℤ) → e ≡ sampled ps → clock_of f (e ∷ (later ++ before)) < a
    unlike u ps q = absurd (false≢true (sym u ∙ ap is_sample q))

    this : (ps : List ℤ) → e ≡ sampled ps → NotReached f a later before → (x : Bool) → leb a (clock_of f (sampled ps ∷ (later ++ before))) ≡ x → NotReached f a (e ∷ later) before ⊎ First f a (e ∷ later) before
    this ps q n true r = inr (record { since = []; powers = ps; waited = later; split = ap (λ (x : Effect). x ∷ later) q; not_reached = n; reached = leb-true a _ r })
    this ps q n false r = inl (each_more e (λ qs p. rw q (leb-false a _ r)) n)

    go : NotReached f a later before ⊎ First f a later before → Kind e → NotReached f a (e ∷ later) before ⊎ First f a (e ∷ later) before
    go (inr x) k =
        inr (record { since = e ∷ x.since; powers = x.powers; waited = x.waited; split = ap (λ (l : History). e ∷ l) x.split; not_reached = x.not_reached; reached = x.reached })
    go (inl n) (sample ps q) = this ps q n (leb a (clock_of f (sampled ps ∷ (later ++ before)))) refl
    go (inl n) (sets w q) = inl (each_more e (unlike (ap is_sample q)) n)
    go (inl n) (other o) = inl (each_more e (unlike o.unlike) n)

sets_only : (e : Effect) (h : History) (o : Option Profile) → profile_in e h ≡ some o → (w : Profile) × (e ≡ profile_set w)
sets_only e h o q = go (kind e)
  where
    go : Kind e → (w : Profile) × (e ≡ profile_set w)
    go (sample ps r) = absurd (some≢none (sym q ∙ ap (λ (x : Effect). profile_in x h) r))
    go (sets w r) = (w, r)
    go (other x) = absurd (some≢none (sym q ∙ x.picks h))

found : (f : AnyFresh) (h : History) → (x : ProfileState) × InState f h x
found f h = go (latest_or_none profile_in h)
  where
    begun : (w : Profile) (n : ℕ) → Begun f h w n → (y : Bool) → ltb n w.duration ≡ y → (x : ProfileState) × InState f h x
    begun w n b true q = (active w (w.duration - n), runs w n b (ltb-true n w.duration q) refl)
    begun w n b false q = (no_profile, ended w n b (ltb-false n w.duration q) refl)

    which : (w : Profile) (later before : History) → h ≡ later ++ (profile_set w ∷ before) → NoneSet later (profile_set w ∷ before) → NotReached f w.activation later (profile_set w ∷ before) ⊎ First f w.activation later (profile_set w ∷ before) → (x : ProfileState) × InState f h x
    which w later before s n (inl r) = (waiting w, waits w (record { since = later; before = before; split = s; none_set = n; not_reached = r }) refl)
    which w later before s n (inr x) =
        let tail = profile_set w ∷ before in
        let n' = subst (λ (l : History). NoneSet l tail) x.split n in
        begun w (suc (samples_in x.since))
        (record {
          since = x.since;
          powers = x.powers;
          waited = x.waited;
          before = before;
          split = s ∙ ap (λ (l : History). l ++ tail) x.split ∙ append_assoc x.since (sampled x.powers ∷ x.waited) tail;
          none_set = each_newer x.since (sampled x.powers ∷ x.waited) tail n';
          none_set_waiting = each_rest (each_older x.since (sampled x.powers ∷ x.waited) tail n');
          not_reached = x.not_reached;
          reached = x.reached;
          counted = refl;
        })
        (ltb (suc (samples_in x.since)) w.duration) refl

    go : ((v : Option Profile) × Latest profile_in h v) ⊎ NonePicks profile_in h [] → (x : ProfileState) × InState f h x
    go (inl v) =
        let l = v.1 in
        let w = sets_only l.entry l.before v.0 l.picks in
        let q = w.1 in
        which w.0 l.later l.before (rw q at l.split) (rw q at l.none_later)
        (first_or_none f w.0.activation l.later (profile_set w.0 ∷ l.before))
    go (inr n) = (no_profile, none_ever n refl)

pub state_split : (f : AnyFresh) (h : History) (x : ProfileState) → Governs h → (profile_state f h ≡ x) ↔ InState f h x
state_split f h x g = (to, state_only f h x g)
  where
    to : profile_state f h ≡ x → InState f h x
    to e = let y = found f h in subst (InState f h) (sym (state_only f h y.0 g y.1) ∙ e) y.1

-- ---- the threshold that a sample is judged by
advanced_one : (a t m k : ℕ) → advanced a t m ≡ suc k → m ≡ k
advanced_one a t zero k e = go (leb a t) e
  where
    go : (x : Bool) → cond x 1 0 ≡ suc k → 0 ≡ k
    go true e = omega (arith, e)
    go false e = absurd (omega (arith, e))
advanced_one a t (suc m) k e = omega (arith, e)

module _ (f : AnyFresh) (k : ℕ) (ps : List ℤ) (h : History) (w : Profile) where
  at_by : (m n : ℕ) → profile_of h ≡ some w → reached_in f w.activation h ≡ m → reached_in f w.activation (sampled ps ∷ h) ≡ n
      → threshold_at f k ps h ≡ cond (ltb (min w.duration m) (min w.duration n)) w.threshold (threshold_of f k h)
  at_by m n p c d =
      ap (λ (o : Option Profile). threshold_with (threshold_of f k h) o (clocks_since f h) (clocks_since f (sampled ps ∷ h))) p
      ∙ ap₂ (λ (x y : ℕ). cond (ltb x y) w.threshold (threshold_of f k h))
      (length-take w.duration (from_reached w.activation (clocks_since f h)) ∙ ap (min w.duration) c)
      (length-take w.duration (from_reached w.activation (clocks_since f (sampled ps ∷ h))) ∙ ap (min w.duration) d)

  -- one fewer before it
  before_it : (m : ℕ) → reached_in f w.activation (sampled ps ∷ h) ≡ suc m → reached_in f w.activation h ≡ m
  before_it m e = advanced_one w.activation (clock_of f (sampled ps ∷ h)) (reached_in f w.activation h) m (sym (reached_sampled f w.activation ps h) ∙ e)

  pub judged_governed : (n : ℕ) → Begun f (sampled ps ∷ h) w n → n ≤ w.duration → threshold_at f k ps h ≡ w.threshold
  unfolding last
  judged_governed n b l =
      let m = samples_in b.since in
      let c = begun_count f (sampled ps ∷ h) w n b ∙ b.counted in
      at_by m (suc m) (begun_profile f (sampled ps ∷ h) w n b) (before_it m c) c
      ∙ rw (lt-ltb (min w.duration m) (min w.duration (suc m)) (omega (arith, l, b.counted)))

  pub judged_behind : (n : ℕ) → Begun f (sampled ps ∷ h) w n → 1 ≤ w.duration → w.duration < n → threshold_at f k ps h ≡ threshold_of f k h
  unfolding last
  judged_behind n b p l =
      let m = samples_in b.since in
      let c = begun_count f (sampled ps ∷ h) w n b ∙ b.counted in
      at_by m (suc m) (begun_profile f (sampled ps ∷ h) w n b) (before_it m c) c
      ∙ rw (le-ltb (min w.duration m) (min w.duration (suc m)) (omega (arith, l, b.counted)))

  pub judged_waiting : Waits f (sampled ps ∷ h) w → threshold_at f k ps h ≡ threshold_of f k h
  unfolding last
  judged_waiting x =
      let m = reached_in f w.activation h in
      at_by m 0 (waits_profile f (sampled ps ∷ h) w x) refl (waits_count f (sampled ps ∷ h) w x)
      ∙ rw (le-ltb (min w.duration m) (min w.duration 0) (omega arith))

pub judged_without : (f : AnyFresh) (k : ℕ) (ps : List ℤ) (h : History) → NoneSet h [] → threshold_at f k ps h ≡ threshold_of f k h
judged_without f k ps h n =
    ap (λ (o : Option Profile). threshold_with (threshold_of f k h) o (clocks_since f h) (clocks_since f (sampled ps ∷ h))) ((profile_split h none).1 (never n refl))

pub after_last : (f : AnyFresh) (k : ℕ) (h : History) (w : Profile) (n : ℕ) → Begun f h w n → 1 ≤ w.duration → w.duration ≤ n → (profile_state f h ≡ no_profile) × (threshold_in_force f k h ≡ threshold_of f k h)
after_last f k h w n b p l = let e = ended_profile f h w n b p l in (e, ap (threshold_by (threshold_of f k h)) e)

-- a new profile waits
pub profile_waits : (f : AnyFresh) (h : History) (w : Profile) → profile_state f (profile_set w ∷ h) ≡ waiting w
unfolding last clocks_since
profile_waits f h w = ap (state_by w) (governed_none w)

pub normal_at_once : (f : AnyFresh) (k : ℕ) (h : History) (w : Profile) → threshold_in_force f k (profile_set w ∷ h) ≡ threshold_of f k h
unfolding last
normal_at_once f k h w = ap (threshold_by (threshold_of f k h)) (profile_waits f h w)

pub replaced_seen : (f : AnyFresh) (k : ℕ) (h : History) (w : Profile)
    → observations f k (profile_set w ∷ h) ≡ change_seen f h (threshold_in_force f k h) (threshold_of f k h) ++ observations f k h
unfolding observations
replaced_seen f k h w = ap (λ (t : ℤ). change_seen f h (threshold_in_force f k h) t ++ observations f k h) (normal_at_once f k h w)

-- ---- an emergency threshold that is the normal one
same_by : (normal : ℤ) (w : Profile) (n : ℕ) → w.threshold ≡ normal → threshold_by normal (state_by w n) ≡ normal
same_by normal w zero e = refl
same_by normal w (suc n) e = go (ltb (suc n) w.duration)
  where
    go : (x : Bool) → threshold_by normal (cond x (active w (w.duration - suc n)) no_profile) ≡ normal
    go true = e
    go false = refl

same_at : (normal : ℤ) (w : Profile) (x : Bool) → w.threshold ≡ normal → cond x w.threshold normal ≡ normal
same_at normal w true e = e
same_at normal w false e = refl

same_number : (z : ℤ) → eq_z z z ≡ true
same_number (pos n) = eq-eqb n n refl
same_number (negsuc n) = eq-eqb n n refl

none_any : (a b : ℕ → ℤ) → ((k : ℕ) → a k ≡ b k) → (ks : List ℕ) → any (λ k. not (eq_z (a k) (b k))) ks ≡ false
unfolding any
none_any a b e [] = refl
none_any a b e (k ∷ ks) = rw (e k, same_number (b k)) (none_any a b e ks)

none_changed : (f : AnyFresh) (now : ℕ) (a b : ℕ → ℤ) → ((k : ℕ) → a k ≡ b k) → change_lines f now a b ≡ []
none_changed f now a b e = rw (none_any a b e (monitored_values f))

module _ (f : AnyFresh) (ps : List ℤ) (h : History) (w : Profile) (p : profile_of h ≡ some w) where
  equal_before : (k : ℕ) → w.threshold ≡ threshold_of f k h → threshold_in_force f k h ≡ threshold_of f k h
  equal_before k e = ap (λ (o : Option Profile). threshold_by (threshold_of f k h) (state_at o (clocks_since f h))) p ∙ same_by (threshold_of f k h) w (length (governed w (clocks_since f h))) e

  equal_at : (k : ℕ) → w.threshold ≡ threshold_of f k h → threshold_at f k ps h ≡ threshold_of f k h
  equal_at k e =
      ap (λ (o : Option Profile). threshold_with (threshold_of f k h) o (clocks_since f h) (clocks_since f (sampled ps ∷ h))) p
      ∙ same_at (threshold_of f k h) w (ltb (length (governed w (clocks_since f h))) (length (governed w (clocks_since f (sampled ps ∷ h))))) e

  equal_after : (k : ℕ) → w.threshold ≡ threshold_of f k h → threshold_in_force f k (sampled ps ∷ h) ≡ threshold_of f k h
  unfolding last
  equal_after k e =
      ap (λ (o : Option Profile). threshold_by (threshold_of f k h) (state_at o (clocks_since f (sampled ps ∷ h)))) p
      ∙ same_by (threshold_of f k h) w (length (governed w (clocks_since f (sampled ps ∷ h)))) e

  pub equal_unseen : (k : ℕ) → w.threshold ≡ threshold_of f k h → observations f k (sampled ps ∷ h) ≡ judged (lt_z (threshold_of f k h) (number_at ps k)) ∷ observations f k h
  unfolding observations
  equal_unseen k e = rw (equal_before k e, equal_at k e, equal_after k e) (rw (same_number (threshold_of f k h)))

  pub equal_unlogged : ((k : ℕ) → w.threshold ≡ threshold_of f k h) → (n : ℕ) → owed_by f n (sampled ps) h
      ≡ when (eqb n 3) (gathered (firing_lines f (sampled ps) h) (monitored_values f) ++ when (moves f (sampled ps) h) (line (clock_of f (sampled ps ∷ h)) (local_code (switch_of f (sampled ps ∷ h))) ∷ []))
  equal_unlogged e n =
      let now = clock_of f (sampled ps ∷ h) in
      let xs = gathered (firing_lines f (sampled ps) h) (monitored_values f) in
      let ys = when (moves f (sampled ps) h) (line now (local_code (switch_of f (sampled ps ∷ h))) ∷ []) in
      ap₂ (λ (us vs : List Line). when (eqb n 3) (us ++ (xs ++ (ys ++ vs))))
      (none_changed f now (λ k. threshold_in_force f k h) (λ k. threshold_at f k ps h) (λ k. equal_before k (e k) ∙ sym (equal_at k (e k))))
      (none_changed f now (λ k. threshold_at f k ps h) (λ k. threshold_in_force f k (sampled ps ∷ h)) (λ k. equal_at k (e k) ∙ sym (equal_after k (e k))))
      ∙ ap (λ (zs : List Line). when (eqb n 3) (xs ++ zs)) (append-nil ys)

-- kind 17 owes nothing where the normal threshold was in force
normal_unlogged : (f : AnyFresh) (n : ℕ) (h : History) (w : Profile) → ((k : ℕ) → threshold_in_force f k h ≡ threshold_of f k h)
    → owed_by f n (profile_set w) h ≡ []
normal_unlogged f n h w e =
    ap (when (eqb n 3))
    (none_changed f (clock_of f (profile_set w ∷ h)) (λ k. threshold_in_force f k h) (λ k. threshold_in_force f k (profile_set w ∷ h))
    (λ k. e k ∙ sym (normal_at_once f k h w)))
    ∙ nothing (eqb n 3)
  where
    nothing : (x : Bool) → when x [] ≡ []
    nothing true = refl
    nothing false = refl

pub first_unlogged : (f : AnyFresh) (n : ℕ) (h : History) (w : Profile) → profile_state f h ≡ no_profile → owed_by f n (profile_set w) h ≡ []
first_unlogged f n h w e = normal_unlogged f n h w (λ k. ap (threshold_by (threshold_of f k h)) e)

pub waiting_unlogged : (f : AnyFresh) (n : ℕ) (h : History) (v w : Profile) → profile_state f h ≡ waiting v → owed_by f n (profile_set w) h ≡ []
waiting_unlogged f n h v w e = normal_unlogged f n h w (λ k. ap (threshold_by (threshold_of f k h)) e)

-- an active profile's threshold is in force
pub active_in_force : (f : AnyFresh) (k : ℕ) (h : History) (w : Profile) (n : ℕ) → profile_state f h ≡ active w n → threshold_in_force f k h ≡ w.threshold
active_in_force f k h w n e = ap (threshold_by (threshold_of f k h)) e

pub replaced_owes : (f : AnyFresh) (n : ℕ) (h : History) (v w : Profile) (left : ℕ) → profile_state f h ≡ active v left
    → owed_by f n (profile_set w) h
    ≡ when (eqb n 3 && any (λ k. not (eq_z v.threshold (threshold_of f k h))) (monitored_values f)) (line (clock_of f h) 67 ∷ [])
unfolding last samples_since
replaced_owes f n h v w left e =
    ap (when (eqb n 3))
    (ap₂ (change_lines f (clock_of f (profile_set w ∷ h))) (fun_ext (λ k. active_in_force f k h v left e)) (fun_ext (λ k. normal_at_once f k h w)))
    ∙ both (eqb n 3) _ _
  where
    both : (x y : Bool) (ls : List Line) → when x (when y ls) ≡ when (x && y) ls
    both true y ls = refl
    both false y ls = refl

pub changed_run : (f : AnyFresh) (h : History) (before after : ℤ) (os : List Observation) → eq_z before after ≡ false → run (change_seen f h before after ++ os) ≡ 0
unfolding exceeded since_setting trailing
changed_run f h before after os e = ap (λ (x : Bool). run (cond x [] (setting_of f h ∷ []) ++ os)) e

-- Exceeded outlives a change
pub exceeded_kept : (f : AnyFresh) (h : History) (before after : ℤ) (os : List Observation) → exceeded (change_seen f h before after ++ os) ≡ exceeded os
unfolding exceeded
exceeded_kept f h before after os = go (eq_z before after)
  where
    go : (x : Bool) → exceeded (cond x [] (setting_of f h ∷ []) ++ os) ≡ exceeded os
    go true = refl
    go false = refl

-- ---- a profile that was accepted governs one sample at least
abbrev GovernsEffect : Effect → Type 0
GovernsEffect (sampled ps) = Unit
GovernsEffect (requested q) = Unit
GovernsEffect (mode_set n) = Unit
GovernsEffect (limits_set ts o u) = Unit
GovernsEffect (clock_set n) = Unit
GovernsEffect (occurred r) = Unit
GovernsEffect (filter_set s n) = Unit
GovernsEffect (bits_cleared s n) = Unit
GovernsEffect (log_cleared n) = Unit
GovernsEffect (groups_set g) = Unit
GovernsEffect (profile_set w) = 1 ≤ w.duration

abbrev GovernsReading : Reading → Type 0
GovernsReading (refused n) = Unit
GovernsReading (accepted e) = GovernsEffect e

either_way : {A : Type 0} (P : A → Type 0) (x : Bool) {a b : A} → (x ≡ true → P a) → P b → P (cond x a b)
either_way P true p q = p refl
either_way P false p q = q

request_governing : (m : ℕ) (q : RequestCall) → GovernsReading (read_request m q)
request_governing m q = either_way GovernsReading (among (listed_modes q) m) (λ e. tt) tt

event_governing : (o : Option EventRow) → GovernsReading (read_event o)
event_governing none = tt
event_governing (some r) = tt

reading_governing : (rows : List EventRow) (m : ℕ) (gs : List ℕ) (c : AnyCall) → GovernsReading (reading rows m gs c)
unfolding reading
reading_governing rows m gs (sample_call ps) = tt
reading_governing rows m gs (request q) = request_governing m q
reading_governing rows m gs (set_mode n) = either_way GovernsReading (leb n 6) (λ e. tt) tt
reading_governing rows m gs (set_limiter ts o u) = either_way GovernsReading (every (le_z (pos 0)) ts) (λ e. either_way GovernsReading (within 1 86400 o && within 1 86400 u) (λ e. tt) tt) tt
reading_governing rows m gs (set_clock n) = tt
reading_governing rows m gs (event c) = event_governing (lookup rows c)
reading_governing rows m gs (set_filter s n) = tt
reading_governing rows m gs (clear_bits s n) = tt
reading_governing rows m gs (clear_log n) = either_way GovernsReading (is_log n) (λ e. tt) tt
reading_governing rows m gs (script n) = either_way GovernsReading (eqb n 1) (λ e. request_governing m remote_disconnect) (either_way GovernsReading (eqb n 2) (λ e. request_governing m remote_reconnect) tt)
reading_governing rows m gs (set_groups n ids) = either_way GovernsReading (leb n 8) (λ e. tt) tt
reading_governing rows m gs (set_profile w) =
    either_way GovernsReading (among gs w.id)
    (λ e. either_way GovernsReading (within 1 604800 w.duration && le_z (pos 0) w.threshold)
    (λ d. leb-true 1 w.duration (and_left (leb 1 w.duration) (leb w.duration 604800) (and_left (within 1 604800 w.duration) (le_z (pos 0) w.threshold) d)))
    tt)
    tt

grown_governing : (r : Reading) (h : History) → GovernsReading r → Governs h → Governs (grown r h)
unfolding last
grown_governing (refused n) h p g = g
grown_governing (accepted (sampled ps)) h p g = g
grown_governing (accepted (requested q)) h p g = g
grown_governing (accepted (mode_set n)) h p g = g
grown_governing (accepted (limits_set ts o u)) h p g = g
grown_governing (accepted (clock_set n)) h p g = g
grown_governing (accepted (occurred r)) h p g = g
grown_governing (accepted (filter_set s n)) h p g = g
grown_governing (accepted (bits_cleared s n)) h p g = g
grown_governing (accepted (log_cleared n)) h p g = g
grown_governing (accepted (groups_set ids)) h p g = g
grown_governing (accepted (profile_set w)) h p g = λ v q. let e : w ≡ v = cc in rw (← e) p

pub accepted_governing : (rows : List EventRow) (f : AnyFresh) (cs : List AnyCall) → Governs (accepted_calls rows f cs)
unfolding accepted_calls last
accepted_governing rows f [] = λ w q. absurd (some≢none (sym q))
accepted_governing rows f (c ∷ cs) =
    let h = accepted_calls rows f cs in
    grown_governing (reading rows (mode_of f h) (groups_of h) c) h (reading_governing rows (mode_of f h) (groups_of h) c) (accepted_governing rows f cs)
