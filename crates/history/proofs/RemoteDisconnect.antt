-- A remote disconnect holds. After the last one there are three stages: inside its spell; behind a remote reconnect, ready; behind a manual reconnect or an
-- under firing that came after that. Supply can be on in the third alone.
use Prim.Native.Nat.{ℕ}
use native.Mathlib.Omega.{arith}
use mathlib.Core.Path.{◌≡◌, refl, sym, ap, subst, ◌∙◌}
use mathlib.Core.Bool.{Bool, true, false, not, ◌&&◌, ◌||◌, cond, false≢true, or-true, or_assoc}
use mathlib.Core.List.{List, [], ◌∷◌, ◌++◌, append_assoc, map, reverse}
use mathlib.Core.Logic.{◌≢◌, ◌⊎◌, inl, inr}
use mathlib.Core.Option.{Option}
use lib.Dec.{eqb}
use lib.IntN.{ℤ, pos}
use Rattle.base.specs.Tests.{among, any}
use Rattle.base.proofs.Bools.{by_test, neither}
use Rattle.history.specs.Effects.{AnyFresh, RequestCall, remote_disconnect, remote_reconnect, manual_disconnect, manual_reconnect, Effect}
use Rattle.history.specs.Effects.{sampled, requested, mode_set, limits_set, clock_set, occurred, filter_set, bits_cleared, log_cleared, groups_set, profile_set}
use Rattle.history.specs.Last.{History, otherwise, given, last, mode_of}
use Rattle.history.specs.Limiter.{monitored_values}
use Rattle.history.specs.Switch.{spell_edge, spell, tries_disconnect, arms, observations, last_decided, switch_of, exceeded_of}
use Rattle.history.specs.Splits.{NonePicks, Latest}
use Rattle.history.specs.Account.{accepted_calls}
use Rattle.history.specs.OnePhase.{as_fresh, as_call}
use Rattle.history.specs.Laws.{under_firing}
use Rattle.history.specs.Examples.{fresh, built_in_account}
use Rattle.history.specs.RemoteDisconnect.{AcceptedIn, NeverIn, UnderFiring, closing_firing, Closes, by_key, by_firing}
use Rattle.history.specs.RemoteDisconnect.{Reconnected, ReconnectedAfterLast, Holds}
use Rattle.history.specs.RemoteDisconnect.{reconnect_tried, RemoteDisconnectHolds}
use Rattle.history.proofs.Lists.{latest_or_none}
use Rattle.history.proofs.Splits.{some≢none, is_edge, begins, given_some}
use Rattle.history.proofs.OneMonitored.{one_value}

-- ---- calls among those of a history
abbrev still_in : (x : Effect) {e : Effect} {h : History} → AcceptedIn e h → AcceptedIn e (x ∷ h)
still_in x a = record { later = x ∷ a.later; before = a.before; split = ap (λ (l : History). x ∷ l) a.split }

abbrev newest_in : {e x : Effect} {h : History} → x ≡ e → AcceptedIn e (x ∷ h)
newest_in {h = h} q = record { later = []; before = h; split = ap (λ (y : Effect). y ∷ h) q }

-- the last remote disconnect
abbrev disconnecting : Effect → History → Option Bool
disconnecting e h = given (is_edge true (spell_edge e h)) true

abbrev LastIn : History → Type 0
LastIn h = (d : AcceptedIn (requested remote_disconnect) h) × (¬ AcceptedIn (requested remote_disconnect) d.later)

last_disconnect : (h : History) → AcceptedIn (requested remote_disconnect) h → LastIn h
last_disconnect h d = go (latest_or_none disconnecting h)
  where
    go : ((v : Bool) × Latest disconnecting h v) ⊎ NonePicks disconnecting h [] → LastIn h
    go (inl w) =
        let l = w.1 in
        let q = begins l.entry l.before (given_some (is_edge true (spell_edge l.entry l.before)) w.0 l.picks) in (
          record { later = l.later; before = l.before; split = rw q at l.split },
          λ a. some≢none (l.none_later.at a.later (requested remote_disconnect) a.before a.split),
        )
    go (inr n) = absurd (some≢none (n.at d.later (requested remote_disconnect) d.before d.split))

-- ---- modes
module _ {modes : List ℕ} {f : AnyFresh} where
  never_rest : {e : Effect} {h : History} → NeverIn modes f (e ∷ h) → NeverIn modes f h
  never_rest {e} v = record { fresh_mode = v.fresh_mode; later_modes = λ n a. v.later_modes n (still_in e a) }

  -- the mode in force is none of them
  never_mode : (h : History) → NeverIn modes f h → among modes (mode_of f h) ≡ false
  unfolding last
  never_mode [] v = v.fresh_mode
  never_mode (sampled p ∷ h) v = never_mode h (never_rest v)
  never_mode (requested q ∷ h) v = never_mode h (never_rest v)
  never_mode (mode_set n ∷ h) v = v.later_modes n (newest_in refl)
  never_mode (limits_set t o u ∷ h) v = never_mode h (never_rest v)
  never_mode (clock_set n ∷ h) v = never_mode h (never_rest v)
  never_mode (occurred r ∷ h) v = never_mode h (never_rest v)
  never_mode (filter_set s n ∷ h) v = never_mode h (never_rest v)
  never_mode (bits_cleared s n ∷ h) v = never_mode h (never_rest v)
  never_mode (log_cleared n ∷ h) v = never_mode h (never_rest v)
  never_mode (groups_set g ∷ h) v = never_mode h (never_rest v)
  never_mode (profile_set w ∷ h) v = never_mode h (never_rest v)

abbrev excluded : List ℕ
excluded = 0 ∷ 2 ∷ 4 ∷ []

-- mode 0 is none of the modes in force, nor are 2 and 4
apart : (n : ℕ) → among excluded n ≡ false → (eqb n 0 ≡ false) × (among (2 ∷ 4 ∷ []) n ≡ false)
unfolding among
apart n = neither (eqb n 0) (among (2 ∷ 4 ∷ []) n)

-- ---- the stages after a remote disconnect
module _ (f : AnyFresh) (before : History) where
  abbrev whole : History → History
  whole later = later ++ (requested remote_disconnect ∷ before)

  abbrev Closed : History → Type 0
  Closed later = Reconnected (reconnect_tried f) f later (requested remote_disconnect ∷ before)

  data Stage (later : History) : Type 0 where
    inside : spell (whole later) ≡ true → Stage later
    ready : spell (whole later) ≡ false → last_decided f (whole later) ≡ 2 → AcceptedIn (requested remote_reconnect) later → Stage later
    closed : Closed later → Stage later

  still_closed : (e : Effect) {later : History} → Closed later → Stage (e ∷ later)
  still_closed e c =
      closed (record { reconnect = still_in e c.reconnect; closing = c.closing; after_that = still_in e c.after_that; closes = c.closes })

  now_closed : (e : Effect) {later : History} → AcceptedIn (requested remote_reconnect) later → Closes (reconnect_tried f) f e (whole later)
      → Stage (e ∷ later)
  now_closed e r c =
      let q = ap whole r.split ∙ append_assoc r.later (requested remote_reconnect ∷ r.before) (requested remote_disconnect ∷ before) in
      closed (record { reconnect = still_in e r; closing = e; after_that = newest_in refl; closes = search (← q) })

  -- a call that leaves the spell and decides nothing
  leaving : (e : Effect) (later : History) → spell (whole (e ∷ later)) ≡ spell (whole later)
      → last_decided f (whole (e ∷ later)) ≡ last_decided f (whole later) → Stage later → Stage (e ∷ later)
  leaving e later s d (inside i) = inside (s ∙ i)
  leaving e later s d (ready o t r) = ready (s ∙ o) (d ∙ t) (still_in e r)
  leaving e later s d (closed c) = still_closed e c

  -- a sample outside a spell leaves Ready as it is, or h is tried in mode 5 or 6: by g tried or not, outside mode 0 or not, h tried or not, in 5 or 6 or not
  firing : (g o h m : Bool) (d : ℕ) → d ≡ 2 → (otherwise (cond g (given o 2) (given (h && m) 1)) d ≡ 2) ⊎ ((h ≡ true) × (m ≡ true))
  firing true true h m d q = inl refl
  firing true false h m d q = inl q
  firing false o true true d q = inr (refl, refl)
  firing false o true false d q = inl q
  firing false o false m d q = inl q

  sampling : (ps : List ℤ) (later : History) → Stage later → Stage (sampled ps ∷ later)
  unfolding spell last observations last_decided
  sampling ps later (inside i) = inside i
  sampling ps later (ready o d r) =
      let h = whole later in
      let g = tries_disconnect f (λ k. observations f k h) (λ k. observations f k (sampled ps ∷ h)) in
      go (rw o (firing g (not (eqb (mode_of f h) 0)) (reconnect_tried f ps h) (among (5 ∷ 6 ∷ []) (mode_of f h)) (last_decided f h) d))
    where
      go : (last_decided f (whole (sampled ps ∷ later)) ≡ 2)
          ⊎ ((reconnect_tried f ps (whole later) ≡ true) × (among (5 ∷ 6 ∷ []) (mode_of f (whole later)) ≡ true))
          → Stage (sampled ps ∷ later)
      go (inl q) = ready o q (still_in (sampled ps) r)
      go (inr (t, m)) = now_closed (sampled ps) r (by_firing ps refl cc)
  sampling ps later (closed c) = still_closed (sampled ps) c

  requesting : (q : RequestCall) (later : History) → q ≢ remote_disconnect → among (2 ∷ 4 ∷ []) (mode_of f (whole later)) ≡ false → Stage later
      → Stage (requested q ∷ later)
  unfolding spell last observations last_decided
  requesting remote_disconnect later n m x = absurd (n refl)
  requesting remote_reconnect later n m (inside i) = ready refl (rw (i, m)) (newest_in refl)
  requesting remote_reconnect later n m (ready o d r) = ready refl (rw (o, m) d) (still_in (requested remote_reconnect) r)
  requesting remote_reconnect later n m (closed c) = still_closed (requested remote_reconnect) c
  requesting manual_disconnect later n m (inside i) = inside i
  requesting manual_disconnect later n m (ready o d r) = ready o (rw o) (still_in (requested manual_disconnect) r)
  requesting manual_disconnect later n m (closed c) = still_closed (requested manual_disconnect) c
  requesting manual_reconnect later n m (inside i) = inside i
  requesting manual_reconnect later n m (ready o d r) = now_closed (requested manual_reconnect) r (by_key refl)
  requesting manual_reconnect later n m (closed c) = still_closed (requested manual_reconnect) c

  step : (e : Effect) (later : History) → e ≢ requested remote_disconnect → NeverIn excluded f (whole (e ∷ later)) → Stage later
      → Stage (e ∷ later)
  unfolding spell last observations last_decided
  step (sampled ps) later n v x = sampling ps later x
  step (requested q) later n v x = requesting q later (λ e. n (ap requested e)) (apart _ (never_mode (whole later) (never_rest v))).1 x
  step (mode_set k) later n v x = let z = (apart k (v.later_modes k (newest_in refl))).0 in leaving (mode_set k) later (rw z) (rw z) x
  step (limits_set t o u) later n v x = leaving (limits_set t o u) later refl refl x
  step (clock_set k) later n v x = leaving (clock_set k) later refl refl x
  step (occurred r) later n v x = leaving (occurred r) later refl refl x
  step (filter_set s k) later n v x = leaving (filter_set s k) later refl refl x
  step (bits_cleared s k) later n v x = leaving (bits_cleared s k) later refl refl x
  step (log_cleared k) later n v x = leaving (log_cleared k) later refl refl x
  step (groups_set g) later n v x = leaving (groups_set g) later refl refl x
  step (profile_set w) later n v x = leaving (profile_set w) later refl refl x

  stages : (later : History) → ¬ AcceptedIn (requested remote_disconnect) later → NeverIn excluded f (whole later) → Stage later
  unfolding spell last
  stages [] n v = inside refl
  stages (e ∷ later) n v = step e later (λ q. n (newest_in q)) v (stages later (λ a. n (still_in e a)) (never_rest v))

  -- supply is on in the last stage only
  supplied : (later : History) → Stage later → switch_of f (whole later) ≡ 1 → Closed later
  unfolding switch_of
  supplied later (inside s) q = absurd (omega (arith, rw s at q))
  supplied later (ready s d r) q = absurd (omega (arith, rw (s, d) at q))
  supplied later (closed c) q = c

any_holds : (f : AnyFresh) (h : History) → Holds (reconnect_tried f) excluded f h (switch_of f h)
any_holds f h v a q = go (last_disconnect h a)
  where
    go : LastIn h → ReconnectedAfterLast (reconnect_tried f) f h
    go (d, n) =
        let stage = stages f d.before d.later n (rw d.split at v) in
        record { disconnect = d; is_last = λ a. absurd (n a); reconnected = supplied f d.before d.later stage (rw d.split at q) }

-- ---- with one monitored value h is tried where that fires under
one_tried : (f : AnyFresh) → monitored_values f ≡ 0 ∷ [] → (ps : List ℤ) (h : History) → reconnect_tried f ps h ≡ under_firing f ps h
unfolding any
one_tried f one ps h = rw one (go (exceeded_of f 0 h) (exceeded_of f 0 (sampled ps ∷ h)))
  where
    go : (x y : Bool) → ((x && not y) || false) && not (y || false) ≡ x && not y
    go true true = refl
    go true false = refl
    go false y = refl

one_holds : (f : AnyFresh) → monitored_values f ≡ 0 ∷ [] → (h : History) → Holds (under_firing f) excluded f h (switch_of f h)
one_holds f one h = subst (λ (fires : UnderFiring). Holds fires excluded f h (switch_of f h)) (λ i ps h. one_tried f one ps h i) (any_holds f h)

-- ---- lists of which it is false
-- what is true of no call of a history is not true of one among them, nor of any after or before that
tested :
    (p : Effect → Bool) {e : Effect} {h : History}
    → any p h ≡ false
    → (a : AcceptedIn e h)
    → (any p a.later ≡ false) × (p e ≡ false) × (any p a.before ≡ false)
unfolding any
tested p {e} q a = go a.later (rw a.split at q)
  where
    go : (later : History) → any p (later ++ (e ∷ a.before)) ≡ false → (any p later ≡ false) × (p e ≡ false) × (any p a.before ≡ false)
    go [] r = let s = neither (p e) (any p a.before) r in (refl, s.0, s.1)
    go (x ∷ later) r = let s = neither (p x) _ r in let t = go later s.1 in (rw s.0 t.0, t.1, t.2)

abbrev disconnects : Effect → Bool
disconnects e = is_edge true (spell_edge e [])

no_disconnect : (h : History) → ¬ AcceptedIn (requested remote_disconnect) h → any disconnects h ≡ false
unfolding any
no_disconnect [] n = refl
no_disconnect (e ∷ h) n =
    by_test (disconnects e) (λ q. absurd (n (newest_in (begins e [] q)))) (λ q. rw q (no_disconnect h (λ a. n (still_in e a))))

module _ (fires : UnderFiring) (f : AnyFresh) where
  -- a manual reconnect, or a closing firing
  abbrev closes_at : Effect → History → Bool
  closes_at (sampled ps) h = closing_firing fires f ps h
  closes_at (requested q) h = arms (requested q) 2
  closes_at (mode_set n) h = false
  closes_at (limits_set t o u) h = false
  closes_at (clock_set n) h = false
  closes_at (occurred r) h = false
  closes_at (filter_set s n) h = false
  closes_at (bits_cleared s n) h = false
  closes_at (log_cleared n) h = false
  closes_at (groups_set g) h = false
  closes_at (profile_set w) h = false

  closes_at_lem : {e : Effect} {h : History} → Closes fires f e h → closes_at e h ≡ true
  closes_at_lem {h = h} (by_key q) = ap (λ (e : Effect). closes_at e h) q
  closes_at_lem {h = h} (by_firing ps q t) = ap (λ (e : Effect). closes_at e h) q ∙ t

  -- from the newest call back to the last disconnect: c, one of the calls seen closes; r, a remote reconnect was seen behind such a one. (Mode 0, which ends
  -- a spell too, is taken for one: the test need only be true wherever the conclusion is)
  unfoldable scan : Bool → Bool → History → Bool
  scan c r [] = false
  scan c r (e ∷ h) = cond (disconnects e) r (scan (c || closes_at e h) (r || (is_edge false (spell_edge e []) && c)) h)

  -- calls that are no disconnect leave c and r true where they are
  past :
      (c r : Bool) (newer older : History)
      → any disconnects newer ≡ false
      → ((x y : Bool) → scan (c || x) (r || y) older ≡ true)
      → (x y : Bool)
      → scan (c || x) (r || y) (newer ++ older) ≡ true
  unfolding any scan
  past c r [] older n k x y = k x y
  past c r (e ∷ newer) older n k x y =
      let s = neither (disconnects e) _ n in
      rw (s.0, or_assoc c x, or_assoc r y) (past c r newer older s.1 k _ _)

  -- where the conclusion holds, here in its pieces, the test is true
  found :
      {e : Effect} {h : History} (d : AcceptedIn (requested remote_disconnect) h)
      → ¬ AcceptedIn (requested remote_disconnect) d.later
      → (r : AcceptedIn (requested remote_reconnect) d.later) (a : AcceptedIn e r.later)
      → Closes fires f e (a.before ++ (requested remote_reconnect ∷ (r.before ++ (requested remote_disconnect ∷ d.before))))
      → scan false false h ≡ true
  unfolding scan
  found d l r a c =
      let n = tested disconnects (no_disconnect d.later l) r in
      let m = tested disconnects n.0 a in
      rw (d.split, r.split, a.split)
      (simp append_assoc
      (past false false a.later _ m.0
      (λ x y.
      rw (m.1, closes_at_lem c, or-true x)
      (past true false a.before _ m.2 (λ u v. rw (or-true v) (past true true r.before _ n.2 (λ _ _. refl) false false)) false _)) false false))

-- by the test the conclusion is false of the accepted calls, and yet none sets one of the modes and the switch is 1
broken :
    {fires : UnderFiring} (modes : List ℕ) (f : AnyFresh) (later before : History) {switch : ℕ}
    → among modes f.mode ≡ false
    → any (λ e. among modes (mode_of f (e ∷ []))) (whole f before later) ≡ false
    → switch ≡ 1
    → scan fires f false false (whole f before later) ≡ false
    → (ReconnectedAfterLast fires f (whole f before later) → scan fires f false false (whole f before later) ≡ true)
    → ¬ Holds fires modes f (whole f before later) switch
unfolding last
broken modes f later before m l q k scanned holds =
    let c = holds (record { fresh_mode = m; later_modes = λ n a. (tested _ l a).1 }) (record { later = later; before = before; split = refl }) q in
    false≢true (sym k ∙ scanned c)

-- the fresh meters and accepted calls of the lists
abbrev in_mode : ℕ → AnyFresh
in_mode m = as_fresh (fresh m 0 1 1 0)

abbrev limited : ℕ → AnyFresh
limited m = as_fresh (fresh m 3 1 1 0)

abbrev key : Effect
key = requested manual_reconnect

abbrev remote : Effect
remote = requested remote_reconnect

pub remote_disconnect_holds : RemoteDisconnectHolds
unfolding built_in_account scan
remote_disconnect_holds =
    record {
      any_holds = λ rows f calls. any_holds f (accepted_calls rows f (reverse calls));
      one_phase_holds =
          λ rows f calls.
          one_holds (as_fresh f) (one_value (as_fresh f) f.threshold refl) (accepted_calls rows (as_fresh f) (reverse (map as_call calls)));
      zero_needed = broken (2 ∷ 4 ∷ []) (in_mode 1) (mode_set 0 ∷ []) [] refl refl refl refl (λ l. search found);
      two_needed = broken (0 ∷ 4 ∷ []) (in_mode 2) (remote ∷ []) [] refl refl refl refl (λ l. search found);
      four_needed = broken (0 ∷ 2 ∷ []) (in_mode 1) (remote ∷ []) (mode_set 4 ∷ []) refl refl refl refl (λ l. search found);
      last_needed =
          broken (2 ∷ 4 ∷ []) (in_mode 1) (mode_set 0 ∷ []) (key ∷ remote ∷ requested remote_disconnect ∷ []) refl refl refl refl (λ l. search found);
      order_needed = broken (2 ∷ 4 ∷ []) (in_mode 1) (mode_set 0 ∷ remote ∷ key ∷ []) [] refl refl refl refl (λ l. search found);
      firing_needed = broken (2 ∷ 4 ∷ []) (limited 5) (mode_set 0 ∷ sampled (pos 0 ∷ []) ∷ remote ∷ []) [] refl refl refl refl (λ l. search found);
      mode_needed =
          broken (2 ∷ 4 ∷ []) (limited 1) (mode_set 0 ∷ sampled (pos 3 ∷ []) ∷ remote ∷ []) (sampled (pos 9 ∷ []) ∷ []) refl refl refl refl (λ l. search found);
    }
