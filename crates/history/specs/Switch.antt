-- The switch, by the spells after remote disconnects and its last deciding call; and what the limiter has seen of each monitored value. Each needs the
-- other for the calls before: a firing may decide the switch, and a manual reconnect that moves it acts as a limiter setting (document 02, A5).
use Rattle.std.specs.Prelude.{ℕ, Bool, true, false, not, ◌&&◌, cond, List, [], ◌∷◌, ◌++◌, eqb, ℤ}
use Rattle.std.proofs.Math.Option.{Option, none, some}
use Rattle.std.specs.Int.Signed.{lt_z}
use Rattle.base.specs.Tests.{among, any, eq_z}
use Rattle.history.specs.Effects.{AnyFresh, remote_disconnect, remote_reconnect, manual_disconnect, manual_reconnect, Effect, sampled, requested}
use Rattle.history.specs.Effects.{mode_set, limits_set, clock_set, occurred, filter_set, bits_cleared, log_cleared, groups_set, profile_set}
use Rattle.history.specs.Last.{History, otherwise, given, last, mode_of, limits_of, number_at}
use Rattle.history.specs.Profile.{threshold_in_force, threshold_at}
use Rattle.history.specs.Limiter.{Observation, setting, judged, exceeded, run, fires_over, fires_under, monitored_values, Observations}

-- 'A spell runs from an accepted remote disconnect to the next accepted remote reconnect or mode 0': what begins one (true) and what ends it
-- (false). ('Spell' is document 01's term.)
abbrev pub spell_edge : Effect → History → Option Bool
spell_edge (sampled p) h = none
spell_edge (requested remote_disconnect) h = some true
spell_edge (requested remote_reconnect) h = some false
spell_edge (requested manual_disconnect) h = none
spell_edge (requested manual_reconnect) h = none
spell_edge (mode_set n) h = given (eqb n 0) false
spell_edge (limits_set t o u) h = none
spell_edge (clock_set n) h = none
spell_edge (occurred r) h = none
spell_edge (filter_set s n) h = none
spell_edge (bits_cleared s n) h = none
spell_edge (log_cleared n) h = none
spell_edge (groups_set g) h = none
spell_edge (profile_set w) h = none

-- a spell goes on: the latest of these calls began one
unfoldable pub spell : History → Bool
spell h = last spell_edge false h

-- '.. on reaching Over, .. then g is tried'; of more monitored values than one (document 02, whose 'line' is a monitored value): '.. g is tried once if a
-- line fired over ..'. The mode is looked at in firing_decides
abbrev pub tries_disconnect : AnyFresh → Observations → Observations → Bool
tries_disconnect f before after = any (λ k. fires_over (before k) (after k)) (monitored_values f)

-- '.. on reaching Under, .. then h is tried'; of more monitored values than one (document 02, whose 'line' is a monitored value): '.. h once if a line
-- fired under and none remains exceeded'. The mode is looked at in firing_decides
abbrev pub tries_reconnect : AnyFresh → Observations → Observations → Bool
tries_reconnect f before after =
    any (λ k. fires_under (before k) (after k)) (monitored_values f) && not (any (λ k. exceeded (after k)) (monitored_values f))

-- what a sample's firings decide: '.. over firing outside mode 0 .. give 2', '.. under firing in mode 5 or 6 .. give 1'; of more monitored values than
-- one (document 02, whose 'line' is a monitored value): '.. a sample decides the switch only where g or h is tried'
abbrev pub firing_decides : AnyFresh → History → Observations → Observations → Option ℕ
firing_decides f h before after =
    cond (tries_disconnect f before after) (given (not (eqb (mode_of f h) 0)) 2)
    (given (tries_reconnect f before after && among (5 ∷ 6 ∷ []) (mode_of f h)) 1)

-- what a call decides, `by_sample` being what a sample's firings decide: '.. fresh, mode 0, manual reconnect, under firing in mode 5 or 6, and a remote
-- reconnect ending a spell in mode 2 or 4 give 1; manual disconnect, over firing outside mode 0, and a remote reconnect ending a spell in another mode
-- give 2. Calls inside a spell decide nothing.' Document 02, A1, of a remote reconnect in mode 2 or 4: 'In the account such a call outside a spell
-- decides 1'
abbrev pub decides_by : AnyFresh → Option ℕ → Effect → History → Option ℕ
decides_by f by_sample (sampled ps) h = cond (spell h) none by_sample
decides_by f by_sample (requested remote_disconnect) h = none
decides_by f by_sample (requested remote_reconnect) h =
    cond (spell h) (some (cond (among (2 ∷ 4 ∷ []) (mode_of f h)) 1 2)) (given (among (2 ∷ 4 ∷ []) (mode_of f h)) 1)
decides_by f by_sample (requested manual_disconnect) h = given (not (spell h)) 2
decides_by f by_sample (requested manual_reconnect) h = given (not (spell h)) 1
decides_by f by_sample (mode_set n) h = given (eqb n 0) 1
decides_by f by_sample (limits_set ts o u) h = none
decides_by f by_sample (clock_set n) h = none
decides_by f by_sample (occurred r) h = none
decides_by f by_sample (filter_set s n) h = none
decides_by f by_sample (bits_cleared s n) h = none
decides_by f by_sample (log_cleared n) h = none
decides_by f by_sample (groups_set g) h = none
decides_by f by_sample (profile_set w) h = none

-- 'Inside one the switch is 0. Otherwise the last deciding call rules ..': by what that call gives
abbrev pub switch_by : History → ℕ → ℕ
switch_by h decided = cond (spell h) 0 decided

-- the setting in force, as the limiter sees it: 'A limiter setting is fresh or an accepted call 7'
abbrev pub setting_of : AnyFresh → History → Observation
setting_of f h = setting (limits_of f h).over (limits_of f h).under

-- document 02, A3: 'Whenever the threshold in force becomes another number ..', 'A threshold change acts in the account as a limiter setting at that
-- place ..': from one threshold to another
abbrev pub change_seen : AnyFresh → History → ℤ → ℤ → List Observation
change_seen f h before after = cond (eq_z before after) [] (setting_of f h ∷ [])

-- what the limiter sees of monitored value k in one call, newest first. '.. by the settings in force at that sample ..': a sample is over if its power is
-- above the threshold in force at it; document 02, A3: '.. at the start before the sample is judged, at the end after the last governed one, or at a kind
-- 17 that replaces an active profile'. 'Other calls between don't break it'
abbrev pub seen_in : AnyFresh → ℕ → Effect → History → List Observation
seen_in f k (sampled ps) h =
    change_seen f h (threshold_at f k ps h) (threshold_in_force f k (sampled ps ∷ h))
    ++ (judged (lt_z (threshold_at f k ps h) (number_at ps k)) ∷ change_seen f h (threshold_in_force f k h) (threshold_at f k ps h))
seen_in f k (requested q) h = []
seen_in f k (mode_set n) h = []
seen_in f k (limits_set ts o u) h = setting o u ∷ []
seen_in f k (clock_set n) h = []
seen_in f k (occurred r) h = []
seen_in f k (filter_set r n) h = []
seen_in f k (bits_cleared r n) h = []
seen_in f k (log_cleared n) h = []
seen_in f k (groups_set g) h = []
seen_in f k (profile_set w) h = change_seen f h (threshold_in_force f k h) (threshold_in_force f k (profile_set w ∷ h))

-- document 02, A5: 'a manual reconnect that moves the switch ..', which it does from 2
abbrev pub arms : Effect → ℕ → Bool
arms (sampled ps) s = false
arms (requested remote_disconnect) s = false
arms (requested remote_reconnect) s = false
arms (requested manual_disconnect) s = false
arms (requested manual_reconnect) s = eqb s 2
arms (mode_set n) s = false
arms (limits_set ts o u) s = false
arms (clock_set n) s = false
arms (occurred r) s = false
arms (filter_set r n) s = false
arms (bits_cleared r n) s = false
arms (log_cleared n) s = false
arms (groups_set g) s = false
arms (profile_set w) s = false

-- what the limiter has seen of monitored value k after a call, os being what it had seen before it, and s the switch before it. Document 02, A5: such a
-- reconnect '.. acts as a limiter setting', that in force, '.. and earlier full stretches no longer count': what was seen before is left out
abbrev pub observed : AnyFresh → ℕ → Effect → History → ℕ → List Observation → List Observation
observed f k e h s os = cond (arms e s) (setting_of f h ∷ []) (seen_in f k e h ++ os)

unfoldable mutual
  -- what the limiter has seen of monitored value k, newest first: 'A limiter setting is fresh or an accepted call 7'
  pub observations : AnyFresh → ℕ → History → List Observation
  observations f k [] = setting f.over f.under ∷ []
  observations f k (e ∷ h) = observed f k e h (switch_by h (last_decided f h)) (observations f k h)

  -- what the last deciding call gives, '.. fresh .. 1'. What the limiter has seen after the call is written out as in `observations`, since each of the
  -- two asks the other of the calls before alone
  pub last_decided : AnyFresh → History → ℕ
  last_decided f [] = 1
  last_decided f (e ∷ h) =
      otherwise
      (decides_by f
      (firing_decides f h (λ k. observations f k h) (λ k. observed f k e h (switch_by h (last_decided f h)) (observations f k h)))
      e h)
      (last_decided f h)

-- what a call decides
abbrev pub decides : AnyFresh → Effect → History → Option ℕ
decides f e h = decides_by f (firing_decides f h (λ k. observations f k h) (λ k. observations f k (e ∷ h))) e h

-- 'Inside one the switch is 0. Otherwise the last deciding call rules: fresh .. give 1 ..'
unfoldable pub switch_of : AnyFresh → History → ℕ
switch_of f h = switch_by h (last_decided f h)

-- Exceeded of monitored value k
abbrev pub exceeded_of : AnyFresh → ℕ → History → Bool
exceeded_of f k h = exceeded (observations f k h)

-- Run of monitored value k
abbrev pub run_of : AnyFresh → ℕ → History → ℕ
run_of f k h = run (observations f k h)
