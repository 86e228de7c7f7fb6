-- Document 02, A3: the groups, the emergency profile, and the threshold in force. In this file words in quotes are document 02's.
use Rattle.std.specs.Prelude.{ℕ, zero, suc, ◌-◌, cond, List, [], ◌∷◌, ◌++◌, leb, ltb, ℤ, length, take}
use Rattle.std.proofs.Math.Option.{Option, none, some}
use Rattle.history.specs.Effects.{AnyFresh, Profile, Effect, sampled, requested, mode_set, limits_set, clock_set, occurred, filter_set, bits_cleared}
use Rattle.history.specs.Effects.{log_cleared, groups_set, profile_set}
use Rattle.history.specs.Last.{History, last, threshold_of, clock_of}

-- the groups that a call sets
abbrev pub groups_in : Effect → History → Option (List ℕ)
groups_in (sampled ps) h = none
groups_in (requested q) h = none
groups_in (mode_set n) h = none
groups_in (limits_set ts o u) h = none
groups_in (clock_set n) h = none
groups_in (occurred r) h = none
groups_in (filter_set s n) h = none
groups_in (bits_cleared s n) h = none
groups_in (log_cleared n) h = none
groups_in (groups_set g) h = some g
groups_in (profile_set w) h = none

-- '.. the groups last accepted', none in a fresh meter
abbrev pub groups_of : History → List ℕ
groups_of h = last groups_in [] h

-- the profile that a call sets
abbrev pub profile_in : Effect → History → Option (Option Profile)
profile_in (sampled ps) h = none
profile_in (requested q) h = none
profile_in (mode_set n) h = none
profile_in (limits_set ts o u) h = none
profile_in (clock_set n) h = none
profile_in (occurred r) h = none
profile_in (filter_set s n) h = none
profile_in (bits_cleared s n) h = none
profile_in (log_cleared n) h = none
profile_in (groups_set g) h = none
profile_in (profile_set w) h = some (some w)

-- 'It replaces any earlier profile ..': the one last accepted, if any
abbrev pub profile_of : History → Option Profile
profile_of h = last profile_in none h

-- the clocks after the samples since a profile was last set (since fresh, if none was), in the order of the calls
unfoldable pub clocks_since : AnyFresh → History → List ℕ
clocks_since f [] = []
clocks_since f (sampled ps ∷ h) = clocks_since f h ++ (clock_of f (sampled ps ∷ h) ∷ [])
clocks_since f (requested q ∷ h) = clocks_since f h
clocks_since f (mode_set n ∷ h) = clocks_since f h
clocks_since f (limits_set ts o u ∷ h) = clocks_since f h
clocks_since f (clock_set n ∷ h) = clocks_since f h
clocks_since f (occurred r ∷ h) = clocks_since f h
clocks_since f (filter_set s n ∷ h) = clocks_since f h
clocks_since f (bits_cleared s n ∷ h) = clocks_since f h
clocks_since f (log_cleared n ∷ h) = clocks_since f h
clocks_since f (groups_set g ∷ h) = clocks_since f h
clocks_since f (profile_set w ∷ h) = []

-- '.. the first sample whose advanced clock has reached activation ..': that one and those after it
unfoldable pub from_reached : ℕ → List ℕ → List ℕ
from_reached activation [] = []
from_reached activation (t ∷ ts) = cond (leb activation t) (t ∷ ts) (from_reached activation ts)

-- '.. and governs that many samples, that one included ..': of the samples since it was set, by their clocks, those that it has governed
abbrev pub governed : Profile → List ℕ → List ℕ
governed w clocks = take w.duration (from_reached w.activation clocks)

-- '.. the profile while it waits or runs, which of the two, and samples left; after the last governed sample .. the account has no profile'
pub data ProfileState : Type 0 where
  no_profile : ProfileState
  waiting : Profile → ProfileState
  active : Profile → ℕ → ProfileState

-- by how many samples it has governed: none yet; some, and more are left; all
abbrev pub state_by : Profile → ℕ → ProfileState
state_by w zero = waiting w
state_by w (suc n) = cond (ltb (suc n) w.duration) (active w (w.duration - suc n)) no_profile

-- of the profile last set, if any, by the clocks of the samples since
abbrev pub state_at : Option Profile → List ℕ → ProfileState
state_at none clocks = no_profile
state_at (some w) clocks = state_by w (length (governed w clocks))

-- the profile after a history
abbrev pub profile_state : AnyFresh → History → ProfileState
profile_state f h = state_at (profile_of h) (clocks_since f h)

-- the threshold in force between calls: the profile's while it is active, else the normal one
abbrev pub threshold_by : ℤ → ProfileState → ℤ
threshold_by normal no_profile = normal
threshold_by normal (waiting w) = normal
threshold_by normal (active w n) = w.threshold

-- '.. the threshold in force ..' for monitored value k after a history; 'Call 7 sets the normal threshold ..'
abbrev pub threshold_in_force : AnyFresh → ℕ → History → ℤ
threshold_in_force f k h = threshold_by (threshold_of f k h) (profile_state f h)

-- a sample is judged by the profile's threshold if the profile governs it: then with it there is one governed sample more
abbrev pub threshold_with : ℤ → Option Profile → List ℕ → List ℕ → ℤ
threshold_with normal none before after = normal
threshold_with normal (some w) before after = cond (ltb (length (governed w before)) (length (governed w after))) w.threshold normal

-- the threshold in force for monitored value k at a sample
abbrev pub threshold_at : AnyFresh → ℕ → List ℤ → History → ℤ
threshold_at f k ps h = threshold_with (threshold_of f k h) (profile_of h) (clocks_since f h) (clocks_since f (sampled ps ∷ h))
