-- 'Mode, limiter settings, filters: last accepted, else fresh (filters 0). Clock: last set, else fresh, plus samples since, held as above.'
-- A history is a list of accepted calls, the newest first.
use Rattle.std.specs.Prelude.{ℕ, suc, ◌+◌, Bool, true, false, List, [], ◌∷◌, ℤ, pos, get_or}
use Rattle.std.proofs.Math.Option.{Option, none, some}
use Rattle.base.specs.Numbers.{held}
use Rattle.history.specs.Effects.{AnyFresh, WhichRegister, alarms, errors, Effect, sampled, requested, mode_set, limits_set, clock_set, occurred}
use Rattle.history.specs.Effects.{filter_set, bits_cleared, log_cleared, groups_set, profile_set}

-- accepted calls, the newest first
abbrev pub History : Type 0
History = List Effect

-- what the option holds, else a
abbrev pub otherwise : {A : Type 0} → Option A → A → A
otherwise none a = a
otherwise (some b) a = b

-- a, if the test passes
abbrev pub given : {A : Type 0} → Bool → A → Option A
given true a = some a
given false a = none

-- what the newest call at which `pick` gives something gives, else a; `pick` sees a call and those before it
unfoldable pub last : {A : Type 0} → (Effect → History → Option A) → A → History → A
last pick a [] = a
last pick a (e ∷ h) = otherwise (pick e h) (last pick a h)

-- the mode that a call sets
abbrev pub mode_in : Effect → History → Option ℕ
mode_in (sampled p) h = none
mode_in (requested q) h = none
mode_in (mode_set n) h = some n
mode_in (limits_set t o u) h = none
mode_in (clock_set n) h = none
mode_in (occurred r) h = none
mode_in (filter_set s n) h = none
mode_in (bits_cleared s n) h = none
mode_in (log_cleared n) h = none
mode_in (groups_set g) h = none
mode_in (profile_set w) h = none

-- 'Mode ..: last accepted, else fresh ..'
abbrev pub mode_of : AnyFresh → History → ℕ
mode_of f h = last mode_in f.mode h

-- the limiter settings: 'A limiter setting is fresh or an accepted call 7'
pub record Limits : Type 0 where
  pub thresholds : List ℤ
  pub over : ℕ
  pub under : ℕ

-- a limiter setting of these numbers: 'Set limiter (threshold, Over, Under) ..', with a threshold for each monitored value
abbrev pub limits : List ℤ → ℕ → ℕ → Limits
limits ts o u = record { thresholds = ts; over = o; under = u }

-- the limiter setting of a call: '.. an accepted call 7'
abbrev pub limits_in : Effect → History → Option Limits
limits_in (sampled p) h = none
limits_in (requested q) h = none
limits_in (mode_set n) h = none
limits_in (limits_set ts o u) h = some (limits ts o u)
limits_in (clock_set n) h = none
limits_in (occurred r) h = none
limits_in (filter_set s n) h = none
limits_in (bits_cleared s n) h = none
limits_in (log_cleared n) h = none
limits_in (groups_set g) h = none
limits_in (profile_set w) h = none

-- '.. limiter settings ..: last accepted, else fresh ..'
abbrev pub limits_of : AnyFresh → History → Limits
limits_of f h = last limits_in (limits f.thresholds f.over f.under) h

-- what a list with one number for each monitored value has for the k-th, counted from 0; 0 if it has none
abbrev pub number_at : List ℤ → ℕ → ℤ
number_at zs k = get_or zs k (pos 0)

-- the threshold of monitored value k
abbrev pub threshold_of : AnyFresh → ℕ → History → ℤ
threshold_of f k h = number_at (limits_of f h).thresholds k

-- the two registers are the same
abbrev pub same_register : WhichRegister → WhichRegister → Bool
same_register alarms alarms = true
same_register alarms errors = false
same_register errors alarms = false
same_register errors errors = true

-- the filter that a call sets for a register: 'Set alarm, error filter'
abbrev pub filter_in : WhichRegister → Effect → History → Option ℕ
filter_in s (sampled p) h = none
filter_in s (requested q) h = none
filter_in s (mode_set n) h = none
filter_in s (limits_set t o u) h = none
filter_in s (clock_set n) h = none
filter_in s (occurred r) h = none
filter_in s (filter_set s' n) h = given (same_register s s') n
filter_in s (bits_cleared s' n) h = none
filter_in s (log_cleared n) h = none
filter_in s (groups_set g) h = none
filter_in s (profile_set w) h = none

-- '.. filters: last accepted, else .. (filters 0)'
abbrev pub filter_of : WhichRegister → History → ℕ
filter_of s h = last (filter_in s) 0 h

-- the clock that a call sets
abbrev pub clock_in : Effect → History → Option ℕ
clock_in (sampled p) h = none
clock_in (requested q) h = none
clock_in (mode_set n) h = none
clock_in (limits_set t o u) h = none
clock_in (clock_set n) h = some n
clock_in (occurred r) h = none
clock_in (filter_set s n) h = none
clock_in (bits_cleared s n) h = none
clock_in (log_cleared n) h = none
clock_in (groups_set g) h = none
clock_in (profile_set w) h = none

-- '.. plus samples since ..'
unfoldable pub samples_since : History → ℕ
samples_since [] = 0
samples_since (sampled p ∷ h) = suc (samples_since h)
samples_since (requested q ∷ h) = samples_since h
samples_since (mode_set n ∷ h) = samples_since h
samples_since (limits_set t o u ∷ h) = samples_since h
samples_since (clock_set n ∷ h) = 0
samples_since (occurred r ∷ h) = samples_since h
samples_since (filter_set s n ∷ h) = samples_since h
samples_since (bits_cleared s n ∷ h) = samples_since h
samples_since (log_cleared n ∷ h) = samples_since h
samples_since (groups_set g ∷ h) = samples_since h
samples_since (profile_set w ∷ h) = samples_since h

-- 'Clock: last set, else fresh, plus samples since, held as above'
abbrev pub clock_of : AnyFresh → History → ℕ
clock_of f h = held (last clock_in f.clock h + samples_since h)
