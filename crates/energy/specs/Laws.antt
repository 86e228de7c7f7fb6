-- What days and joins satisfy.
use Rattle.std.specs.Prelude.{◌≡◌, Bool, true, cond, not, ◌||◌, ◌&&◌, List, [], ◌∷◌, ◌++◌, ℕ, ◌+◌, ◌*◌, ◌<◌, ◌≤◌, leb, ℤ, pos, negsuc, ◌+ℤ◌, ◌-ℤ◌, length, Result, Ok, Err}
use Rattle.base.specs.Numbers.{positive_part, negative_part}
use Rattle.base.specs.Tests.{every}
use Rattle.energy.specs.declared.Energy.{Energy}
use Rattle.energy.specs.declared.Day.{Day}
use Rattle.energy.specs.declared.EnergyRefusal.{EnergyRefusal}
use Rattle.energy.specs.declared.EnergyRefusal.TheVariants.{TooManySamples, SumTooLarge}
use Rattle.energy.specs.Energy.{energy_of, amount_of}
use Rattle.energy.specs.Days.{total, day_of, measured}
use Rattle.energy.specs.Joins.{is_unreduced, is_too_large, joined, joined_days}

-- an energy is so many watt-seconds: exactly, and in its reduced form
pub record ExactEnergy (e : Energy) (n : ℕ) : Type 0 where
  pub amount : 3600 * e.watthours + e.wattseconds ≡ n
  pub remainder : e.wattseconds < 3600

-- a result is joined on; a refusal stays
abbrev pub and_then : Result Day EnergyRefusal → (Day → Result Day EnergyRefusal) → Result Day EnergyRefusal
and_then (Ok d) k = k d
and_then (Err e) k = Err e

-- days, of one berth or of several, joined two by two in any bracketing
pub data Bracketing : Type 0 where
  day : List ℤ → Bracketing
  join : Bracketing → Bracketing → Bracketing

-- all its samples together
unfoldable pub samples_in : Bracketing → List ℤ
samples_in (day xs) = xs
samples_in (join s t) = samples_in s ++ samples_in t

-- a signed number of 32 bits
abbrev pub is_power : ℤ → Bool
is_power z = leb (positive_part z) 2147483647 && leb (negative_part z) 2147483648

-- each of its days is one that is accepted, and its samples are values of their type
unfoldable pub are_days : Bracketing → Bool
are_days (day xs) = leb (length xs) 86400 && every is_power xs
are_days (join s t) = are_days s && are_days t

-- what comes of measuring each day and joining them so
unfoldable pub joined_in : Bracketing → Result Day EnergyRefusal
joined_in (day xs) = measured xs
joined_in (join s t) = and_then (joined_in s) (λ a. and_then (joined_in t) (λ b. joined_days a b))

-- a day, unless its whole watt-hours are above 2^53
abbrev pub up_to_limit : Day → Result Day EnergyRefusal
up_to_limit d = cond (is_too_large d.import || is_too_large d.export) (Err SumTooLarge) (Ok d)

-- all powers added, imports and exports cancelling
unfoldable pub net : List ℤ → ℤ
net [] = pos 0
net (x ∷ xs) = x +ℤ net xs

-- of the energy of a day
pub record Laws : Type 0 where
  -- '25, too many samples', and no other refusal
  pub too_many : (xs : List ℤ) → 86400 < length xs → measured xs ≡ Err TooManySamples
  pub up_to_86400 : (xs : List ℤ) → length xs ≤ 86400 → measured xs ≡ Ok (day_of xs)
  -- 'as watt-hours and a remainder of watt-seconds below 3,600'
  pub import_exact : (xs : List ℤ) → ExactEnergy (day_of xs).import (total positive_part xs)
  pub export_exact : (xs : List ℤ) → ExactEnergy (day_of xs).export (total negative_part xs)
  -- nothing is lost, and nothing counted in both: what is imported, less what is exported, is the sum of the powers
  pub balance : (xs : List ℤ) → pos (total positive_part xs) -ℤ pos (total negative_part xs) ≡ net xs
  -- 'separately': a sample counts in one direction alone
  pub not_exported : (n : ℕ) (xs : List ℤ) → (day_of (pos n ∷ xs)).export ≡ (day_of xs).export
  pub not_imported : (n : ℕ) (xs : List ℤ) → (day_of (negsuc n ∷ xs)).import ≡ (day_of xs).import
  -- 'Days and berths may be joined, and the joined pair is that of all samples together', in any bracketing
  pub together : (t : Bracketing) → are_days t ≡ true → joined_in t ≡ up_to_limit (day_of (samples_in t))

-- both remainders of a day are below 3,600
abbrev pub is_reduced : Day → Bool
is_reduced d = not (is_unreduced d.import) && not (is_unreduced d.export)

-- of joins
pub record JoinLaws : Type 0 where
  -- nothing is lost: the sum is exact in each direction, and reduced
  pub sum_exact : (a b e : Energy) → joined a b ≡ Ok e
      → ExactEnergy e (3600 * a.watthours + a.wattseconds + (3600 * b.watthours + b.wattseconds))
  pub import_joined : (a b d : Day) → joined_days a b ≡ Ok d → joined a.import b.import ≡ Ok d.import
  pub export_joined : (a b d : Day) → joined_days a b ≡ Ok d → joined a.export b.export ≡ Ok d.export
  -- of any two days whose remainders are below 3,600: 27 where the whole watt-hours of a sum are above 2^53, and otherwise both sums
  pub days_joined : (a b : Day) → is_reduced a ≡ true → is_reduced b ≡ true
      → joined_days a b
      ≡ up_to_limit (record { import = energy_of (amount_of a.import + amount_of b.import); export = energy_of (amount_of a.export + amount_of b.export) })
  -- in any order
  pub commutes : (a b : Day) → joined_days a b ≡ joined_days b a
  -- and in any bracketing, refusals among the results, where all remainders are below 3,600. Otherwise it may be 26 one way and 27 the other
  pub associates : (a b c : Day) → is_reduced a ≡ true → is_reduced b ≡ true → is_reduced c ≡ true
      → and_then (joined_days a b) (λ d. joined_days d c) ≡ and_then (joined_days b c) (λ d. joined_days a d)
