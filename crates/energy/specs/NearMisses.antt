-- Days and joins at the edge of each refusal, and days by hand. Computed.
use Rattle.std.specs.Prelude.{◌≡◌, [], ◌∷◌, map, ℕ, pos, negsuc, Ok}
use Rattle.energy.specs.declared.Energy.{Energy}
use Rattle.energy.specs.declared.Day.{Day}
use Rattle.energy.specs.declared.EnergyRefusal.TheVariants.{TooManySamples, UnreducedRemainder, SumTooLarge}
use Rattle.energy.specs.Refusals.{refusal_number}
use Rattle.energy.specs.Days.{measured_number, measured}
use Rattle.energy.specs.Joins.{joined_number, joined, joined_days}

abbrev pub energy : ℕ → ℕ → Energy
energy h s = record { watthours = h; wattseconds = s }

-- a day by its import and its export, each in watt-hours and watt-seconds
abbrev pub day_with : ℕ → ℕ → ℕ → ℕ → Day
day_with a b c d = record { import = energy a b; export = energy c d }

pub record NearMisses : Type 0 where
  -- '25, too many samples'; '26, a remainder of 3,600 or more'; '27, a join whose whole watt-hours are above 2^53'
  pub numbers : map refusal_number (TooManySamples ∷ UnreducedRemainder ∷ SumTooLarge ∷ []) ≡ 25 ∷ 26 ∷ 27 ∷ []
  -- no samples are a day; a watt for a second is a watt-second; import and export do not cancel
  pub by_hand : measured [] ∷ measured (pos 3600 ∷ negsuc 3598 ∷ pos 1 ∷ []) ∷ measured (pos 0 ∷ pos 3599 ∷ negsuc 7199 ∷ []) ∷ []
      ≡ Ok (day_with 0 0 0 0) ∷ Ok (day_with 1 1 0 3599) ∷ Ok (day_with 0 3599 2 0) ∷ []
  -- 'the lowest power must not be lost in negation': 2,147,483,648 is 596,523 times 3,600 and 848
  pub lowest_power : measured (negsuc 2147483647 ∷ []) ∷ measured (negsuc 2147483647 ∷ negsuc 2147483647 ∷ pos 2147483647 ∷ []) ∷ []
      ≡ Ok (day_with 0 0 596523 848) ∷ Ok (day_with 596523 847 1193046 1696) ∷ []
  -- '26, a remainder of 3,600 or more', in each place
  pub remainders : map (λ d. measured_number (joined_days d (day_with 0 3599 0 3599))) (day_with 0 3599 0 3599 ∷ day_with 0 3600 0 0 ∷ day_with 0 0 0 3600 ∷ [])
      ≡ 0 ∷ 26 ∷ 26 ∷ []
  pub other_remainders : map (λ d. measured_number (joined_days (day_with 0 3599 0 3599) d)) (day_with 0 0 0 0 ∷ day_with 0 3600 0 0 ∷ day_with 0 0 0 3600 ∷ [])
      ≡ 0 ∷ 26 ∷ 26 ∷ []
  -- '27, a join whose whole watt-hours are above 2^53', in each direction; the watt-hour of two remainders counts
  pub imports : map (λ d. measured_number (joined_days d (day_with 1 1800 0 0)))
      (day_with 9007199254740991 1799 0 0 ∷ day_with 9007199254740991 1800 0 0 ∷ day_with 9007199254740992 0 0 0 ∷ day_with 18446744073709551615 0 0 0 ∷ [])
      ≡ 0 ∷ 27 ∷ 27 ∷ 27 ∷ []
  pub exports : map (λ d. measured_number (joined_days d (day_with 0 0 1 1800)))
      (day_with 0 0 9007199254740991 1799 ∷ day_with 0 0 9007199254740991 1800 ∷ day_with 0 0 9007199254740992 0 ∷ day_with 0 0 18446744073709551615 0 ∷ [])
      ≡ 0 ∷ 27 ∷ 27 ∷ 27 ∷ []
  -- 26 before 27, whichever direction is at fault
  pub remainder_first : map (λ d. measured_number (joined_days d (day_with 9007199254740992 0 9007199254740992 0)))
      (day_with 1 3600 0 0 ∷ day_with 1 0 0 3600 ∷ day_with 0 3600 1 0 ∷ day_with 1 0 0 0 ∷ [])
      ≡ 26 ∷ 26 ∷ 26 ∷ 27 ∷ []
  -- of one direction alone
  pub one_direction : map (λ e. joined_number (joined e (energy 1 1800)))
      (energy 9007199254740991 1799 ∷ energy 9007199254740991 1800 ∷ energy 0 3600 ∷ energy 9007199254740992 3600 ∷ [])
      ≡ 0 ∷ 27 ∷ 26 ∷ 26 ∷ []
  -- two remainders of half an hour make a watt-hour
  pub carry : joined_days (day_with 1 1800 2 3599) (day_with 3 1800 4 2) ≡ Ok (day_with 5 0 7 1)
