-- What each call does to each of a register's 32 bits, and to the count of the alarms that stand.
use Rattle.std.specs.Prelude.{◌≡◌, true, not, ◌&&◌, ◌||◌, ℕ, ◌^◌, ◌<◌}
use Rattle.base.specs.Bits.{bit, bit_count}
use Rattle.registers.specs.declared.Register.{Register}
use Rattle.registers.specs.declared.Alarms.{Alarms}
use Rattle.registers.specs.Register.{raised, cleared, with_filter}
use Rattle.registers.specs.Alarms.{alarms_raised, alarms_cleared, alarms_filtered, sound_alarms}

-- of a register, and of the number that a call brings: an event's mask, a mask to clear, a filter
pub record LawsOf (r : Register) (n : ℕ) : Type 0 where
  -- a bit is set by an event that has it, unless the filter hides it at that moment
  pub raised_bit : (k : ℕ) → k < 32 → bit (raised r n).bits k ≡ (bit r.bits k || (bit n k && not (bit r.filter k)))
  -- 'ones clear'
  pub cleared_bit : (k : ℕ) → k < 32 → bit (cleared r n).bits k ≡ (bit r.bits k && not (bit n k))
  -- 'A later filter neither sets nor clears'
  pub filter_bit : (k : ℕ) → bit (with_filter r n).bits k ≡ bit r.bits k
  -- the results are numbers of 32 bits
  pub raised_lt : (raised r n).bits < 2 ^ 32
  pub cleared_lt : (cleared r n).bits < 2 ^ 32

-- of every register and every number of 32 bits
abbrev pub Laws : Type 0
Laws = (r : Register) (n : ℕ) → r.bits < 2 ^ 32 → r.filter < 2 ^ 32 → n < 2 ^ 32 → LawsOf r n

-- of a sound alarm register, and of the number that a call brings
pub record AlarmLawsOf (a : Alarms) (n : ℕ) : Type 0 where
  -- 'Keep that number in the record ..': how many of the 32 bits stand
  pub counts : a.count ≡ bit_count a.register.bits
  -- '.. true after each call ..'
  pub raised_sound : sound_alarms (alarms_raised a n) ≡ true
  pub cleared_sound : sound_alarms (alarms_cleared a n) ≡ true
  pub filtered_sound : sound_alarms (alarms_filtered a n) ≡ true

-- of every sound alarm register and every number
abbrev pub AlarmLaws : Type 0
AlarmLaws = (a : Alarms) (n : ℕ) → sound_alarms a ≡ true → AlarmLawsOf a n
