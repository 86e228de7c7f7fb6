-- A register of 32 bits and its filter.
use Rattle.std.specs.Prelude.{ℕ}
use Rattle.std.specs.Int.Bits.{bit_or, bit_and}
use Rattle.base.specs.Bits.{inverse}
use Rattle.registers.specs.declared.Register.{Register}

-- 'A bit that is one in the filter at that moment is hidden and not set'
abbrev pub raised : Register → ℕ → Register
raised r mask = record { bits = bit_or r.bits (bit_and mask (inverse r.filter)); filter = r.filter }

-- 'Clear alarms, errors (mask): ones clear'
abbrev pub cleared : Register → ℕ → Register
cleared r mask = record { bits = bit_and r.bits (inverse mask); filter = r.filter }

-- 'A later filter neither sets nor clears'
abbrev pub with_filter : Register → ℕ → Register
with_filter r filter = record { bits = r.bits; filter = filter }
