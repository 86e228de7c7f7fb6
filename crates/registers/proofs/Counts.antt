-- The count of the alarms that stand.
use Prim.Native.Nat.{ℕ, ◌≤◌}
use mathlib.Core.Path.{◌≡◌, refl}
use mathlib.Core.Bool.{true}
use borrow.Author.Tests.{eqb-true, eq-eqb}
use Rattle.base.specs.Bits.{bit, bit_count}
use Rattle.base.proofs.Bits.{how_many_most}
use Rattle.registers.specs.declared.Register.{Register}
use Rattle.registers.specs.declared.Alarms.{Alarms}
use Rattle.registers.specs.Register.{raised, cleared}
use Rattle.registers.specs.Alarms.{counting, alarms_filtered, sound_alarms}
use Rattle.registers.specs.Laws.{AlarmLaws}

pub sound_count : (a : Alarms) → sound_alarms a ≡ true → a.count ≡ bit_count a.register.bits
unfolding sound_alarms
sound_count a s = eqb-true a.count (bit_count a.register.bits) s

-- so that a byte holds it
pub sound_most : (a : Alarms) → sound_alarms a ≡ true → a.count ≤ 32
sound_most a s = rw (sound_count a s) (how_many_most 32 (bit a.register.bits))

pub counted_sound : (r : Register) → sound_alarms (counting r) ≡ true
unfolding sound_alarms
counted_sound r = eq-eqb (bit_count r.bits) (bit_count r.bits) refl

pub filtered_sound : (a : Alarms) (n : ℕ) → sound_alarms a ≡ true → sound_alarms (alarms_filtered a n) ≡ true
unfolding sound_alarms
filtered_sound a n s = s

pub alarm_laws : AlarmLaws
alarm_laws a n s =
    record {
      counts = sound_count a s;
      raised_sound = counted_sound (raised a.register n);
      cleared_sound = counted_sound (cleared a.register n);
      filtered_sound = filtered_sound a n s;
    }
