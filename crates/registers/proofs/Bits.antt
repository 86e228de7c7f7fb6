-- The laws of a register, bit by bit, through the numbers that 32 bits make.
use Rattle.base.proofs.Prelude.{◌≡◌, refl, sym, ap, ap₂, ◌∙◌, Bool, ◌&&◌, ◌||◌, not, ℕ, ◌^◌, ◌<◌}
use lib.Bits.{bit_or, bit_and}
use Rattle.base.specs.Bits.{bit, number, inverse}
use Rattle.base.proofs.Bits.{number_bits, number_or_lem, number_lt, bit_number, clear_by}
use Rattle.registers.specs.declared.Register.{Register}
use Rattle.registers.specs.Register.{raised, cleared}
use Rattle.registers.specs.Laws.{LawsOf, Laws}

-- a number that is made of 32 bits has those bits, and no others
module _ (n : ℕ) (p : ℕ → Bool) (made : n ≡ number 32 p) where
  bit_of : (k : ℕ) → k < 32 → bit n k ≡ p k
  bit_of k h = ap (λ (m : ℕ). bit m k) made ∙ bit_number 32 p k h

  fits : n < 2 ^ 32
  fits = rw made (number_lt 32 p)

-- and-not of two numbers of 32 bits
and_not : (m n : ℕ) → m < 2 ^ 32 → n < 2 ^ 32 → bit_and m (inverse n) ≡ number 32 (λ k. bit m k && not (bit n k))
and_not m n a b =
    ap₂ (λ (x y : ℕ). bit_and x (inverse y)) (sym (number_bits 32 m a)) (sym (number_bits 32 n b))
    ∙ clear_by (bit m) (bit n)

module _ (r : Register) (mask : ℕ) (b : r.bits < 2 ^ 32) (m : mask < 2 ^ 32) where
  pub cleared_bits : (cleared r mask).bits ≡ number 32 (λ k. bit r.bits k && not (bit mask k))
  cleared_bits = and_not r.bits mask b m

  pub raised_bits : r.filter < 2 ^ 32 → (raised r mask).bits ≡ number 32 (λ k. bit r.bits k || (bit mask k && not (bit r.filter k)))
  raised_bits f =
      ap₂ bit_or (sym (number_bits 32 r.bits b)) (and_not mask r.filter m f)
      ∙ number_or_lem 32 (bit r.bits) (λ k. bit mask k && not (bit r.filter k))

  laws_of : r.filter < 2 ^ 32 → LawsOf r mask
  laws_of f =
      record {
        raised_bit = bit_of _ _ (raised_bits f);
        cleared_bit = bit_of _ _ cleared_bits;
        filter_bit = λ k. refl;
        raised_lt = fits _ _ (raised_bits f);
        cleared_lt = fits _ _ cleared_bits;
      }

pub laws : Laws
laws r n b f m = laws_of r n b m f
