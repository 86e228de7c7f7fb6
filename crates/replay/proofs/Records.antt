-- The input's record: where its numbers stand, past the end too; and its format is lawful, so that what is written is read back, of a whole
-- input too.
use mathlib.Core.Path.{◌≡◌, refl, ap, ◌∙◌}
use mathlib.Core.List.{List, ◌∷◌}
use Prim.Native.Nat.{ℕ, ◌+◌, ◌-◌, ◌/◌, ◌≤◌}
use native.Mathlib.Nat.{add_assoc}
use native.Mathlib.Omega.{arith}
use lib.ListN.{length}
use Rattle.codec.specs.Format.{num_at, encs, decs, AllHold}
use Rattle.codec.specs.Lawful.{Lawful}
use Rattle.codec.proofs.Numbers.{num_at_past}
use Rattle.codec.proofs.Formats.{num_lawful, pair_lawful, via_lawful, length_encs}
use Rattle.calls.specs.declared.Command.{Command}
use Rattle.calls.specs.Calls.{command_of}
use Rattle.replay.specs.Input.{numbers_of, of_numbers, record_format}
use Rattle.replay.specs.Replay.{first_in, later_in}
use Rattle.replay.proofs.Lists.{one_read, rest_read}

pub record_lawful : Lawful record_format
record_lawful =
    via_lawful numbers_of of_numbers (λ r. refl) (λ p. refl)
    (pair_lawful (num_lawful 1)
    (pair_lawful (num_lawful 4)
    (pair_lawful (num_lawful 4) (pair_lawful (num_lawful 4) (pair_lawful (num_lawful 4) (num_lawful 4))))))

module _ (s : List ℕ) (at : ℕ) where
  pub record_numbers : record_format.dec s at
      ≡ command_of (num_at 1 s at) (num_at 4 s (at + 1)) (num_at 4 s (at + 5)) (num_at 4 s (at + 9)) (num_at 4 s (at + 13)) (num_at 4 s (at + 17))
  record_numbers = simp add_assoc

  pub record_past : length s ≤ at → record_format.dec s at ≡ command_of 0 0 0 0 0 0
  record_past h =
      record_numbers
      ∙ rw (
        num_at_past 1 s at h,
        num_at_past 4 s (at + 1) (omega arith),
        num_at_past 4 s (at + 5) (omega arith),
        num_at_past 4 s (at + 9) (omega arith),
        num_at_past 4 s (at + 13) (omega arith),
        num_at_past 4 s (at + 17) (omega arith),
      )

-- the records of an input as they were written
module _ (r : Command) (rs : List Command) (h : AllHold record_format (r ∷ rs)) where
  pub first_read : first_in (encs record_format (r ∷ rs)) ≡ r
  first_read = one_read record_lawful r rs h

  pub later_read : later_in (encs record_format (r ∷ rs)) ≡ rs
  later_read =
      let s = encs record_format (r ∷ rs) in
      let count : length s / 21 - 1 ≡ length rs = omega (arith, length_encs record_lawful (r ∷ rs) h) in
      ap (λ (n : ℕ). decs record_format n s 21) count ∙ rest_read record_lawful r rs h
