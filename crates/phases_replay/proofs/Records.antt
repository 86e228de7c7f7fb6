-- A record of a three-phase input: where its numbers stand; and its format is lawful, so that what is written is read back, of a whole input too.
use Rattle.base.proofs.Prelude.{◌≡◌, refl, ap, ◌∙◌, List, ◌∷◌, ℕ, ◌+◌, ◌-◌, ◌/◌, add_assoc, arith, length}
use Rattle.codec.specs.Format.{num_at, encs, decs, AllHold}
use Rattle.codec.specs.Lawful.{Lawful}
use Rattle.codec.proofs.Formats.{num_lawful, pair_lawful, via_lawful, length_encs}
use Rattle.phases.specs.declared.ThreePhaseCommand.{ThreePhaseCommand}
use Rattle.phases.specs.Calls.{three_phase_command_of}
use Rattle.replay.proofs.Lists.{one_read, rest_read}
use Rattle.phases_replay.specs.Input.{three_phase_numbers_of, of_three_phase_numbers, three_phase_record_format}
use Rattle.phases_replay.specs.Replay.{three_phase_first_in, three_phase_later_in}

pub record_lawful : Lawful three_phase_record_format
record_lawful =
    let four = num_lawful 4 in
    via_lawful three_phase_numbers_of of_three_phase_numbers (λ r. refl) (λ p. refl)
    (pair_lawful (num_lawful 1)
    (pair_lawful four
    (pair_lawful four (pair_lawful four (pair_lawful four (pair_lawful four (pair_lawful four (pair_lawful four four))))))))

module _ (s : List ℕ) (at : ℕ) where
  pub record_numbers : three_phase_record_format.dec s at
      ≡ three_phase_command_of (num_at 1 s at) (num_at 4 s (at + 1)) (num_at 4 s (at + 5)) (num_at 4 s (at + 9)) (num_at 4 s (at + 13)) (num_at 4 s (at + 17))
      (num_at 4 s (at + 21)) (num_at 4 s (at + 25)) (num_at 4 s (at + 29))
  record_numbers = simp add_assoc

-- the records of an input as they were written
module _ (r : ThreePhaseCommand) (rs : List ThreePhaseCommand) (h : AllHold three_phase_record_format (r ∷ rs)) where
  pub first_read : three_phase_first_in (encs three_phase_record_format (r ∷ rs)) ≡ r
  first_read = one_read record_lawful r rs h

  pub later_read : three_phase_later_in (encs three_phase_record_format (r ∷ rs)) ≡ rs
  later_read =
      let s = encs three_phase_record_format (r ∷ rs) in
      let count : length s / 33 - 1 ≡ length rs = omega (arith, length_encs record_lawful (r ∷ rs) h) in
      ap (λ (n : ℕ). decs three_phase_record_format n s 33) count ∙ rest_read record_lawful r rs h
