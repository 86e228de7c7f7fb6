-- An input of the three-phase meter: records as the bench program's, with eight numbers in the place of five. A fresh of this meter takes so many: 'Fresh
-- takes mode, threshold, Over, Under, clock', and document 02, A13, 'Fresh and call 7 take four thresholds ..'.
use Rattle.std.specs.Prelude.{ℕ}
use Rattle.codec.specs.Format.{Format, num, ◌⊗◌, via}
use Rattle.phases.specs.declared.ThreePhaseCommand.{ThreePhaseCommand}
use Rattle.phases.specs.Calls.{three_phase_command_of}

-- a record's kind and numbers, in the order of their bytes
abbrev pub ThreePhaseNumbers : Type 0
ThreePhaseNumbers = ℕ × (ℕ × (ℕ × (ℕ × (ℕ × (ℕ × (ℕ × (ℕ × ℕ)))))))

-- a record taken apart
abbrev pub three_phase_numbers_of : ThreePhaseCommand → ThreePhaseNumbers
three_phase_numbers_of r = (r.kind, (r.n1, (r.n2, (r.n3, (r.n4, (r.n5, (r.n6, (r.n7, r.n8))))))))

-- and made
abbrev pub of_three_phase_numbers : ThreePhaseNumbers → ThreePhaseCommand
of_three_phase_numbers p =
    let q = p.1.1.1.1 in
    three_phase_command_of p.0 p.1.0 p.1.1.0 p.1.1.1.0 q.0 q.1.0 q.1.1.0 q.1.1.1.0 q.1.1.1.1

-- 'kind, .. 32-bit big-endian numbers', of which there are eight
abbrev pub three_phase_record_format : Format ThreePhaseCommand
three_phase_record_format =
    via (num 1 ⊗ num 4 ⊗ num 4 ⊗ num 4 ⊗ num 4 ⊗ num 4 ⊗ num 4 ⊗ num 4 ⊗ num 4) three_phase_numbers_of of_three_phase_numbers
