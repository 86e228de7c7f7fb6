-- The bench program's input: 'records of 21 bytes: kind, five 32-bit big-endian numbers'.
use Rattle.std.specs.Prelude.{ℕ}
use Rattle.codec.specs.Format.{Format, num, ◌⊗◌, via}
use Rattle.calls.specs.declared.Command.{Command}
use Rattle.calls.specs.Calls.{command_of}

-- a record's kind and numbers, in the order of their bytes
abbrev pub Numbers : Type 0
Numbers = ℕ × (ℕ × (ℕ × (ℕ × (ℕ × ℕ))))

-- a record taken apart
abbrev pub numbers_of : Command → Numbers
numbers_of r = (r.kind, (r.n1, (r.n2, (r.n3, (r.n4, r.n5)))))

-- and made
abbrev pub of_numbers : Numbers → Command
of_numbers p = command_of p.0 p.1.0 p.1.1.0 p.1.1.1.0 p.1.1.1.1.0 p.1.1.1.1.1

-- 'kind, five 32-bit big-endian numbers'
abbrev pub record_format : Format Command
record_format = via (num 1 ⊗ num 4 ⊗ num 4 ⊗ num 4 ⊗ num 4 ⊗ num 4) numbers_of of_numbers
