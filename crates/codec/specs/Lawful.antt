-- What each format must keep: what is written is read back, and valid bytes are written back as they were.
use Rattle.std.specs.Prelude.{◌≡◌, true, List, ◌++◌, ℕ, ◌+◌, ◌<◌, ◌≤◌, length, get_or, take, drop}
use Rattle.codec.specs.Format.{Format}

-- every element is a byte
abbrev pub Bytes : List ℕ → Type 0
Bytes s = (i : ℕ) → get_or s i 0 < 256

-- the laws of a format
pub record Lawful {A : Type 0} (F : Format A) : Type 0 where
  -- a value takes as many bytes as the format is wide
  pub length_enc : (a : A) → F.Holds a → length (F.enc a) ≡ F.width
  -- a value is read where it was written, whatever stands before it and after it
  pub read_written : (a : A) → F.Holds a → (p r : List ℕ) → F.dec (p ++ (F.enc a ++ r)) (length p) ≡ a
  -- the bytes that were written are valid
  pub valid_written : (a : A) → F.Holds a → (p r : List ℕ) → F.valid (p ++ (F.enc a ++ r)) (length p) ≡ true
  -- valid bytes are the bytes of the value that is read there
  pub write_read : (s : List ℕ) (at : ℕ) → Bytes s → F.valid s at ≡ true → at + F.width ≤ length s
      → F.enc (F.dec s at) ≡ take F.width (drop at s)
  -- the value that valid bytes hold is one that the bytes can hold
  pub held_read : (s : List ℕ) (at : ℕ) → Bytes s → F.valid s at ≡ true → F.Holds (F.dec s at)
