-- Numbers in bytes, 'big-endian'.
use Rattle.std.specs.Prelude.{List, [], ◌∷◌, ℕ, zero, suc, ◌/◌, ◌%◌, ◌^◌}

-- v in w bytes, 'big-endian': the highest byte first
unfoldable pub be : ℕ → ℕ → List ℕ
be zero v = []
be (suc k) v = (v / 256 ^ k % 256) ∷ be k v
