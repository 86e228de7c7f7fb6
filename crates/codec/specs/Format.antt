-- Formats: how the values of a type stand in a list of bytes, 'big-endian', each in a fixed number of bytes. Formats are put together
-- as document 01, 'The page', lists an area: a number of some bytes, a byte that is 0 or 1, one after the other, some times over.
use Rattle.std.specs.Prelude.{◌≡◌, Bool, true, ◌&&◌, cond, ℕ, zero, suc, ◌+◌, ◌*◌, ◌^◌, ◌<◌, length, get_or, T, leb, eqb, ℤ, pos, nat_abs}
use mathlib.Core.List.{List, [], ◌∷◌, ◌++◌, flat_map}
use Rattle.std.specs.Int.Signed.{non_neg}
use Rattle.codec.specs.BigEndian.{be}

-- the number in the w bytes of s from index at; a byte past the end of s counts as zero
unfoldable pub num_at : ℕ → List ℕ → ℕ → ℕ
num_at zero s at = 0
num_at (suc k) s at = get_or s at 0 * 256 ^ k + num_at k s (suc at)

-- how the values of a type are put into bytes and taken out again
pub record Format (A : Type 0) : Type 1 where
  -- how many bytes
  pub width : ℕ
  -- the bytes of a value
  pub enc : A → List ℕ
  -- the value in the bytes of a list from an index
  pub dec : List ℕ → ℕ → A
  -- the bytes of a list from an index are those of a value
  pub valid : List ℕ → ℕ → Bool
  -- the values that the bytes can hold
  pub Holds : A → Type 0

-- a number of w bytes, as 'openings 4'
abbrev pub num : ℕ → Format ℕ
num w = record {
  width = w;
  enc = be w;
  dec = num_at w;
  valid = λ s at. true;
  Holds = λ v. v < 256 ^ w;
}

-- a byte that is 0 or 1, as 'Exceeded 1 (0 or 1)'
abbrev pub flag : Format Bool
flag = record {
  width = 1;
  enc = λ b. be 1 (cond b 1 0);
  dec = λ s at. eqb (num_at 1 s at) 1;
  valid = λ s at. leb (num_at 1 s at) 1;
  Holds = λ b. Unit;
}

-- an integer of w bytes that is not negative, as 'threshold 4'
abbrev pub natural : ℕ → Format ℤ
natural w = record {
  width = w;
  enc = λ z. be w (nat_abs z);
  dec = λ s at. pos (num_at w s at);
  valid = λ s at. true;
  Holds = λ z. T (non_neg z) × (nat_abs z < 256 ^ w);
}

-- one after the other, as 'clock 4, code 1'
infixr 4 ◌⊗◌
abbrev pub ◌⊗◌ : {A B : Type 0} → Format A → Format B → Format (A × B)
F ⊗ G = record {
  width = F.width + G.width;
  enc = λ p. F.enc p.0 ++ G.enc p.1;
  dec = λ s at. (F.dec s at, G.dec s (at + F.width));
  valid = λ s at. F.valid s at && G.valid s (at + F.width);
  Holds = λ p. F.Holds p.0 × G.Holds p.1;
}

-- the bytes of each value of a list, one after the other
abbrev pub encs : {A : Type 0} → Format A → List A → List ℕ
encs F = flat_map F.enc

-- the n values that stand one after the other from index at
abbrev pub decs : {A : Type 0} → Format A → ℕ → List ℕ → ℕ → List A
decs F zero s at = []
decs F (suc n) s at = F.dec s at ∷ decs F n s (at + F.width)

-- the bytes of each of those n values are valid
abbrev pub all_valid : {A : Type 0} → Format A → ℕ → List ℕ → ℕ → Bool
all_valid F zero s at = true
all_valid F (suc n) s at = F.valid s at && all_valid F n s (at + F.width)

-- the bytes can hold each value of a list
abbrev pub AllHold : {A : Type 0} → Format A → List A → Type 0
AllHold F [] = Unit
AllHold F (a ∷ l) = F.Holds a × AllHold F l

-- n times over, as '32 lines'
abbrev pub times : {A : Type 0} → ℕ → Format A → Format (List A)
times n F = record {
  width = n * F.width;
  enc = encs F;
  dec = decs F n;
  valid = all_valid F n;
  Holds = λ l. (length l ≡ n) × AllHold F l;
}

-- a type of values by another: `to` takes a value apart, `from` makes it, on the values of which P holds
abbrev pub via_on : {A B : Type 0} → Format A → (B → A) → (A → B) → (B → Type 0) → Format B
via_on F to from P = record {
  width = F.width;
  enc = λ b. F.enc (to b);
  dec = λ s at. from (F.dec s at);
  valid = F.valid;
  Holds = λ b. F.Holds (to b) × P b;
}

-- a record by its fields, whatever they are
abbrev pub via : {A B : Type 0} → Format A → (B → A) → (A → B) → Format B
via F to from = via_on F to from (λ b. Unit)
