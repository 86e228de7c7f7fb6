-- The decimal digits of a number, by its quotient by ten; how many there are; the value of the digits; and the length of a line's fields.
use mathlib.Core.Path.{◌≡◌, refl}
use mathlib.Core.Bool.{Bool, true, false}
use mathlib.Core.List.{List, [], ◌∷◌, ◌++◌}
use Prim.Native.Nat.{ℕ, zero, suc, ◌+◌, ◌-◌, ◌*◌, ◌/◌, ◌%◌, ◌^◌, ◌<◌, ◌≤◌}
use native.Mathlib.Nat.{pow-suc}
use native.Mathlib.Numerals.{add-one}
use native.Mathlib.Omega.{arith}
use lib.Dec.{ltb}
use lib.ListN.{length, length-append}
use borrow.Author.Tests.{ltb-true, ltb-false, lt-ltb, le-ltb}
use Rattle.replay.specs.Listing.{digit_byte, digits, decimal, value_behind, field}

small_or_large : {P : Type 0} (n : ℕ) → (n < 10 → P) → (10 ≤ n → P) → P
small_or_large {P} n small large = go (ltb n 10) refl
  where
    go : (b : Bool) → ltb n 10 ≡ b → P
    go true e = small (ltb-true n 10 e)
    go false e = large (ltb-false n 10 e)

-- a number has no more than n + 1 digits: what more is allowed changes nothing
enough : (k j n : ℕ) → n < k → n < j → digits k n ≡ digits j n
unfolding digits
enough zero j n h g = absurd (omega arith)
enough (suc k) zero n h g = absurd (omega arith)
enough (suc k) (suc j) n h g =
    small_or_large n
    (λ s. rw (lt-ltb n 10 s))
    (λ l. rw (le-ltb n 10 l, enough k j (n / 10) (omega arith) (omega arith)))

pub one_digit : (n : ℕ) → n < 10 → decimal n ≡ digit_byte n ∷ []
unfolding decimal digits
one_digit n h = rw (add-one, lt-ltb n 10 h)

pub more_digits : (n : ℕ) → 10 ≤ n → decimal n ≡ decimal (n / 10) ++ (digit_byte (n % 10) ∷ [])
unfolding decimal digits
more_digits n h = rw (add-one n, le-ltb n 10 h, enough n (n / 10 + 1) (n / 10) (omega arith) (omega arith))

-- a number below ten to the k + 1 has at most k + 1 digits
digit_count : (k n : ℕ) → n < 10 ^ suc k → length (decimal n) ≤ suc k
digit_count zero n h = rw (one_digit n (omega arith)) (omega arith)
digit_count (suc k) n h =
    small_or_large n
    (λ s. rw (one_digit n s) (omega arith))
    (λ l.
    let higher = digit_count k (n / 10) (omega (arith, pow-suc 10 (suc k))) in
    rw (more_digits n l, length-append) (omega arith))

pub some_digits : (n : ℕ) → 1 ≤ length (decimal n)
some_digits n =
    small_or_large n (λ s. rw (one_digit n s) (omega arith)) (λ l. rw (more_digits n l, length-append) (omega arith))

value_append : (v : ℕ) (xs : List ℕ) (y : ℕ) → value_behind v (xs ++ (y ∷ [])) ≡ value_behind v xs * 10 + (y - 48)
value_append v [] y = refl
value_append v (x ∷ xs) y = value_append (v * 10 + (x - 48)) xs y

digits_value : (k n : ℕ) → n < k → value_behind 0 (digits k n) ≡ n
unfolding digits
digits_value zero n h = absurd (omega arith)
digits_value (suc k) n h =
    small_or_large n
    (λ s. rw (lt-ltb n 10 s) (omega arith))
    (λ l.
    let higher = digits_value k (n / 10) (omega arith) in
    rw (le-ltb n 10 l, value_append 0 (digits k (n / 10)) (digit_byte (n % 10)), higher) (omega arith))

-- a number is the value of its digits
pub decimal_value : (n : ℕ) → value_behind 0 (decimal n) ≡ n
unfolding decimal
decimal_value n = digits_value (n + 1) n (omega arith)

-- ---- the fields of a line

pub field_length : (n last : ℕ) → length (field n last) ≡ length (decimal n) + 1
unfolding field
field_length n last = length-append (decimal n) (last ∷ [])

field_count : (k n last : ℕ) → n < 10 ^ suc k → length (field n last) ≤ suc k + 1
field_count k n last h = rw field_length (omega (arith, digit_count k n h))

-- a number, and a space behind it
abbrev pub spaced : ℕ → List ℕ
spaced n = field n 32

-- the line's last field, and the line from its second last and from its second on
abbrev pub from_openings : ℕ → List ℕ
from_openings o = field o 10

abbrev pub from_switch : ℕ → ℕ → List ℕ
from_switch s o = spaced s ++ from_openings o

abbrev pub from_refusal : ℕ → ℕ → ℕ → List ℕ
from_refusal r s o = spaced r ++ from_switch s o

-- in 40 places there is room for each field in front of the next
pub record Room (p r s o : ℕ) : Type 0 where
  pub openings : length (from_openings o) ≤ 40
  pub switch : length (spaced s) + length (from_openings o) ≤ 40
  pub refusal : length (spaced r) + length (from_switch s o) ≤ 40
  pub position : length (spaced p) + length (from_refusal r s o) ≤ 40

pub room : (p r s o : ℕ) → p < 2 ^ 64 → r < 2 ^ 8 → s < 2 ^ 8 → o < 2 ^ 32 → Room p r s o
room p r s o hp hr hs ho =
    let position = field_count 19 p 32 (omega arith) in
    let refusal = field_count 2 r 32 (omega arith) in
    let switch = field_count 2 s 32 (omega arith) in
    let openings = field_count 9 o 10 (omega arith) in
    record {
      openings = omega arith;
      switch = omega arith;
      refusal = simp length-append (omega arith);
      position = simp length-append (omega arith);
    }
