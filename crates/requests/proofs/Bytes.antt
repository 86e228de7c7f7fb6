-- Where the numbers of a request stand.
use mathlib.Core.Path.{◌≡◌}
use mathlib.Core.List.{List}
use Prim.Native.Nat.{ℕ, ◌+◌, ◌*◌}
use lib.ListN.{get_or, length}
use Prim.Native.Nat.{◌<◌, ◌≤◌}
use lib.Dec.{eqb}
use borrow.Author.Tests.{eq-eqb, ne_eqb, lt-ltb, le-ltb}
use Rattle.codec.specs.Format.{num_at}
use Rattle.codec.proofs.Numbers.{num_at_byte, num_at_halves}
use Rattle.requests.specs.Requests.{not_whole, head_format, short_format, long_format, short_data, long_data, data_in, descriptor_in, request_of, request_in}

module _ (s : List ℕ) where
  pub head_in : head_format.dec s 0 ≡ (get_or s 0 0, (get_or s 1 0, (get_or s 2 0, (num_at 2 s 3, (num_at 6 s 5, (get_or s 11 0, get_or s 12 0))))))
  head_in = rw (num_at_byte s 0, num_at_byte s 1, num_at_byte s 2, num_at_byte s 11, num_at_byte s 12)

  pub name_in : num_at 6 s 5 ≡ num_at 2 s 5 * 4294967296 + num_at 4 s 7
  name_in = num_at_halves 2 4 s 5

  pub short_in : short_format.dec s 13 ≡ (get_or s 13 0, get_or s 14 0)
  short_in = rw (num_at_byte s 13, num_at_byte s 14)

  pub long_in : long_format.dec s 13 ≡ (get_or s 13 0, num_at 4 s 14)
  long_in = rw (num_at_byte s 13)

  pub data_short : length s ≡ 15 → short_data (get_or s 13 0) (get_or s 14 0) ≡ data_in s
  unfolding data_in
  data_short h = rw (eq-eqb (length s) 15 h, num_at_byte s 13, num_at_byte s 14)

  pub data_long : length s ≡ 18 → long_data (get_or s 13 0) (num_at 4 s 14) ≡ data_in s
  unfolding data_in
  data_long h = rw (h, num_at_byte s 13)

  pub descriptor_bytes : record { class = num_at 2 s 3; name = num_at 2 s 5 * 4294967296 + num_at 4 s 7; id = get_or s 11 0 } ≡ descriptor_in s
  unfolding descriptor_in
  descriptor_bytes = rw (name_in, num_at_byte s 11)

  pub cut : length s < 13 → not_whole ≡ request_in s
  unfolding request_in
  cut h = rw (lt-ltb (length s) 13 h)

  pub no_choice : 13 ≤ length s → (get_or s 1 0 ≡ 1 → ⊥) → not_whole ≡ request_in s
  unfolding request_in
  no_choice h n = rw (le-ltb (length s) 13 h, num_at_byte s 1, ne_eqb (get_or s 1 0) 1 n)

  pub whole_head : 13 ≤ length s → get_or s 1 0 ≡ 1 → request_of (get_or s 0 0) (get_or s 12 0) (eqb (length s) 13) (get_or s 2 0) (descriptor_in s) (data_in s)
      ≡ request_in s
  unfolding request_in
  whole_head h e = rw (le-ltb (length s) 13 h, num_at_byte s 0, num_at_byte s 1, num_at_byte s 2, num_at_byte s 12, e)
