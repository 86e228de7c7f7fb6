-- The laws of the records, of their run and of the lines, together.
use mathlib.Core.Path.{◌≡◌, refl}
use mathlib.Core.List.{List}
use Prim.Native.Nat.{ℕ, ◌-◌, ◌^◌, ◌<◌, ◌≤◌}
use lib.ListN.{length, drop, replicate, length-append, length-replicate}
use lib.Seq.{drop_at}
use Rattle.replay.specs.Listing.{line_bytes, at_end}
use Rattle.replay.specs.Laws.{Laws}
use Rattle.replay.proofs.Records.{record_lawful, first_read, later_read}
use Rattle.replay.proofs.Runs.{holds_account}
use Rattle.replay.proofs.Inputs.{compared, disconnect_holds}
use Rattle.replay.proofs.Digits.{one_digit, more_digits, decimal_value, room}

line_shown : (xs : List ℕ) → drop (at_end xs).start (at_end xs).bytes ≡ xs
line_shown xs = drop_at (replicate (40 - length xs) 0) xs (40 - length xs) (length-replicate (40 - length xs) 0)

line_fits : (p r s o : ℕ) → p < 2 ^ 64 → r < 2 ^ 8 → s < 2 ^ 8 → o < 2 ^ 32 → length (line_bytes p r s o) ≤ 40
unfolding line_bytes
line_fits p r s o hp hr hs ho = rw length-append (room p r s o hp hr hs ho).position

pub laws : Laws
laws =
    record {
      record_width = refl;
      record_lawful = record_lawful;
      first_read = first_read;
      later_read = later_read;
      account_held = λ rows table s bytes started. holds_account s bytes started rows table;
      compared = compared;
      disconnect_holds = λ rows table s out bytes e. disconnect_holds s out bytes e rows table;
      one_digit = one_digit;
      more_digits = more_digits;
      decimal_value = decimal_value;
      line_shown = line_shown;
      line_fits = line_fits;
    }
