-- The listing of the worked example, and those of small inputs: each way that a listing can end.
use Rattle.std.specs.Prelude.{◌≡◌, List, [], ◌∷◌, ◌++◌, ℕ, replicate}
use Rattle.codec.specs.Format.{encs}
use Rattle.replay.specs.Input.{record_format}
use Rattle.replay.specs.Listing.{line_bytes}
use Rattle.replay.specs.Examples.{record_of_kind, first_record, later_records, only}
use Rattle.listing.specs.Listing.{listing_of}
use Rattle.listing.specs.Laws.{joined}

-- the input of document 01's worked example
abbrev pub worked_input : List ℕ
worked_input = encs record_format (first_record ∷ later_records)

-- and what it prints
abbrev pub worked_lines : List (List ℕ)
worked_lines =
    line_bytes 1 0 1 0 ∷ line_bytes 2 0 1 0 ∷ line_bytes 3 0 1 0
    ∷ line_bytes 4 0 2 1
    ∷ line_bytes 5 0 1 1 ∷ line_bytes 6 0 1 1 ∷ line_bytes 7 0 1 1 ∷ line_bytes 8 0 1 1
    ∷ line_bytes 9 0 0 2 ∷ line_bytes 10 0 0 2 ∷ line_bytes 11 3 0 2 ∷ line_bytes 12 0 2 2 ∷ line_bytes 13 1 2 2 ∷ line_bytes 14 0 1 2 ∷ line_bytes 15 2 1 2
    ∷ []

-- the small inputs are those whose answers `replay` gives as examples
pub record Examples : Type 0 where
  -- 'Empty input writes nothing'
  pub empty : listing_of [] ≡ []
  -- `short`: a cut first record is that, whatever its kind
  pub first_cut : listing_of (replicate 20 1) ≡ 115 ∷ 104 ∷ 111 ∷ 114 ∷ 116 ∷ 10 ∷ []
  -- 'one line `bad` ends it': a cut record behind it is not seen
  pub bad : listing_of (replicate 22 1) ≡ 98 ∷ 97 ∷ 100 ∷ 10 ∷ []
  -- '1 1 1 0': 'A refused fresh ends the run after its line', too
  pub refused : listing_of (only 7 ++ (1 ∷ [])) ≡ 49 ∷ 32 ∷ 49 ∷ 32 ∷ 49 ∷ 32 ∷ 48 ∷ 10 ∷ []
  -- '1 0 1 0', and `short`
  pub cut : listing_of (only 5 ++ (1 ∷ [])) ≡ 49 ∷ 32 ∷ 48 ∷ 32 ∷ 49 ∷ 32 ∷ 48 ∷ 10 ∷ 115 ∷ 104 ∷ 111 ∷ 114 ∷ 116 ∷ 10 ∷ []
  -- '1 0 1 0', and no more
  pub taken : listing_of (only 5) ≡ 49 ∷ 32 ∷ 48 ∷ 32 ∷ 49 ∷ 32 ∷ 48 ∷ 10 ∷ []
  -- '1 0 1 0', '2 0 1 0' and '3 6 1 0': 'Without a good table the built-in one serves' (document 02, A8), which lists 6 and not 20; '6 | code not listed'
  pub events :
      listing_of (only 5 ++ encs record_format (record_of_kind 9 6 ∷ record_of_kind 9 20 ∷ []))
      ≡ 49 ∷ 32 ∷ 48 ∷ 32 ∷ 49 ∷ 32 ∷ 48 ∷ 10
      ∷ 50 ∷ 32 ∷ 48 ∷ 32 ∷ 49 ∷ 32 ∷ 48 ∷ 10
      ∷ 51 ∷ 32 ∷ 54 ∷ 32 ∷ 49 ∷ 32 ∷ 48 ∷ 10
      ∷ []
  -- 'Fresh (5, 3000, 2, 3, 1000); samples 3000, 3001, 3001; .. print'
  pub worked : listing_of worked_input ≡ joined worked_lines
