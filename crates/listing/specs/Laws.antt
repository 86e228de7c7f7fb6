-- The parts that the program makes are the listing; and what the functions that read and write promise.
use Rattle.std.specs.Prelude.{◌≡◌, true, false, ℕ, ◌<◌, ◌≤◌, length, take, drop}
use mathlib.Core.List.{List, ◌++◌, flat_map}
use Rattle.replay.specs.Replay.{record_length}
use Rattle.listing.specs.declared.Progress.{Progress}
use Rattle.listing.specs.declared.ListingEnd.{ListingEnd}
use Rattle.listing.specs.Listing.{listing_of, block_length, first_text, after_first, after_block, blocks_text, after_blocks, Blocks}

-- ---- an input as the program reads it

-- blocks one behind the other
abbrev pub joined : List (List ℕ) → List ℕ
joined ss = flat_map (λ s. s) ss

-- the first 21 bytes, and behind them, if the listing goes on, all the others in blocks until it ends
pub record ReadAs (input : List ℕ) (blocks : List (List ℕ)) : Type 0 where
  pub followed : Blocks (after_first (take record_length input)) blocks
  pub ended : (after_blocks (after_first (take record_length input)) blocks).more ≡ false
  pub all_read : (after_first (take record_length input)).more ≡ true → joined blocks ≡ drop record_length input

-- of any input
pub record Laws : Type 0 where
  -- it can be read so
  pub in_blocks : (input : List ℕ) → (blocks : List (List ℕ)) × ReadAs input blocks
  -- and then the texts of the parts, one behind the other, are its listing
  pub whole : (input : List ℕ) (blocks : List (List ℕ)) → ReadAs input blocks
      → first_text (take record_length input) ++ blocks_text (after_first (take record_length input)) blocks ≡ listing_of input

-- ---- which bytes were read, no contract says: these are for some

-- a block was read
pub record BlockRead (before after : Progress) : Type 0 where
  pub block : List ℕ
  pub fits : length block ≤ block_length
  pub progress : after ≡ after_block before block

-- blocks were read, one after the other; where all was written, until the listing ends or the positions do
pub record BlocksRead (before : Progress) (r : ListingEnd) : Type 0 where
  pub blocks : List (List ℕ)
  pub followed : Blocks before blocks
  pub progress : r.progress ≡ after_blocks before blocks
  pub ended : r.written ≡ true → r.progress.position < 18446744073709551420 → r.progress.more ≡ false

-- the first bytes were read, and blocks behind them
pub record InputRead (r : ListingEnd) : Type 0 where
  pub first : List ℕ
  pub fits : length first ≤ record_length
  pub rest : BlocksRead (after_first first) r
