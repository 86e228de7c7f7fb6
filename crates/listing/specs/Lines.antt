-- The lines of some records, one behind the other: 'Per record a line: position from 1, refusal or 0, switch, openings.'
use Rattle.std.specs.Prelude.{◌≡◌, List, [], ◌∷◌, ◌++◌, ℕ, ◌+◌, length, drop}
use Rattle.std.proofs.lemmas.List.Edits.{sets}
use Rattle.events.specs.Table.{built_in}
use Rattle.calls.specs.declared.Command.{Command}
use Rattle.meter.specs.declared.Meter.{Meter}
use Rattle.replay.specs.declared.ListingLine.{ListingLine}
use Rattle.replay.specs.Replay.{records_from, next_of}
use Rattle.replay.specs.Listing.{line_of}

-- bytes put behind the first `len` of a text, which is then `len'` long
abbrev pub PutBehind : List ℕ → ℕ → List ℕ → ℕ → List ℕ → Type 0
PutBehind text len xs len' text' = (len' ≡ len + length xs) × (text' ≡ sets text len xs)

-- and at its start
abbrev pub PutAtStart : List ℕ → List ℕ → ℕ → List ℕ → Type 0
PutAtStart text xs len' text' = (len' ≡ length xs) × (text' ≡ sets text 0 xs)

-- the bytes of a line
abbrev pub shown : ListingLine → List ℕ
shown line = drop line.start line.bytes

-- 'Per record a line': those of records on a meter, the first of them at a position
unfoldable pub lines_from : ℕ → Meter → List Command → List ℕ
lines_from position m [] = []
lines_from position m (r ∷ rs) =
    shown (line_of position (next_of built_in m r)) ++ lines_from (position + 1) (next_of built_in m r).meter rs

-- those of the whole records in some bytes
abbrev pub lines_in : ℕ → Meter → List ℕ → List ℕ
lines_in position m s = lines_from position m (records_from 0 s)
