-- The listing of a whole input; and its parts as the program makes them, from the first record and from blocks of 195 records.
use Rattle.std.specs.Prelude.{◌≡◌, Bool, true, cond, ◌&&◌, List, [], ◌∷◌, ◌++◌, ℕ, ◌+◌, ◌*◌, ◌%◌, ◌≤◌, eqb, leb, ltb, length}
use Rattle.events.specs.Table.{built_in}
use Rattle.calls.specs.Calls.{answer_number}
use Rattle.meter.specs.declared.Outcome.{Outcome}
use Rattle.replay.specs.Replay.{record_length, first_in, later_in, records_from, start_of, meter_after}
use Rattle.replay.specs.Listing.{line_of}
use Rattle.listing.specs.declared.Progress.{Progress}
use Rattle.listing.specs.Lines.{shown, lines_from, lines_in}

-- ---- the whole input

-- 'one line `bad`'
abbrev pub bad_line : List ℕ
bad_line = 98 ∷ 97 ∷ 100 ∷ 10 ∷ []

-- the line `short`
abbrev pub short_line : List ℕ
short_line = 115 ∷ 104 ∷ 111 ∷ 114 ∷ 116 ∷ 10 ∷ []

-- 'a cut record .. writes `short` and ends': the last of so many bytes
abbrev pub cut_line : ℕ → List ℕ
cut_line n = cond (eqb (n % record_length) 0) [] short_line

-- 'Per record a line: position from 1, refusal or 0': fresh was not refused
abbrev pub fresh_accepted : Outcome → Bool
fresh_accepted o = eqb (answer_number o.answer) 0

-- 'A refused fresh ends the run after its line'; else come the lines of the later records, and `short` if the last is cut
abbrev pub listing_from : Outcome → List ℕ → List ℕ
listing_from o s = shown (line_of 1 o) ++ cond (fresh_accepted o) (lines_from 2 o.meter (later_in s) ++ cut_line (length s)) []

-- 'Empty input writes nothing'; 'a cut record, the first too, writes `short` and ends'; 'The first has kind 0 and is fresh, else one line `bad` ends it'
unfoldable pub listing_of : List ℕ → List ℕ
listing_of s =
    cond (eqb (length s) 0) []
    (cond (ltb (length s) record_length) short_line
    (cond (eqb (first_in s).kind 0) (listing_from (start_of (first_in s)) s) bad_line))

-- ---- its parts

-- the records of a block
abbrev pub block_records : ℕ
block_records = 195

-- and its bytes
abbrev pub block_length : ℕ
block_length = block_records * record_length

-- what the first bytes that were read, 21 if there are so many, add to the listing
unfoldable pub first_text : List ℕ → List ℕ
first_text s =
    cond (ltb (length s) record_length) (cut_line (length s)) (cond (eqb (first_in s).kind 0) (shown (line_of 1 (start_of (first_in s)))) bad_line)

-- and how far the listing then is: a block follows if fresh was accepted
abbrev pub after_first : List ℕ → Progress
after_first s = record {
  meter = (start_of (first_in s)).meter;
  position = 2;
  more = leb record_length (length s) && (eqb (first_in s).kind 0 && fresh_accepted (start_of (first_in s)));
}

-- what a block adds
unfoldable pub block_text : Progress → List ℕ → List ℕ
block_text p s = lines_in p.position p.meter s ++ cut_line (length s)

-- and how far the listing then is: another block follows if this one is full
abbrev pub after_block : Progress → List ℕ → Progress
after_block p s = record {
  meter = meter_after built_in p.meter (records_from 0 s);
  position = p.position + block_records;
  more = eqb (length s) block_length;
}

-- what blocks add, one after the other
unfoldable pub blocks_text : Progress → List (List ℕ) → List ℕ
blocks_text p [] = []
blocks_text p (s ∷ ss) = block_text p s ++ blocks_text (after_block p s) ss

-- and how far the listing then is
unfoldable pub after_blocks : Progress → List (List ℕ) → Progress
after_blocks p [] = p
after_blocks p (s ∷ ss) = after_blocks (after_block p s) ss

-- blocks that are read one after the other, each where the listing goes on
unfoldable pub Blocks : Progress → List (List ℕ) → Type 0
Blocks p [] = Unit
Blocks p (s ∷ ss) = (p.more ≡ true) × ((length s ≤ block_length) × Blocks (after_block p s) ss)
