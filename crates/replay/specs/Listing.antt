-- The bench program's listing: 'Per record a line: position from 1, refusal or 0, switch, openings.'
use Rattle.std.specs.Prelude.{cond, List, [], ◌∷◌, ◌++◌, ℕ, zero, suc, ◌+◌, ◌-◌, ◌*◌, ◌/◌, ◌%◌, ltb, length, replicate}
use Rattle.std.proofs.lemmas.List.Edits.{sets}
use Rattle.calls.specs.Calls.{answer_number}
use Rattle.meter.specs.declared.Outcome.{Outcome}
use Rattle.replay.specs.declared.ListingLine.{ListingLine}

-- the byte of a decimal digit: '0' is 48
abbrev pub digit_byte : ℕ → ℕ
digit_byte d = 48 + d

-- the decimal digits of n as bytes, the highest first; of more than k digits, the k lowest
unfoldable pub digits : ℕ → ℕ → List ℕ
digits zero n = []
digits (suc k) n =
    let higher = digits k (n / 10) in
    cond (ltb n 10) (digit_byte n ∷ []) (higher ++ (digit_byte (n % 10) ∷ []))

-- all of them: n has no more than n + 1 digits
unfoldable pub decimal : ℕ → List ℕ
decimal n = digits (n + 1) n

-- the value of decimal digits behind a number
abbrev pub value_behind : ℕ → List ℕ → ℕ
value_behind v [] = v
value_behind v (x ∷ xs) = value_behind (v * 10 + (x - 48)) xs

-- a number, and the byte that ends it
unfoldable pub field : ℕ → ℕ → List ℕ
field n last = decimal n ++ (last ∷ [])

-- 'position from 1, refusal or 0, switch, openings': decimal numbers, a space (32) after each but the last, which ends the line (10)
unfoldable pub line_bytes : ℕ → ℕ → ℕ → ℕ → List ℕ
line_bytes position refusal switch openings =
    field position 32 ++ (field refusal 32 ++ (field switch 32 ++ field openings 10))

-- bytes at the end of 40 places, zeros before them
abbrev pub at_end : List ℕ → ListingLine
at_end xs = record { bytes = replicate (40 - length xs) 0 ++ xs; start = 40 - length xs }

-- 'Per record a line': of the record at a position, by what it made of the meter
abbrev pub line_of : ℕ → Outcome → ListingLine
line_of k o =
    at_end (line_bytes k (answer_number o.answer) o.meter.control.state o.meter.control.openings)

-- bytes stored just before a place
abbrev pub stored_before : List ℕ → ℕ → List ℕ → List ℕ
stored_before l end xs = sets l (end - length xs) xs
