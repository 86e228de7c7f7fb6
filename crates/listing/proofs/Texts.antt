-- The text of a part as its functions put it: that of the first record by its tests, that of a block as lines and what a cut record adds.
use Rattle.base.proofs.Prelude.{◌≡◌, sym, ap, ◌∙◌, List, ℕ, ◌+◌, ◌<◌, ◌≤◌, arith, length, length-append, sets, lt-ltb}
use Rattle.base.proofs.Prelude.{le-ltb, eq-eqb, ne_eqb}
use Rattle.codec.proofs.Stores.{sets_then}
use Rattle.calls.specs.declared.Command.{Command}
use Rattle.meter.specs.declared.{Outcome.Outcome}
use Rattle.replay.specs.declared.ListingLine.{ListingLine}
use Rattle.replay.specs.Replay.{first_in, start_of}
use Rattle.replay.specs.Listing.{line_of}
use Rattle.listing.specs.declared.Progress.{Progress}
use Rattle.listing.specs.Lines.{PutBehind, PutAtStart, shown, lines_in}
use Rattle.listing.specs.Listing.{bad_line, cut_line, first_text, block_text}

-- ---- the first record

module _ (s : List ℕ) {r : Command} (read : r ≡ first_in s) where
  kind_read : r.kind ≡ (first_in s).kind
  kind_read = ap (λ (r : Command). r.kind) read

  pub bad_first : 21 ≤ length s → (r.kind ≡ 0 → ⊥) → bad_line ≡ first_text s
  unfolding first_text
  bad_first long other = rw (le-ltb (length s) 21 long, ne_eqb (first_in s).kind 0 (λ z. other (kind_read ∙ z)))

  pub line_first : {o : Outcome} {line : ListingLine} → 21 ≤ length s → r.kind ≡ 0 → o ≡ start_of r → line ≡ line_of 1 o
      → shown line ≡ first_text s
  unfolding first_text
  line_first long zero made drawn =
      rw (le-ltb (length s) 21 long, eq-eqb (first_in s).kind 0 (sym kind_read ∙ zero), drawn, made, read)

pub short_first : (s : List ℕ) → length s < 21 → cut_line (length s) ≡ first_text s
unfolding first_text
short_first s h = rw (lt-ltb (length s) 21 h)

-- what was put is the text of the first record
pub first_put : (text : List ℕ) {xs ys : List ℕ} → xs ≡ ys → {len : ℕ} {text' : List ℕ} → PutBehind text 0 xs len text' → PutAtStart text ys len text'
first_put text {xs} {ys} e {len} {text'} put = (omega (arith, put.0, ap length e), put.1 ∙ ap (sets text 0) e)

-- ---- a block

pub block_put : (p : Progress) (s text : List ℕ) {len : ℕ} {text' : List ℕ} {len' : ℕ} {text'' : List ℕ}
    → PutAtStart text (lines_in p.position p.meter s) len text'
    → PutBehind text' len (cut_line (length s)) len' text'' → PutAtStart text (block_text p s) len' text''
unfolding block_text
block_put p s text {len} {text'} {len'} {text''} lines cut =
    let xs = lines_in p.position p.meter s in
    let ys = cut_line (length s) in
    let behind : len ≡ 0 + length xs = omega (arith, lines.0) in (
      omega (arith, lines.0, cut.0, length-append xs ys),
      cut.1 ∙ ap (λ (t : List ℕ). sets t len ys) lines.1 ∙ sets_then text 0 xs ys len behind,
    )
