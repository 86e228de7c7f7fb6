-- The texts of the parts are the listing: of blocks, by what they add to each other; of the whole, by what the first record is.
use Rattle.base.proofs.Prelude.{◌≡◌, refl, ap, ◌∙◌, subst, Bool, true, false, ◌&&◌, cond, List, [], ◌∷◌, ◌++◌, append_assoc, append-nil, flat_map, ℕ, zero, suc}
use Rattle.base.proofs.Prelude.{◌+◌, ◌*◌, ◌%◌, ◌<◌, ◌≤◌, arith, eqb, ltb, length, take, drop, length-append, length-take, length-drop, take-append-drop}
use Rattle.base.proofs.Prelude.{take_all, lt-ltb, le-ltb, le-leb, lt-leb, eq-eqb, ne_eqb, ltb-true, ltb-false, eqb-true, by_test}
use Rattle.calls.specs.declared.Command.{Command}
use Rattle.meter.specs.declared.Outcome.{Outcome}
use Rattle.replay.specs.Replay.{record_length, first_in, records_from, start_of}
use Rattle.replay.specs.Listing.{line_of}
use Rattle.listing.specs.declared.Progress.{Progress}
use Rattle.listing.specs.Lines.{shown, lines_from}
use Rattle.listing.specs.Listing.{bad_line, cut_line, fresh_accepted, listing_from, listing_of}
use Rattle.listing.specs.Listing.{first_text, after_first, block_text, after_block, blocks_text, after_blocks, Blocks}
use Rattle.listing.specs.Laws.{joined, ReadAs, Laws}
use Rattle.listing.proofs.Parts.{first_inside, later_behind, records_cat, records_count, lines_cat}

-- ---- blocks

cut_behind : (k n : ℕ) → cut_line (k * 21 + n) ≡ cut_line n
cut_behind k n = let same : (k * 21 + n) % 21 ≡ n % 21 = omega arith in rw same

-- a full block, and the bytes behind it
block_cat : (p : Progress) (s t : List ℕ) → length s ≡ 195 * 21 → block_text p s ++ block_text (after_block p s) t ≡ block_text p (s ++ t)
unfolding block_text
block_cat p s t full =
    let none : cut_line (length s) ≡ [] = ap cut_line full in
    let size : length (s ++ t) ≡ 195 * 21 + length t = omega (arith, length-append s t) in
    let same : cut_line (length (s ++ t)) ≡ cut_line (length t) = ap cut_line size ∙ cut_behind 195 (length t) in
    let lines = lines_cat p.position p.meter (records_from 0 s) (records_from 0 t) in
    rw (none, same, records_cat s t 195 full, lines, records_count s t 195 full, append-nil, append_assoc)

no_block : (p : Progress) (ss : List (List ℕ)) → p.more ≡ false → Blocks p ss → ss ≡ []
unfolding Blocks
no_block p [] e h = refl
no_block p (s ∷ ss) e h = absurd (let z : ◌≡◌ {A = ℕ} 0 1 = cc h.0 in omega arith)

-- blocks until the listing ends add what their bytes would in one
blocks_joined : (p : Progress) (ss : List (List ℕ)) → p.more ≡ true → Blocks p ss → (after_blocks p ss).more ≡ false
    → blocks_text p ss ≡ block_text p (joined ss)
unfolding Blocks after_blocks blocks_text flat_map
blocks_joined p [] goes h e = absurd (let z : ◌≡◌ {A = ℕ} 0 1 = cc in omega arith)
blocks_joined p (s ∷ ss) goes h e =
    by_test (eqb (length s) 4095)
    (λ full.
    ap (λ (l : List ℕ). block_text p s ++ l) (blocks_joined (after_block p s) ss full h.1.1 e)
    ∙ block_cat p s (joined ss) (eqb-true (length s) 4095 full))
    (λ last. rw (no_block (after_block p s) ss last h.1.1, append-nil (block_text p s), append-nil s))

-- ---- the whole

-- fewer bytes than a record's are all of the input
short_listed : (s : List ℕ) → length s < 21 → first_text s ≡ listing_of s
unfolding first_text listing_of
short_listed s h = let same : length s % 21 ≡ length s = omega arith in rw (lt-ltb _ _ h, same)

-- a whole first record, and the bytes behind it
module _ (first rest : List ℕ) (size : length first ≡ 21) where
  first_listed : first_text first ≡ cond (eqb (first_in first).kind 0) (shown (line_of 1 (start_of (first_in first)))) bad_line
  unfolding first_text
  first_listed = rw (le-ltb (length first) 21 (omega arith))

  goes_on : (after_first first).more ≡ eqb (first_in first).kind 0 && fresh_accepted (start_of (first_in first))
  goes_on = rw (le-leb 21 (length first) (omega arith))

  joined_size : length (first ++ rest) ≡ 1 * 21 + length rest
  joined_size = omega (arith, length-append first rest)

  from_listed : (o : Outcome) → listing_from o (first ++ rest)
      ≡ shown (line_of 1 o) ++ cond (fresh_accepted o) (lines_from 2 o.meter (records_from 0 rest) ++ cut_line (length rest)) []
  from_listed o = rw (later_behind first rest size, ap cut_line joined_size ∙ cut_behind 1 (length rest))

  whole_listed : listing_of (first ++ rest)
      ≡ cond (eqb (first_in first).kind 0) (listing_from (start_of (first_in first)) (first ++ rest)) bad_line
  unfolding listing_of
  whole_listed =
      let n = joined_size in
      rw (ne_eqb (length (first ++ rest)) 0 (λ z. omega arith), le-ltb (length (first ++ rest)) 21 (omega arith))
      (ap (λ (r : Command). cond (eqb r.kind 0) (listing_from (start_of r) (first ++ rest)) bad_line) (first_inside first rest (omega arith)))

-- by what the first record is: of kind 0 or not, accepted or not
by_first : (kind accepted : Bool) (line bad rest texts : List ℕ) → (kind && accepted ≡ true → texts ≡ rest)
    → (kind && accepted ≡ false → texts ≡ [])
    → cond kind line bad ++ texts ≡ cond kind (line ++ cond accepted rest []) bad
by_first true true line bad rest texts on off = rw (on refl)
by_first true false line bad rest texts on off = rw (off refl)
by_first false accepted line bad rest texts on off = rw (off refl, append-nil)

parts_listed : (first rest : List ℕ) (blocks : List (List ℕ)) → length first ≡ 21 → Blocks (after_first first) blocks
    → (after_blocks (after_first first) blocks).more ≡ false → ((after_first first).more ≡ true → joined blocks ≡ rest)
    → first_text first ++ blocks_text (after_first first) blocks ≡ listing_of (first ++ rest)
unfolding block_text blocks_text
parts_listed first rest blocks size followed ended read =
    let o = start_of (first_in first) in
    let p = after_first first in
    let more = goes_on first rest size in
    let on : (eqb (first_in first).kind 0 && fresh_accepted o ≡ true → blocks_text p blocks ≡ block_text p rest) =
    λ e. blocks_joined p blocks (more ∙ e) followed ended ∙ ap (block_text p) (read (more ∙ e)) in
    let off : (eqb (first_in first).kind 0 && fresh_accepted o ≡ false → blocks_text p blocks ≡ []) =
    λ e. ap (blocks_text p) (no_block p blocks (more ∙ e) followed) in
    rw (first_listed first rest size, whole_listed first rest size, from_listed first rest size)
    (by_first (eqb (first_in first).kind 0) (fresh_accepted o) (shown (line_of 1 o)) bad_line (block_text p rest) (blocks_text p blocks) on off)

whole : (input : List ℕ) (blocks : List (List ℕ)) → ReadAs input blocks
    → first_text (take record_length input) ++ blocks_text (after_first (take record_length input)) blocks ≡ listing_of input
unfolding blocks_text
whole input blocks r =
    by_test (ltb (length input) 21)
    (λ cut.
    let few : length input < 21 = ltb-true (length input) 21 cut in
    let all : take 21 input ≡ input = take_all 21 input (omega arith) in
    let off : (after_first (take 21 input)).more ≡ false = rw (lt-leb 21 (length (take 21 input)) (rw all few)) in
    rw (no_block (after_first (take 21 input)) blocks off r.followed, append-nil, all) (short_listed input few))
    (λ long.
    let size : length (take 21 input) ≡ 21 = omega (arith, length-take 21 input, ltb-false (length input) 21 long) in
    parts_listed (take 21 input) (drop 21 input) blocks size r.followed r.ended r.all_read
    ∙ ap listing_of (take-append-drop 21 input))

-- ---- the blocks of an input

-- blocks as they are read behind a progress that goes on, until the listing ends
abbrev Cut : Progress → List ℕ → Type 0
Cut p s = (ss : List (List ℕ)) × (Blocks p ss × (((after_blocks p ss).more ≡ false) × (joined ss ≡ s)))

last_cut : (p : Progress) (s : List ℕ) → p.more ≡ true → length s < 4095 → Cut p s
unfolding Blocks after_blocks flat_map
last_cut p s goes h = (s ∷ [], ((goes, (omega arith, tt)), (ne_eqb (length s) 4095 (λ e. omega arith), append-nil s)))

more_cut : (p : Progress) (s t : List ℕ) → p.more ≡ true → length s ≡ 4095 → Cut (after_block p s) t → Cut p (s ++ t)
unfolding Blocks after_blocks flat_map
more_cut p s t goes h c =
    (s ∷ c.0, ((goes, (omega arith, c.1.0)), (c.1.1.0, ap (λ (l : List ℕ). s ++ l) c.1.1.1)))

-- at most n bytes
cut_of : (n : ℕ) (p : Progress) (s : List ℕ) → p.more ≡ true → length s ≤ n → Cut p s
cut_of zero p s goes h = last_cut p s goes (omega arith)
cut_of (suc n) p s goes h =
    by_test (ltb (length s) 4095) (λ short. last_cut p s goes (ltb-true (length s) 4095 short))
    (λ long.
    let enough = ltb-false (length s) 4095 long in
    let size : length (take 4095 s) ≡ 4095 = omega (arith, length-take 4095 s) in
    let fewer : length (drop 4095 s) ≤ n = omega (arith, length-drop 4095 s) in
    let rest = cut_of n (after_block p (take 4095 s)) (drop 4095 s) (eq-eqb (length (take 4095 s)) 4095 size) fewer in
    subst (λ (t : List ℕ). Cut p t) (take-append-drop 4095 s) (more_cut p (take 4095 s) (drop 4095 s) goes size rest))

in_blocks : (input : List ℕ) → (blocks : List (List ℕ)) × ReadAs input blocks
unfolding Blocks after_blocks
in_blocks input =
    by_test (after_first (take 21 input)).more
    (λ on.
    let c = cut_of (length (drop 21 input)) (after_first (take 21 input)) (drop 21 input) on (omega arith) in
    (c.0, record { followed = c.1.0; ended = c.1.1.0; all_read = λ e. c.1.1.1 }))
    (λ off. ([], record { followed = tt; ended = off; all_read = λ on. cc }))

pub laws : Laws
laws = record { in_blocks = in_blocks; whole = whole }
