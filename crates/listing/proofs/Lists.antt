-- A block's lines put one by one: what is in the text, and what the records that are left will add to it.
use Rattle.base.proofs.Prelude.{◌≡◌, sym, ap, ◌∙◌, List, [], ◌∷◌, ◌++◌, ℕ, ◌+◌, ◌*◌, ◌≤◌, arith, length, length-append, sets, length-sets}
use Rattle.events.specs.Table.{built_in}
use Rattle.codec.proofs.Stores.{sets_then}
use Rattle.calls.specs.declared.Command.{Command}
use Rattle.meter.specs.declared.{Meter.Meter, Outcome.Outcome}
use Rattle.replay.specs.declared.ListingLine.{ListingLine}
use Rattle.meter.specs.Machine.{record_after}
use Rattle.replay.specs.Replay.{calls_in, next_of, meter_after}
use Rattle.replay.proofs.Runs.{meter_next}
use Rattle.replay.specs.Listing.{line_of}
use Rattle.listing.specs.Lines.{shown, lines_from}

module _ (text₀ : List ℕ) (position : ℕ) (m₀ : Meter) (all : List Command) where
  -- the lines of i records are put: with those of the rest, the text will be as with all of them
  pub record Listing (text : List ℕ) (m : Meter) (len i : ℕ) (rest : List Command) : Type 0 where
    pub size : length text ≡ length text₀
    pub room : len ≤ 40 * i
    pub meter : meter_after built_in m rest ≡ meter_after built_in m₀ all
    pub count : len + length (lines_from (position + i) m rest) ≡ length (lines_from position m₀ all)
    pub bytes : sets text len (lines_from (position + i) m rest) ≡ sets text₀ 0 (lines_from position m₀ all)

  pub one_listed : {text : List ℕ} {m : Meter} {len i : ℕ} {r : Command} {rest : List Command} → Listing text m len i (r ∷ rest)
      → {o : Outcome} {line : ListingLine} {text' : List ℕ} {len' : ℕ} → o ≡ next_of built_in m r → line ≡ line_of (position + i) o
      → (len' ≡ len + length (shown line)) × (text' ≡ sets text len (shown line)) → len' ≤ len + 40
      → Listing text' o.meter len' (i + 1) rest
  unfolding lines_from
  one_listed {text} {m} {len} {i} {r} {rest} h {o} {line} {text'} {len'} made drawn put most =
      let after : Outcome → List ℕ = λ n. lines_from (position + i + 1) n.meter rest in
      let next : position + (i + 1) ≡ position + i + 1 = omega arith in
      let lines : lines_from (position + i) m (r ∷ rest) ≡ shown line ++ after o = rw (drawn, made) in
      record {
        size = ap length put.1 ∙ length-sets text len (shown line) ∙ h.size;
        room = omega (arith, h.room);
        meter = ap (λ (n : Outcome). meter_after built_in n.meter rest) made ∙ sym (meter_next built_in m r rest) ∙ h.meter;
        count = rw next (omega (arith, h.count, put.0, ap length lines, length-append (shown line) (after o)));
        bytes =
            rw (next, put.1)
            (sets_then text len (shown line) (after o) len' put.0 ∙ ap (sets text len) (sym lines) ∙ h.bytes);
      }

  pub all_listed : {text : List ℕ} {m : Meter} {len i : ℕ} → Listing text m len i []
      → (m ≡ meter_after built_in m₀ all) × ((len ≡ length (lines_from position m₀ all)) × (text ≡ sets text₀ 0 (lines_from position m₀ all)))
  unfolding lines_from record_after calls_in
  all_listed h = (h.meter, (omega (arith, h.count), h.bytes))
