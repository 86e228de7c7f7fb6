use Rattle.base.proofs.Prelude.{◌∙◌, sym, refl, arith, length, append_assoc, take, drop, sets-eq, ◌+◌}
use Rattle.std.proofs.lemmas.{Slice.put_mid-paste, List.Edits.paste_all}
use Rattle.listing.proofs.lines.put_bytes.Goals as goal

-- the part that is copied over is the text's from `len` on
pub returns : goal.returns
returns c =
    let bytes = c.args.bytes.now in
    let text = c.args.text.now in
    let len = c.args.len in (
      refl,
      put_mid-paste len _ text _ bytes (length bytes) c.copy_from_slice.ensures.after (omega arith) refl
          ∙ paste_all text len bytes (length bytes) refl
          ∙ sym (sets-eq bytes text len c.requires ∙ append_assoc (take len text) bytes (drop (len + length bytes) text)),
    )
