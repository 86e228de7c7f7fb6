use Rattle.page.proofs.Common.{◌≡◌, ◌∙◌, sym, arith, ne_eqb, eq-eqb, Bytes, Accepted}
use Rattle.calls.specs.declared.Letter.TheVariants.{None}
use Rattle.tables.specs.Index.{table_in}
use Rattle.meter.specs.declared.Outcome.{Outcome}
use Rattle.page.specs.Layout.{read_of}
use Rattle.reader.proofs.Threshold.{failed, passed_sound}
use Rattle.reader.proofs.Parts.{parts_make, parts_sound}
use Rattle.page.proofs.RoundTrip.{laws, written_back}
use Rattle.page.proofs.NearMisses.{near_misses}
use Rattle.reader.proofs.read_page.Goals as goal

pub returns-then-bytes-ne-PAGE_LEN : goal.returns-then-bytes-ne-PAGE_LEN
unfolding read_of
returns-then-bytes-ne-PAGE_LEN c =
    let bytes : Bytes c.args.bytes.now = λ i. omega (arith, c.type_inv.bytes i) in
    let read : c.refused.result ≡ read_of (table_in c.args.table.now) c.args.bytes.now =
    rw (c.refused.ensures, ne_eqb _ _ c.if-bytes-ne-PAGE_LEN.true) in
    record { value = read; written_back = written_back _ _ _ bytes read; laws = laws; near_misses = near_misses }

pub returns-then-not-has_pairs : goal.returns-then-not-has_pairs
unfolding read_of
returns-then-not-has_pairs c =
    let bytes : Bytes c.args.bytes.now = λ i. omega (arith, c.type_inv.bytes i) in
    let read : c.refused-then-not-has_pairs.result ≡ read_of (table_in c.args.table.now) c.args.bytes.now =
    rw (c.refused-then-not-has_pairs.ensures, eq-eqb _ _ c.if-bytes-ne-PAGE_LEN.false, sym c.has_pairs.ensures ∙ c.if-not-has_pairs.true) in
    record { value = read; written_back = written_back _ _ _ bytes read; laws = laws; near_misses = near_misses }

pub returns-then-not-is_record : goal.returns-then-not-is_record
unfolding read_of
returns-then-not-is_record c =
    let unsound = failed (table_in c.args.table.now) c.args.bytes.now (sym c.is_record.ensures ∙ c.if-not-is_record.true) in
    let bytes : Bytes c.args.bytes.now = λ i. omega (arith, c.type_inv.bytes i) in
    let read : c.refused-then-not-is_record.result ≡ read_of (table_in c.args.table.now) c.args.bytes.now =
    rw (c.refused-then-not-is_record.ensures, eq-eqb _ _ c.if-bytes-ne-PAGE_LEN.false, sym c.has_pairs.ensures ∙ c.if-not-has_pairs.false, unsound) in
    record { value = read; written_back = written_back _ _ _ bytes read; laws = laws; near_misses = near_misses }

pub scalars_at-scalars-requires : goal.scalars_at-scalars-requires
scalars_at-scalars-requires c = sym c.is_record.ensures ∙ c.if-not-is_record.false

pub returns-then-not-sound : goal.returns-then-not-sound
unfolding read_of
returns-then-not-sound c =
    let rows = table_in c.args.table.now in
    let s = c.args.bytes.now in
    let tested = parts_sound rows s c.scalars_at-scalars.ensures c.counts_at-counts.ensures c.lines_at.ensures.0 c.lines_at.ensures.1 _ _ c.sound.ensures c.sound-2.ensures in
    let test = passed_sound rows s (sym c.is_record.ensures ∙ c.if-not-is_record.false) ∙ sym tested ∙ c.if-not-sound.true in
    let bytes : Bytes c.args.bytes.now = λ i. omega (arith, c.type_inv.bytes i) in
    let read : c.refused-then-not-sound.result ≡ read_of (table_in c.args.table.now) c.args.bytes.now =
    rw (c.refused-then-not-sound.ensures, eq-eqb _ _ c.if-bytes-ne-PAGE_LEN.false, sym c.has_pairs.ensures ∙ c.if-not-has_pairs.false, test) in
    record { value = read; written_back = written_back _ _ _ bytes read; laws = laws; near_misses = near_misses }

pub returns : goal.returns
unfolding read_of
returns c =
    let rows = table_in c.args.table.now in
    let s = c.args.bytes.now in
    let tested = parts_sound rows s c.scalars_at-scalars.ensures c.counts_at-counts.ensures c.lines_at.ensures.0 c.lines_at.ensures.1 _ _ c.sound.ensures c.sound-2.ensures in
    let test = passed_sound rows s (sym c.is_record.ensures ∙ c.if-not-is_record.false) ∙ sym tested ∙ c.if-not-sound.false in
    let meter = c.of_parts.ensures ∙ parts_make rows s c.scalars_at-scalars.ensures c.counts_at-counts.ensures c.lines_at.ensures.0 c.lines_at.ensures.1 in
    let made : Outcome = record { meter = c.of_parts.result; answer = Accepted; letter = None } in
    let bytes : Bytes c.args.bytes.now = λ i. omega (arith, c.type_inv.bytes i) in
    let read : made ≡ read_of (table_in c.args.table.now) c.args.bytes.now =
    rw (meter, eq-eqb _ _ c.if-bytes-ne-PAGE_LEN.false, sym c.has_pairs.ensures ∙ c.if-not-has_pairs.false, test) in
    record { value = read; written_back = written_back _ _ _ bytes read; laws = laws; near_misses = near_misses }
