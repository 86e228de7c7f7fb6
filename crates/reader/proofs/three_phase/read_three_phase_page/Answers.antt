use Rattle.page.proofs.Common.{◌≡◌, ◌∙◌, sym, arith, ne_eqb, eq-eqb, Bytes, Accepted}
use Rattle.calls.specs.declared.Letter.TheVariants.{None}
use Rattle.tables.specs.Index.{table_in}
use Rattle.phases_meter.specs.declared.ThreePhaseOutcome.{ThreePhaseOutcome}
use Rattle.phases_page.specs.Layout.{three_phase_read_of}
use Rattle.phases_page.proofs.RoundTrip.{laws, written_back}
use Rattle.phases_page.proofs.NearMisses.{near_misses}
use Rattle.reader.proofs.ThreePhaseRecord.{failed, passed_sound, parts_make, parts_sound}
use Rattle.reader.proofs.three_phase.read_three_phase_page.Goals as goal

pub returns-then-bytes-ne-THREE_PHASE_PAGE_LEN : goal.returns-then-bytes-ne-THREE_PHASE_PAGE_LEN
unfolding three_phase_read_of
returns-then-bytes-ne-THREE_PHASE_PAGE_LEN c =
    let bytes : Bytes c.args.bytes.now = λ i. omega (arith, c.type_inv.bytes i) in
    let read : c.refused.result ≡ three_phase_read_of (table_in c.args.table.now) c.args.bytes.now =
    rw (c.refused.ensures, ne_eqb _ _ c.if-bytes-ne-THREE_PHASE_PAGE_LEN.true) in
    record { value = read; written_back = written_back _ _ _ bytes read; laws = laws; near_misses = near_misses }

pub returns-then-not-three_phase_has_pairs : goal.returns-then-not-three_phase_has_pairs
unfolding three_phase_read_of
returns-then-not-three_phase_has_pairs c =
    let bytes : Bytes c.args.bytes.now = λ i. omega (arith, c.type_inv.bytes i) in
    let read : c.refused-then-not-three_phase_has_pairs.result ≡ three_phase_read_of (table_in c.args.table.now) c.args.bytes.now =
    rw (c.refused-then-not-three_phase_has_pairs.ensures, eq-eqb _ _ c.if-bytes-ne-THREE_PHASE_PAGE_LEN.false, sym c.three_phase_has_pairs.ensures ∙ c.if-not-three_phase_has_pairs.true) in
    record { value = read; written_back = written_back _ _ _ bytes read; laws = laws; near_misses = near_misses }

pub returns-then-not-three_phase_is_record : goal.returns-then-not-three_phase_is_record
unfolding three_phase_read_of
returns-then-not-three_phase_is_record c =
    let unsound = failed (table_in c.args.table.now) c.args.bytes.now (sym c.three_phase_is_record.ensures ∙ c.if-not-three_phase_is_record.true) in
    let bytes : Bytes c.args.bytes.now = λ i. omega (arith, c.type_inv.bytes i) in
    let read : c.refused-then-not-three_phase_is_record.result ≡ three_phase_read_of (table_in c.args.table.now) c.args.bytes.now =
    rw (c.refused-then-not-three_phase_is_record.ensures, eq-eqb _ _ c.if-bytes-ne-THREE_PHASE_PAGE_LEN.false, sym c.three_phase_has_pairs.ensures ∙ c.if-not-three_phase_has_pairs.false, unsound) in
    record { value = read; written_back = written_back _ _ _ bytes read; laws = laws; near_misses = near_misses }

pub three_phase_scalars_at-scalars-requires : goal.three_phase_scalars_at-scalars-requires
three_phase_scalars_at-scalars-requires c = sym c.three_phase_is_record.ensures ∙ c.if-not-three_phase_is_record.false

pub returns-then-not-sound : goal.returns-then-not-sound
unfolding three_phase_read_of
returns-then-not-sound c =
    let rows = table_in c.args.table.now in
    let s = c.args.bytes.now in
    let tested = parts_sound rows s c.three_phase_scalars_at-scalars.ensures c.counts_at-counts.ensures c.lines_at.ensures.0 c.lines_at.ensures.1 _ _ c.sound.ensures c.sound-2.ensures in
    let test = passed_sound rows s (sym c.three_phase_is_record.ensures ∙ c.if-not-three_phase_is_record.false) ∙ sym tested ∙ c.if-not-sound.true in
    let bytes : Bytes c.args.bytes.now = λ i. omega (arith, c.type_inv.bytes i) in
    let read : c.refused-then-not-sound.result ≡ three_phase_read_of (table_in c.args.table.now) c.args.bytes.now =
    rw (c.refused-then-not-sound.ensures, eq-eqb _ _ c.if-bytes-ne-THREE_PHASE_PAGE_LEN.false, sym c.three_phase_has_pairs.ensures ∙ c.if-not-three_phase_has_pairs.false, test) in
    record { value = read; written_back = written_back _ _ _ bytes read; laws = laws; near_misses = near_misses }

pub returns : goal.returns
unfolding three_phase_read_of
returns c =
    let rows = table_in c.args.table.now in
    let s = c.args.bytes.now in
    let tested = parts_sound rows s c.three_phase_scalars_at-scalars.ensures c.counts_at-counts.ensures c.lines_at.ensures.0 c.lines_at.ensures.1 _ _ c.sound.ensures c.sound-2.ensures in
    let test = passed_sound rows s (sym c.three_phase_is_record.ensures ∙ c.if-not-three_phase_is_record.false) ∙ sym tested ∙ c.if-not-sound.false in
    let meter = c.of_parts.ensures ∙ parts_make rows s c.three_phase_scalars_at-scalars.ensures c.counts_at-counts.ensures c.lines_at.ensures.0 c.lines_at.ensures.1 in
    let made : ThreePhaseOutcome = record { meter = c.of_parts.result; answer = Accepted; letter = None } in
    let bytes : Bytes c.args.bytes.now = λ i. omega (arith, c.type_inv.bytes i) in
    let read : made ≡ three_phase_read_of (table_in c.args.table.now) c.args.bytes.now =
    rw (meter, eq-eqb _ _ c.if-bytes-ne-THREE_PHASE_PAGE_LEN.false, sym c.three_phase_has_pairs.ensures ∙ c.if-not-three_phase_has_pairs.false, test) in
    record { value = read; written_back = written_back _ _ _ bytes read; laws = laws; near_misses = near_misses }
