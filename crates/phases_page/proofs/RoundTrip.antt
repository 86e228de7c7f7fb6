-- The layout of the three-phase meter's page is lawful: a record comes back from its page, and an accepted page from its record.
use Rattle.page.proofs.Common.{◌≡◌, refl, sym, ap, ◌∙◌, true, List, [], ◌++◌, append-nil, flat_map, ℕ, ◌+◌, ◌≤◌, arith, eqb, leb, length, take, drop}
use Rattle.page.proofs.Common.{length-append, length-drop, take-append-drop, take_all, eqb-true, eq-eqb, le-leb, every, and_left, and_right, be, Bytes, Lawful}
use Rattle.page.proofs.Common.{length_be, EventRow, Accepted, Refused}
use Rattle.codec.proofs.Formats.{num_lawful, flag_lawful, natural_lawful, pair_lawful, via_lawful}
use Rattle.page.proofs.Lines.{length_lines, length_encs_lines}
use Rattle.page.proofs.Areas.{control_lawful, register_lawful, alarms_lawful, logs_lawful, small, pairs_first, first_pairs}
use Rattle.page.proofs.Tests.{both_passed, all_passed, refused_back, accepted_left, refused_left, left_behind}
use Rattle.phases_meter.specs.declared.ThreePhaseMeter.{ThreePhaseMeter}
use Rattle.phases_meter.specs.declared.ThreePhaseOutcome.{ThreePhaseOutcome}
use Rattle.phases_meter.specs.State.{sound_three_phase_meter}
use Rattle.phases_meter.specs.Fresh.{three_phase_refused_outcome, three_phase_least_meter}
use Rattle.phases_meter.proofs.Accepting.{three_phase_least_meter_lem}
use Rattle.phases_page.specs.Layout.{value_fields, of_value_fields, monitored_area, limiters_fields, of_limiters_fields, limiters_area, three_phase_areas}
use Rattle.phases_page.specs.Layout.{three_phase_meter_areas, of_three_phase_meter_areas, three_phase_layout, three_phase_pairs, three_phase_directory}
use Rattle.phases_page.specs.Layout.{three_phase_start, three_phase_size, three_phase_page_of, three_phase_write_answer, three_phase_written}
use Rattle.phases_page.specs.Layout.{three_phase_accepted_outcome, three_phase_has_pairs, three_phase_meter_in, three_phase_holds_sound, three_phase_read_of}
use Rattle.phases_page.specs.Laws.{ThreePhaseTyped, LawsOf, Laws, ThreePhaseWrittenBack}
use Rattle.phases_page.proofs.Held.{meter_held}

-- ---- the formats

monitored_lawful : Lawful monitored_area
monitored_lawful =
    via_lawful value_fields of_value_fields (λ m. refl) (λ p. refl) (pair_lawful (natural_lawful 4) (pair_lawful flag_lawful (num_lawful 4)))

limiters_lawful : Lawful limiters_area
limiters_lawful =
    via_lawful limiters_fields of_limiters_fields (λ l. refl) (λ p. refl)
    (pair_lawful (num_lawful 4)
    (pair_lawful (num_lawful 4)
    (pair_lawful monitored_lawful (pair_lawful monitored_lawful (pair_lawful monitored_lawful monitored_lawful)))))

areas_lawful : Lawful three_phase_areas
areas_lawful =
    pair_lawful control_lawful
    (pair_lawful limiters_lawful (pair_lawful (num_lawful 4) (pair_lawful alarms_lawful (pair_lawful register_lawful logs_lawful))))

pub layout_lawful : Lawful three_phase_layout
unfolding three_phase_layout
layout_lawful = via_lawful three_phase_meter_areas of_three_phase_meter_areas (λ m. refl) (λ p. refl) areas_lawful

layout_width : three_phase_layout.width ≡ three_phase_areas.width
unfolding three_phase_layout
layout_width = refl

-- ---- lengths

pub length_directory : length three_phase_directory ≡ three_phase_start
unfolding three_phase_directory be flat_map
length_directory = refl

pub length_layout : (m : ThreePhaseMeter) → length (three_phase_layout.enc m) ≡ three_phase_areas.width
unfolding three_phase_layout flat_map
length_layout m = simp (length-append, length_be, length_encs_lines, length_lines)

pub page_length_lem : (m : ThreePhaseMeter) → length (three_phase_page_of m) ≡ three_phase_size
page_length_lem m = length-append three_phase_directory (three_phase_layout.enc m) ∙ rw (length_directory, length_layout m)

-- ---- the pairs

-- the page begins with the pairs
pairs_written : (r : List ℕ) → three_phase_has_pairs (three_phase_directory ++ r) ≡ true
unfolding three_phase_has_pairs three_phase_directory every small
pairs_written = pairs_first three_phase_pairs refl

-- bytes that have the pairs begin with the directory
directory_read : (s : List ℕ) → Bytes s → three_phase_start ≤ length s → three_phase_has_pairs s ≡ true → take three_phase_start s ≡ three_phase_directory
unfolding three_phase_has_pairs three_phase_directory
directory_read = first_pairs three_phase_pairs

-- ---- the record

-- a record that fits the page's bytes comes back from them
record_back : (m : ThreePhaseMeter) → three_phase_layout.Holds m → three_phase_meter_in (three_phase_page_of m) ≡ m
record_back m h = rw (append-nil, length_directory) at (layout_lawful.read_written m h three_phase_directory [])

injective : (rows rows' : List EventRow) (m n : ThreePhaseMeter) → ThreePhaseTyped m → ThreePhaseTyped n → sound_three_phase_meter rows m ≡ true
    → sound_three_phase_meter rows' n ≡ true → three_phase_page_of m ≡ three_phase_page_of n → m ≡ n
injective rows rows' m n t u sm sn e =
    sym (record_back m (meter_held rows m t sm)) ∙ ap three_phase_meter_in e ∙ record_back n (meter_held rows' n u sn)

record Read (rows : List EventRow) (s : List ℕ) : Type 0 where
  len : length s ≡ three_phase_size
  begins : three_phase_has_pairs s ≡ true
  valid : three_phase_layout.valid s three_phase_start ≡ true
  sound : sound_three_phase_meter rows (three_phase_meter_in s) ≡ true
  meter : (three_phase_read_of rows s).meter ≡ three_phase_meter_in s

module _ (rows : List EventRow) where
  -- ---- what the writer leaves

  accepted_page : (m : ThreePhaseMeter) (out : List ℕ) → three_phase_write_answer rows m out ≡ Accepted
      → take three_phase_size (three_phase_written rows m out) ≡ three_phase_page_of m
  unfolding three_phase_write_answer three_phase_written
  accepted_page m out = accepted_left three_phase_size (sound_three_phase_meter rows m) (three_phase_page_of m) out (page_length_lem m)

  refused_same : (m : ThreePhaseMeter) (out : List ℕ) (n : ℕ) → three_phase_write_answer rows m out ≡ Refused n → three_phase_written rows m out ≡ out
  unfolding three_phase_write_answer three_phase_written
  refused_same m out = refused_left three_phase_size (sound_three_phase_meter rows m) (three_phase_page_of m) out

  bytes_behind : (m : ThreePhaseMeter) (out : List ℕ) → drop three_phase_size (three_phase_written rows m out) ≡ drop three_phase_size out
  unfolding three_phase_written
  bytes_behind m out = left_behind three_phase_size (sound_three_phase_meter rows m) (three_phase_page_of m) out (page_length_lem m)

  -- ---- the round trips

  pub read_page : (m : ThreePhaseMeter) → ThreePhaseTyped m → sound_three_phase_meter rows m ≡ true
      → three_phase_read_of rows (three_phase_page_of m) ≡ three_phase_accepted_outcome m
  unfolding three_phase_read_of three_phase_holds_sound
  read_page m t sound =
      let h = meter_held rows m t sound in
      let back = record_back m h in
      let valid : three_phase_layout.valid (three_phase_page_of m) three_phase_start ≡ true =
      rw (append-nil, length_directory) at (layout_lawful.valid_written m h three_phase_directory []) in
      rw (
        eq-eqb (length (three_phase_page_of m)) three_phase_size (page_length_lem m),
        pairs_written (three_phase_layout.enc m),
        valid,
        back,
        sound,
      )

  accepted_read : (s : List ℕ) → (three_phase_read_of rows s).answer ≡ Accepted → Read rows s
  unfolding three_phase_read_of three_phase_holds_sound
  accepted_read s e =
      let (len, (begins, whole)) = all_passed (λ (o : ThreePhaseOutcome). o.answer) (three_phase_accepted_outcome (three_phase_meter_in s))
      three_phase_refused_outcome (λ n. refl) (eqb (length s) three_phase_size) (three_phase_has_pairs s) (three_phase_holds_sound rows s) e in
      let sound = sound_three_phase_meter rows (three_phase_meter_in s) in
      record {
        len = eqb-true (length s) three_phase_size len;
        begins = begins;
        valid = and_left (three_phase_layout.valid s three_phase_start) sound whole;
        sound = and_right (three_phase_layout.valid s three_phase_start) sound whole;
        meter = rw (len, begins, whole);
      }

  pub page_read : (s : List ℕ) → Bytes s → (three_phase_read_of rows s).answer ≡ Accepted → three_phase_page_of (three_phase_read_of rows s).meter ≡ s
  page_read s b e =
      let r = accepted_read s e in
      let n : length s ≡ three_phase_size = r.len in
      let room : three_phase_start + three_phase_layout.width ≤ length s = rw layout_width (omega arith) in
      let rest : length (drop three_phase_start s) ≤ three_phase_layout.width = rw (length-drop, layout_width) (omega arith) in
      rw (
        r.meter,
        layout_lawful.write_read s three_phase_start b r.valid room,
        take_all three_phase_layout.width (drop three_phase_start s) rest,
        ← directory_read s b (omega arith) r.begins,
      )
      (take-append-drop three_phase_start s)

  accepted_sound : (s : List ℕ) → (three_phase_read_of rows s).answer ≡ Accepted → sound_three_phase_meter rows (three_phase_read_of rows s).meter ≡ true
  accepted_sound s e = let r = accepted_read s e in rw r.meter r.sound

  refused_read : (s : List ℕ) (n : ℕ) → (three_phase_read_of rows s).answer ≡ Refused n → (three_phase_read_of rows s).meter ≡ three_phase_least_meter
  unfolding three_phase_read_of
  refused_read s =
      refused_back (λ (o : ThreePhaseOutcome). o.answer) (λ (o : ThreePhaseOutcome). o.meter) (three_phase_accepted_outcome (three_phase_meter_in s)) refl
      three_phase_refused_outcome three_phase_least_meter (λ n. three_phase_least_meter_lem)
      (eqb (length s) three_phase_size) (three_phase_has_pairs s) (three_phase_holds_sound rows s)

  -- ---- of the writer

  writer_sound : (m : ThreePhaseMeter) (out : List ℕ) → three_phase_write_answer rows m out ≡ Accepted → sound_three_phase_meter rows m ≡ true
  unfolding three_phase_write_answer
  writer_sound m out e = (both_passed (sound_three_phase_meter rows m) (leb three_phase_size (length out)) e).0

  read_written : (m : ThreePhaseMeter) (out : List ℕ) → ThreePhaseTyped m → three_phase_write_answer rows m out ≡ Accepted
      → three_phase_read_of rows (take three_phase_size (three_phase_written rows m out)) ≡ three_phase_accepted_outcome m
  read_written m out t e = ap (three_phase_read_of rows) (accepted_page m out e) ∙ read_page m t (writer_sound m out e)

  write_accepted : (s out : List ℕ) → three_phase_size ≤ length out → (three_phase_read_of rows s).answer ≡ Accepted
      → three_phase_write_answer rows (three_phase_read_of rows s).meter out ≡ Accepted
  unfolding three_phase_write_answer
  write_accepted s out room e = rw (accepted_sound s e, le-leb three_phase_size (length out) room)

  written_read : (s out : List ℕ) → Bytes s → three_phase_size ≤ length out → (three_phase_read_of rows s).answer ≡ Accepted
      → take three_phase_size (three_phase_written rows (three_phase_read_of rows s).meter out) ≡ s
  written_read s out b room e = accepted_page (three_phase_read_of rows s).meter out (write_accepted s out room e) ∙ page_read s b e

  by_table : LawsOf rows
  by_table =
      record {
        accepted_page = accepted_page;
        refused_same = refused_same;
        bytes_behind = bytes_behind;
        read_written = read_written;
        write_accepted = write_accepted;
        written_read = written_read;
        refused_read = refused_read;
        accepted_sound = accepted_sound;
      }

  -- of what the reader hands back
  pub written_back : (s : List ℕ) (o : ThreePhaseOutcome) → Bytes s → o ≡ three_phase_read_of rows s → ThreePhaseWrittenBack rows o s
  written_back s o b e h out room =
      let accepted : (three_phase_read_of rows s).answer ≡ Accepted = sym (ap (λ (x : ThreePhaseOutcome). x.answer) e) ∙ h in
      rw e (write_accepted s out room accepted, written_read s out b room accepted)

pub laws : Laws
laws = record { document_pairs = refl; document_size = refl; page_length_lem = page_length_lem; injective = injective; by_table = by_table }
