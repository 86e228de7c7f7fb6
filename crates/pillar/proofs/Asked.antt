-- What `pillar_request` answers and leaves, as its code comes to it.
use mathlib.Core.Path.{◌≡◌, refl, sym, ap, ◌∙◌}
use mathlib.Core.Bool.{Bool, true, false, cond}
use mathlib.Core.List.{List}
use Prim.Native.Nat.{ℕ, ◌<◌, ◌≤◌}
use native.Mathlib.Omega.{arith}
use lib.Dec.{ltb}
use lib.ListN.{length}
use borrow.Author.Tests.{lt-ltb, le-ltb}
use Rattle.std.specs.Prelude.{Ok, Err}
use Rattle.events.specs.Table.{EventRow}
use Rattle.calls.specs.declared.Answer.{Answer}
use Rattle.calls.specs.declared.Answer.TheVariants.{Accepted, Refused}
use Rattle.calls.specs.Calls.{answer_number, letter_byte}
use Rattle.requests.specs.Requests.{Parsed, request_in}
use Rattle.meter.specs.declared.Meter.{Meter}
use Rattle.meter.specs.declared.Outcome.{Outcome}
use Rattle.page.specs.Layout.{write_answer, written, read_of}
use Rattle.server.specs.declared.Served.{Served}
use Rattle.server.specs.Service.{Service, refused_with, parsed_on, service_sound, served_by, filled_by}
use Rattle.pillar.specs.Request.{read_first, service_on, request_number, request_page, request_buffer, request_length, request_letter, Requested}

-- a service that is refused is nothing else
refused_sound : (rows : List EventRow) (m : Meter) (s l : List ℕ) (n : ℕ) → (service_sound rows m s l).answer ≡ Refused n → service_sound rows m s l ≡ refused_with m n
unfolding service_sound
refused_sound rows m s l n = go (ltb (length l) 32) (request_in s)
  where
    with_number : (k : ℕ) → (refused_with m k).answer ≡ Refused n → refused_with m k ≡ refused_with m n
    with_number k e = let z : k ≡ n = cc in rw z

    go : (c : Bool) (p : Parsed) → (cond c (refused_with m 21) (parsed_on rows m p)).answer ≡ Refused n → cond c (refused_with m 21) (parsed_on rows m p) ≡ refused_with m n
    go true p e = with_number 21 e
    go false (Err x) e = with_number 20 e
    go false (Ok r) e = absurd (let z : ◌≡◌ {A = ℕ} 0 1 = cc in omega arith)

module _ (rows : List EventRow) (page s l : List ℕ) where
  -- by the service alone
  with_refusal : (m : Meter) (n : ℕ) (o : List ℕ) → service_on rows page s l ≡ refused_with m n → o ≡ l → Requested rows page s l n page o 0 0
  unfolding request_number request_page request_buffer request_length request_letter
  with_refusal m n o e same =
      record { answers = rw e; leaves = rw e; responds = same ∙ rw e; measures = rw e; stores = rw e }

  stops : length l < 32 → service_on rows page s l ≡ refused_with (read_of rows page).meter 21
  unfolding service_on
  stops h = rw (lt-ltb (length l) 32 h)

  pub short : length l < 32 → Requested rows page s l 21 page l 0 0
  short h = with_refusal (read_of rows page).meter 21 l (stops h) refl

  module _ (h : 32 ≤ length l) (read : Outcome) (reads : read ≡ read_of rows page) where
    on_read : service_on rows page s l ≡ read_first read.answer read.meter (service_sound rows read.meter s l)
    unfolding service_on
    on_read =
        rw (le-ltb (length l) 32 h)
        (ap (λ (x : Outcome). read_first x.answer x.meter (service_sound rows x.meter s l)) (sym reads))

    pub unread : (n : ℕ) → read.answer ≡ Refused n → Requested rows page s l n page l 0 0
    unread n e = with_refusal read.meter n l (on_read ∙ rw e) refl

    module _ (e : read.answer ≡ Accepted) (r : Served) (o : List ℕ)
        (serves : (r ≡ served_by (service_sound rows read.meter s l)) × (o ≡ filled_by (service_sound rows read.meter s l) l)) where
      abbrev v : Service
      v = service_sound rows read.meter s l

      on : service_on rows page s l ≡ v
      on = on_read ∙ rw e

      answer_of_lem : r.answer ≡ v.answer
      answer_of_lem = ap (λ (x : Served). x.answer) serves.0

      pub not_whole : (n : ℕ) → r.answer ≡ Refused n → Requested rows page s l n page o 0 0
      not_whole n f =
          let z : v ≡ refused_with read.meter n = refused_sound rows read.meter s l n (sym answer_of_lem ∙ f) in
          with_refusal read.meter n o (on ∙ z) (serves.1 ∙ rw z)

      module _ (f : r.answer ≡ Accepted) (b : ℕ) (letter : b ≡ letter_byte r.letter) where
        accepted : v.answer ≡ Accepted
        accepted = sym answer_of_lem ∙ f

        -- what is handed back beside the page
        beside : (n : ℕ) (after : List ℕ) → n ≡ request_number rows page s l → after ≡ request_page rows page s l
            → Requested rows page s l n after o r.length b
        unfolding request_buffer request_length request_letter
        beside n after number leaves =
            record {
              answers = number;
              leaves = leaves;
              responds = rw on serves.1;
              measures = rw on (ap (λ (x : Served). x.length) serves.0);
              stores = rw on (letter ∙ ap (λ (x : Served). letter_byte x.letter) serves.0);
            }

        pub not_carried : r.carried ≡ false → Requested rows page s l 0 page o r.length b
        unfolding request_number request_page
        not_carried c =
            let k : v.carried ≡ false = ap (λ (x : Served). x.carried) (sym serves.0) ∙ c in
            beside 0 page (rw (on, accepted, k)) (rw (on, k))

        pub carried : r.carried ≡ true → (n : ℕ) (a : Answer) (after : List ℕ) → n ≡ answer_number a
            → (a ≡ write_answer rows r.meter page) × (after ≡ written rows r.meter page) → Requested rows page s l n after o r.length b
        unfolding request_number request_page
        carried c n a after number wrote =
            let k : v.carried ≡ true = ap (λ (x : Served). x.carried) (sym serves.0) ∙ c in
            let m : r.meter ≡ v.meter = ap (λ (x : Served). x.meter) serves.0 in
            beside n after
            (rw (on, accepted, k) (number ∙ ap answer_number wrote.0 ∙ ap (λ (m : Meter). answer_number (write_answer rows m page)) m))
            (rw (on, k) (wrote.1 ∙ ap (λ (m : Meter). written rows m page) m))
