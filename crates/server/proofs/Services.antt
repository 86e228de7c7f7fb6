-- What bytes come to, by what their tests say.
use mathlib.Core.Path.{◌≡◌, refl, ap, ◌∙◌, sym}
use mathlib.Core.Bool.{true, false}
use mathlib.Core.List.{List, ◌++◌}
use Prim.Native.Nat.{ℕ, ◌+◌, ◌<◌, ◌≤◌}
use native.Mathlib.Nat.{zero-add}
use native.Mathlib.Omega.{arith}
use lib.ListN.{length, drop}
use lib.Seq.{sets, sets-eq}
use borrow.Author.Tests.{lt-ltb, le-ltb}
use Rattle.std.specs.Prelude.{Ok, Err}
use Rattle.events.specs.Table.{EventRow}
use Rattle.requests.specs.declared.NotWhole.{NotWhole}
use Rattle.requests.specs.declared.Request.{Request}
use Rattle.requests.specs.Requests.{Parsed, request_in}
use Rattle.responses.specs.declared.Response.{Response}
use Rattle.responses.specs.Responses.{response_bytes}
use Rattle.responses.proofs.Lengths.{size, size_small}
use Rattle.meter.specs.declared.Meter.{Meter}
use Rattle.meter.specs.Sound.{sound_meter}
use Rattle.server.specs.declared.Responded.{Responded}
use Rattle.server.specs.declared.Served.{Served}
use Rattle.server.specs.Access.{responded_on}
use Rattle.server.specs.Service.{Service, refused_with, answering, service_sound, service, served_by, filled_by}

-- bytes put at the front
put_front : (xs l o : List ℕ) → length xs ≤ length l → o ≡ sets l 0 xs → o ≡ xs ++ drop (length xs) l
put_front xs l o h e =
    let k : 0 + length xs ≤ length l = omega arith in
    e ∙ sets-eq xs l 0 k ∙ ap (λ (n : ℕ). xs ++ drop n l) (zero-add (length xs))

pub response_fits : (r : Response) (l : List ℕ) → 32 ≤ length l → length (response_bytes r) ≤ length l
response_fits r l h = omega (arith, size r, size_small r)

-- a refusal, as the code hands it back
pub not_served : (m : Meter) (n : ℕ) (v : Service) (l : List ℕ) (r : Served) → v ≡ refused_with m n → r ≡ served_by (refused_with m n)
    → (r ≡ served_by v) × (l ≡ filled_by v l)
not_served m n v l r e hands = rw e (hands, refl)

-- what is served alike is handed back alike
pub served_alike : (l : List ℕ) (r : Served) (o : List ℕ) (v w : Service) → v ≡ w → (r ≡ served_by v) × (o ≡ filled_by v l)
    → (r ≡ served_by w) × (o ≡ filled_by w l)
served_alike l r o v w e h = rw (← e) h

module _ (rows : List EventRow) (m : Meter) (s l : List ℕ) where
  pub short_sound : length l < 32 → service_sound rows m s l ≡ refused_with m 21
  unfolding service_sound
  short_sound h = rw (lt-ltb (length l) 32 h)

  pub short : length l < 32 → service rows m s l ≡ refused_with m 21
  unfolding service
  short h = rw (lt-ltb (length l) 32 h)

  module _ (h : 32 ≤ length l) where
    pub not_whole : (x : NotWhole) → request_in s ≡ Err x → service_sound rows m s l ≡ refused_with m 20
    unfolding service_sound
    not_whole x e = rw (le-ltb (length l) 32 h, e)

    whole : (r : Request) → request_in s ≡ Ok r → service_sound rows m s l ≡ answering (responded_on rows m r)
    unfolding service_sound
    whole r e = rw (le-ltb (length l) 32 h, e)

    pub answered : (p : Parsed) (r : Request) → p ≡ request_in s → p ≡ Ok r → (a : Responded) → a ≡ responded_on rows m r
        → (n : ℕ) (o : List ℕ) → n ≡ length (response_bytes a.response) → o ≡ sets l 0 (response_bytes a.response)
        → (record { meter = a.meter; answer = (answering a).answer; length = n; letter = a.letter; carried = a.carried } ≡ served_by (service_sound rows m s l))
        × (o ≡ filled_by (service_sound rows m s l) l)
    answered p r e f a g n o k w =
        let z : service_sound rows m s l ≡ answering a = whole r (sym e ∙ f) ∙ ap answering (sym g) in
        rw z (rw k, put_front (response_bytes a.response) l o (response_fits a.response l h) w)

    pub unsound : sound_meter rows m ≡ false → service rows m s l ≡ refused_with m 12
    unfolding service
    unsound q = rw (le-ltb (length l) 32 h, q)

    pub of_sound : sound_meter rows m ≡ true → service_sound rows m s l ≡ service rows m s l
    unfolding service_sound service
    of_sound q = rw (le-ltb (length l) 32 h, q)
