-- Each row by its descriptor, and that there is no other.
use mathlib.Core.Path.{◌≡◌, refl, sym}
use mathlib.Core.Bool.{Bool, true, false, ◌&&◌, ◌||◌, false≢true}
use mathlib.Core.List.{List, [], ◌∷◌}
use lib.Dec.{eqb}
use Rattle.std.specs.Prelude.{None}
use Rattle.base.proofs.Bools.{neither}
use Rattle.codec.specs.{BigEndian.be, Format.num_at}
use Rattle.events.specs.Table.{EventRow}
use Rattle.requests.specs.declared.Descriptor.{Descriptor}
use Rattle.requests.specs.Requests.{data_in, descriptor_in, request_in}
use Rattle.responses.specs.Responses.{response_bytes}
use Rattle.meter.specs.declared.Meter.{Meter}
use Rattle.server.specs.Objects.{logical_name, items, item_at}
use Rattle.server.specs.Access.{get_on, access_on, responded_on}
use Rattle.server.specs.Service.{service_sound}
use Rattle.server.specs.Items.{listed, ItemsOf, Items}

pub of_record : (rows : List EventRow) (m : Meter) → ItemsOf rows m
unfolding responded_on access_on get_on item_at items service_sound request_in data_in descriptor_in num_at response_bytes be
of_record rows m =
    record {
      get_output_state = λ i. refl;
      get_control_state = λ i. refl;
      get_control_mode = λ i. refl;
      get_threshold = λ i. refl;
      get_over = λ i. refl;
      get_under = λ i. refl;
      get_errors = λ i. refl;
      get_alarms = λ i. refl;
      get_alarm_filter = λ i. refl;
      set_output_state = λ v. refl;
      set_control_state = λ v. refl;
      set_control_mode = λ v. refl;
      set_threshold = λ v. refl;
      set_over = λ v. refl;
      set_under = λ v. refl;
      set_errors = λ v. refl;
      set_alarms = λ v. refl;
      set_alarm_filter = λ v. refl;
      disconnect = λ v. refl;
      reconnect = λ v. refl;
      disconnect_alone = refl;
      reconnect_alone = refl;
      output_state_bytes = λ e. rw e;
      threshold_bytes = λ e. rw e;
    }

-- ---- no row for any other descriptor

two : (a b x y : Bool) → a && (b && (x || y)) ≡ false → (a && (b && x) ≡ false) × (a && (b && y) ≡ false)
two false b x y e = (refl, refl)
two true false x y e = (refl, refl)
two true true true y e = absurd (false≢true (sym e))
two true true false y e = (refl, e)

three : (a b x y z : Bool) → a && (b && (x || (y || z))) ≡ false → (a && (b && x) ≡ false) × ((a && (b && y) ≡ false) × (a && (b && z) ≡ false))
three a b x y z e = let (h, t) = two a b x (y || z) e in (h, two a b y z t)

two_names : (a x y b : Bool) → a && ((x || y) && b) ≡ false → (a && (x && b) ≡ false) × (a && (y && b) ≡ false)
two_names false x y b e = (refl, refl)
two_names true true true b e = (e, e)
two_names true true false b e = (e, refl)
two_names true false y b e = (refl, e)

three_names : (a x y z b : Bool) → a && ((x || (y || z)) && b) ≡ false → (a && (x && b) ≡ false) × ((a && (y && b) ≡ false) × (a && (z && b) ≡ false))
three_names a x y z b e = let (h, t) = two_names a x (y || z) b e in (h, two_names a y z b t)

no_others : (method : Bool) (d : Descriptor) → listed method d ≡ false → item_at items method d ≡ None
unfolding item_at items
no_others true d e =
    let (h1, h2) = two (eqb 70 d.class) (eqb (logical_name 0 0 96 3 10 255) d.name) (eqb 1 d.id) (eqb 2 d.id) e in
    rw (h1, h2)
no_others false d e =
    let (c70, others) = neither _ _ e in
    let (c71, c1) = neither _ _ others in
    let (h2, (h3, h4)) = three (eqb 70 d.class) (eqb (logical_name 0 0 96 3 10 255) d.name) (eqb 2 d.id) (eqb 3 d.id) (eqb 4 d.id) c70 in
    let (k4, (k6, k7)) = three (eqb 71 d.class) (eqb (logical_name 0 0 17 0 0 255) d.name) (eqb 4 d.id) (eqb 6 d.id) (eqb 7 d.id) c71 in
    let (e1, (e2, e3)) = three_names (eqb 1 d.class) (eqb (logical_name 0 0 97 97 0 255) d.name) (eqb (logical_name 0 0 97 98 0 255) d.name)
    (eqb (logical_name 0 0 97 98 10 255) d.name) (eqb 2 d.id) c1 in
    rw (h2, h3, h4, k4, k6, k7, e1, e2, e3)

names_numbered :
    logical_name 0 0 96 3 10 255 ∷ logical_name 0 0 17 0 0 255 ∷ logical_name 0 0 97 97 0 255 ∷ logical_name 0 0 97 98 0 255 ∷ logical_name 0 0 97 98 10 255 ∷ []
    ≡ 1610812159 ∷ 285212927 ∷ 1633747199 ∷ 1633812735 ∷ 1633815295 ∷ []
names_numbered = refl

pub items_laws : Items
items_laws = record { by_descriptor = of_record; no_others = no_others; names_numbered = names_numbered }
