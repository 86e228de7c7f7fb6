-- The row of a descriptor is the first one that is at it.
use mathlib.Core.Path.{◌≡◌, refl}
use mathlib.Core.Bool.{Bool, true, false, cond}
use mathlib.Core.List.{List, [], ◌∷◌}
use Rattle.std.specs.Prelude.{Some}
use Rattle.std.specs.List.{find}
use Rattle.requests.specs.declared.Descriptor.{Descriptor}
use Rattle.server.specs.declared.Item.{Item}
use Rattle.server.specs.Objects.{is_at, item_at}

pub first_at : (rows : List Item) (m : Bool) (d : Descriptor) → find (λ a. is_at a m d) rows ≡ item_at rows m d
unfolding item_at
first_at [] m d = refl
first_at (a ∷ rows) m d = go (is_at a m d) (first_at rows m d)
  where
    go : (b : Bool) → find (λ a. is_at a m d) rows ≡ item_at rows m d → cond b (Some a) (find (λ a. is_at a m d) rows) ≡ cond b (Some a) (item_at rows m d)
    go true e = refl
    go false e = e
