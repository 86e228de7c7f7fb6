-- What most proofs lean on, of the kit's libraries and of this crate, under one name.
pub use mathlib.Core.Path.{◌≡◌, refl, sym, ap, ap₂, ◌∙◌, subst}
pub use mathlib.Core.Bool.{Bool, true, false, ◌&&◌, ◌||◌, not, cond, false≢true, and-true, and-false, and_assoc, or-true, or-false}
pub use mathlib.Core.List.{List, [], ◌∷◌, ◌++◌, map, append_assoc, append-nil, map-append}
unfoldable pub use mathlib.Core.List.{flat_map}
pub use Prim.Native.Nat.{ℕ, zero, suc, ◌+◌, ◌-◌, ◌*◌, ◌/◌, ◌%◌, ◌^◌, ◌<◌, ◌≤◌, min}
pub use native.Mathlib.Nat.{zero-add, add-zero, suc-add, add-suc, add_assoc, zero-mul, suc-mul, pow-suc, pow-succ', div-div-eq-div-mul, le_of_suc-le-suc}
pub use native.Mathlib.Numerals.{add-one}
pub use native.Mathlib.Omega.{arith}
pub use lib.Dec.{eqb, leb, ltb}
pub use lib.IntN.{ℤ, pos, negsuc}
pub use lib.ListN.{length, get_or, set, take, drop, replicate, length-append, length-map, length-set, length-take, length-drop, length-replicate}
pub use lib.ListN.{take-append-drop, drop_of_length-le, get_or-append as List·getD-append, get_or-map as List·getD-map}
pub use lib.Seq.{sets, length-sets, sets-eq, drop-cons, drop-drop, drop_at, take_at, take-add, take_all, length-take-le, get_or-drop, get_or-append-add}
pub use lib.Seq.{take-append_seam, drop-append-add, set-get_or, set-set, get_or-set_same, get_or-set_other}
pub use borrow.Author.Rules.{rules}
pub use borrow.Author.Tests.{lt-ltb, le-ltb, le-leb, lt-leb, eq-eqb, ne_eqb, not-true, not-false}
pub use borrow.Author.Tests.{ltb-true, ltb-false, leb-true, leb-false, eqb-true, eqb-false}
unfoldable pub use Rattle.base.specs.Tests.{among, every, any, below, gathered, each_from}
pub use Rattle.base.specs.Tests.{within}
pub use Rattle.base.proofs.Bools.{by_test, and_left, and_right}
