-- The names that proofs about the page, its writer and its reader have in common, by one module.
pub use mathlib.Core.Path.{◌∙◌, ◌≡◌, ap, refl, sym}
pub use mathlib.Core.Bool.{Bool, ◌&&◌, and-true, cond, false, true}
pub use mathlib.Core.Logic.{⊎_elim}
pub use mathlib.Core.List.{List, [], ◌++◌, ◌∷◌, append_assoc, append-nil, map, map-append, reverse}
unfoldable pub use mathlib.Core.List.{flat_map}
pub use Prim.Native.Nat.{◌*◌, ◌+◌, ◌-◌, ◌<◌, ◌^◌, ◌≤◌, suc, zero, ℕ}
pub use native.Mathlib.Nat.{add_assoc, add-zero, suc-add, suc-mul, zero-add}
pub use native.Mathlib.Omega.{arith}
pub use lib.ListN.{drop, drop_of_length-le, get_or, length, length-append, length-drop, length-map, length-replicate, replicate, set, take, take-append-drop}
pub use lib.Seq.{drop_at, drop-cons, drop-drop, get_or_at, sets, sets-eq, take_all, take_at}
pub use lib.Dec.{T, eqb, leb, ltb}
pub use lib.IntN.{nat_abs, negsuc, pos, ℤ}
pub use lib.Signed.{le_z, non_neg}
pub use mir.Syntax.{Width, w16, w32, w8}
pub use mir.Val.{Fits, SFits, bits, of_z, to_z}
pub use mir.ValLaws.{to_z-of_z, to_z_pos}
pub use borrow.Author.Rules.{rules}
pub use borrow.Author.Tests.{eq-eqb, eqb-true, le-leb, leb-true, lt-leb, ltb-true, ne_eqb, not-false, not-true}
unfoldable pub use Rattle.base.specs.Tests.{among, below, every}
pub use Rattle.base.proofs.Bools.{and_left, and_right}
pub use Rattle.base.proofs.Every.{every_first, every_rest}
unfoldable pub use Rattle.codec.specs.BigEndian.{be}
pub use Rattle.codec.specs.Format.{AllHold, Format, decs, encs, times}
unfoldable pub use Rattle.codec.specs.Format.{num_at}
pub use Rattle.codec.specs.Lawful.{Bytes, Lawful}
pub use Rattle.codec.proofs.Numbers.{length_be, num_at_byte, num_at_zeros, pow_pos}
pub use Rattle.codec.proofs.Stores.{decs_append, sets_cat, sets_then}
pub use Rattle.events.specs.Line.{Line, line}
pub use Rattle.events.specs.Table.{EventRow, lawful}
unfoldable pub use Rattle.events.specs.Table.{built_in, lookup}
pub use Rattle.limiter.specs.Limiter.{awaited, is_duration, is_threshold, sound_settings}
unfoldable pub use Rattle.limiter.specs.Limiter.{sound_limiter}
unfoldable pub use Rattle.logs.specs.Arrays.{own_codes, sound_arrays, sound_log, zero_past}
pub use Rattle.logs.specs.Layout.{Sized, arrays, line_clock, line_code}
unfoldable pub use Rattle.logs.specs.Layout.{flat, laid, padded, sound_logs}
pub use Rattle.logs.proofs.Stores.{zeroed_more}
pub use Rattle.calls.specs.declared.Answer.TheVariants.{Accepted, Refused}
pub use Rattle.calls.specs.Calls.{AllInRange, Word}
pub use Rattle.steps.specs.Scalars.{first_limiter}
unfoldable pub use Rattle.steps.specs.Scalars.{sound_scalars}
pub use Rattle.meter.specs.declared.Meter.{Meter}
pub use Rattle.meter.specs.State.{record_of, scalars_of, state_of, with_logs}
unfoldable pub use Rattle.meter.specs.Sound.{sound_meter}
