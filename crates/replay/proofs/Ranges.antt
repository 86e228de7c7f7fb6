-- The numbers of records that are read from bytes are values of their types: of the fresh settings, and of every call that the records name.
use mathlib.Core.Path.{◌≡◌, refl}
use mathlib.Core.Bool.{Bool, true, false, cond}
use mathlib.Core.List.{List, [], ◌∷◌}
use Prim.Native.Nat.{ℕ, ◌-◌, ◌^◌, ◌<◌}
use native.Mathlib.Omega.{arith}
use lib.Dec.{eqb, ltb}
use lib.IntN.{pos, negsuc}
use borrow.Author.Tests.{ltb-true, ltb-false, le-leb}
use Rattle.codec.specs.Format.{AllHold}
use Rattle.calls.specs.declared.Call.{Call}
use Rattle.calls.specs.declared.Command.{Command}
use Rattle.calls.specs.Calls.{Parsed}
use Rattle.calls.specs.declared.CommandError.TheVariants.{NoKind}
use Rattle.std.specs.Prelude.{Ok, Err}
use Rattle.calls.specs.Calls.{signed_of, call_of, Word, Signed, InRange, AllInRange}
use Rattle.meter.specs.Settings.{SettingsInRange}
use Rattle.replay.specs.Input.{record_format}
use Rattle.replay.specs.Replay.{settings_in, with_call, calls_in}

-- a number of four bytes is one of 32 bits, and so is its two's complement
pub word : (n : ℕ) → n < 256 ^ 4 → Word n
word n h = omega arith

pub signed_range : (n : ℕ) → n < 256 ^ 4 → Signed (signed_of n)
signed_range n h = go (ltb n 2147483648) refl
  where
    go : (b : Bool) → ltb n 2147483648 ≡ b → Signed (cond b (pos n) (negsuc (4294967295 - n)))
    go true e = (refl, le-leb n 2147483647 (omega (arith, ltb-true n 2147483648 e)))
    go false e = (le-leb (4294967295 - n) 2147483647 (omega (arith, ltb-false n 2147483648 e)), refl)

-- what is named, if anything, is in range
abbrev pub ParsedInRange : Parsed → Type 0
ParsedInRange (Ok c) = InRange c
ParsedInRange (Err NoKind) = Unit

-- of what a test chooses, if it holds of both
pub this_or : {A : Type 0} (P : A → Type 0) (b : Bool) {x y : A} → P x → P y → P (cond b x y)
this_or P true i r = i
this_or P false i r = r

-- of any command of numbers of 32 bits
pub call_range : (r : Command) → r.n1 < 256 ^ 4 → r.n2 < 256 ^ 4 → r.n3 < 256 ^ 4 → r.n4 < 256 ^ 4 → r.n5 < 256 ^ 4 → ParsedInRange (call_of r)
unfolding call_of
call_range r h1 h2 h3 h4 h5 =
    let k = r.kind in
    let n = word r.n1 h1 in
    let z = signed_range r.n1 h1 in
    let n2 = word r.n2 h2 in
    let n3 = word r.n3 h3 in
    let n4 = word r.n4 h4 in
    this_or ParsedInRange (eqb k 1) z
    (this_or ParsedInRange (eqb k 2) tt
    (this_or ParsedInRange (eqb k 3) tt
    (this_or ParsedInRange (eqb k 4) tt
    (this_or ParsedInRange (eqb k 5) tt
    (this_or ParsedInRange (eqb k 6) n
    (this_or ParsedInRange (eqb k 7) (z, (n2, n3))
    (this_or ParsedInRange (eqb k 8) n
    (this_or ParsedInRange (eqb k 9) n
    (this_or ParsedInRange (eqb k 10) n
    (this_or ParsedInRange (eqb k 11) n
    (this_or ParsedInRange (eqb k 12) n
    (this_or ParsedInRange (eqb k 13) n
    (this_or ParsedInRange (eqb k 14) n
    (this_or ParsedInRange (eqb k 15) n
    (this_or ParsedInRange (eqb k 16) (n, (n2, (n3, (n4, word r.n5 h5))))
    (this_or ParsedInRange (eqb k 17) (n, (signed_range r.n2 h2, (n3, n4)))
    tt))))))))))))))))

module _ (r : Command) (h : record_format.Holds r) where
  pub settings_range : SettingsInRange (settings_in r)
  settings_range = record { threshold = signed_range r.n2 h.0.1.1.0; clock = word r.n5 h.0.1.1.1.1.1 }

  pub parsed_range : ParsedInRange (call_of r)
  parsed_range = let n = h.0.1 in call_range r n.0 n.1.0 n.1.1.0 n.1.1.1.0 n.1.1.1.1

with_call_lem : (p : Parsed) (cs : List Call) → ParsedInRange p → AllInRange cs → AllInRange (with_call p cs)
with_call_lem (Ok c) cs i is = (i, is)
with_call_lem (Err NoKind) cs i is = is

pub calls_range : (rs : List Command) → AllHold record_format rs → AllInRange (calls_in rs)
unfolding calls_in
calls_range [] h = tt
calls_range (r ∷ rs) h = with_call_lem (call_of r) (calls_in rs) (parsed_range r h.0) (calls_range rs h.1)
