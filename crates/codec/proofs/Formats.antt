-- Each format is lawful, and formats put together from lawful ones are.
use Rattle.base.proofs.Prelude.{◌≡◌, refl, sym, ap, ◌∙◌, subst, Bool, true, false, ◌&&◌, cond, List, [], ◌∷◌, ◌++◌, append_assoc, flat_map, ℕ, zero, suc, ◌+◌}
use Rattle.base.proofs.Prelude.{◌*◌, ◌<◌, ◌≤◌, zero-mul, suc-mul, arith, eqb, leb, pos, length, take, drop, length-append, drop-drop, take-add, leb-true}
use Rattle.base.proofs.Prelude.{and_left, and_right}
use mathlib.Core.Path.{subst⁻¹}
use native.Mathlib.Nat.{add_comm, mod-eq_of_lt}
use lib.IntN.{nat_abs}
use lib.Signed.{pos-nat_abs}
use mir.Val.{bool_byte}
use Rattle.codec.specs.Format.{num_at, Format, num, flag, natural, ◌⊗◌, encs, decs, all_valid, AllHold, times, via_on, via}
use Rattle.codec.specs.Lawful.{Bytes, Lawful}
use Rattle.codec.proofs.Numbers.{length_be, num_at_be, be_num_at, num_at_lt}

pub num_lawful : (w : ℕ) → Lawful (num w)
num_lawful w = record {
  length_enc = λ v h. length_be w v;
  read_written = λ v h p r. num_at_be w v p r ∙ mod-eq_of_lt h;
  valid_written = λ v h p r. refl;
  write_read = λ s at b f h. be_num_at w s at b h;
  held_read = λ s at b f. num_at_lt w s at b;
}

pub natural_lawful : (w : ℕ) → Lawful (natural w)
natural_lawful w = record {
  length_enc = λ z h. length_be w (nat_abs z);
  read_written = λ z h p r. ap pos ((num_lawful w).read_written (nat_abs z) h.1 p r) ∙ pos-nat_abs z h.0;
  valid_written = λ z h p r. refl;
  write_read = λ s at b f h. be_num_at w s at b h;
  held_read = λ s at b f. (tt, num_at_lt w s at b);
}

byte_of_flag : (n : ℕ) → leb n 1 ≡ true → cond (eqb n 1) 1 0 ≡ n
byte_of_flag zero e = refl
byte_of_flag (suc zero) e = refl
byte_of_flag (suc (suc n)) e = absurd (omega (arith, leb-true (suc (suc n)) 1 e))

-- the byte of a flag is read as the flag, is valid, and is a byte
flag_byte : (b : Bool) → (eqb (cond b 1 0) 1 ≡ b) × (leb (cond b 1 0) 1 ≡ true) × (cond b 1 0 < 256)
flag_byte true = (refl, refl, omega arith)
flag_byte false = (refl, refl, omega arith)

-- what the code makes of a truth value by `as u8`
pub byte_of_bool : (b : Bool) → bool_byte b ≡ cond b 1 0
byte_of_bool true = refl
byte_of_bool false = refl

pub flag_lawful : Lawful flag
flag_lawful = record {
  length_enc = λ b h. length_be 1 (cond b 1 0);
  read_written = λ b h p r. rw ((num_lawful 1).read_written (cond b 1 0) (flag_byte b).2 p r) (flag_byte b).0;
  valid_written = λ b h p r. rw ((num_lawful 1).read_written (cond b 1 0) (flag_byte b).2 p r) (flag_byte b).1;
  write_read = λ s at y f h. rw (byte_of_flag (num_at 1 s at) f) (be_num_at 1 s at y h);
  held_read = λ s at y f. tt;
}

-- x and then y were written behind p: a read at x sees y as what follows, and a read behind x sees x as what went before
both_read : {A B C : Type 0} (f : List ℕ → ℕ → A) (g : List ℕ → ℕ → B) (h : A → B → C) (p x y r : List ℕ) {w : ℕ}
    → length x ≡ w → {a : A} {b : B}
    → f (p ++ (x ++ (y ++ r))) (length p) ≡ a → g ((p ++ x) ++ (y ++ r)) (length (p ++ x)) ≡ b
    → h (f (p ++ ((x ++ y) ++ r)) (length p)) (g (p ++ ((x ++ y) ++ r)) (length p + w)) ≡ h a b
both_read f g h p x y r e one two =
    rw (append_assoc x y r, one, ← append_assoc p x (y ++ r), ← e, ← length-append p x, two)

pub pair_lawful : {A B : Type 0} {F : Format A} {G : Format B} → Lawful F → Lawful G → Lawful (F ⊗ G)
pair_lawful {F = F} {G = G} LF LG = record {
  length_enc = λ v h. length-append (F.enc v.0) (G.enc v.1) ∙ rw (LF.length_enc v.0 h.0, LG.length_enc v.1 h.1);
  read_written = λ v h p r.
      both_read F.dec G.dec (λ a b. (a, b)) p (F.enc v.0) (G.enc v.1) r (LF.length_enc v.0 h.0)
      (LF.read_written v.0 h.0 p _) (LG.read_written v.1 h.1 (p ++ F.enc v.0) r);
  valid_written = λ v h p r.
      both_read F.valid G.valid (λ a b. a && b) p (F.enc v.0) (G.enc v.1) r (LF.length_enc v.0 h.0)
      (LF.valid_written v.0 h.0 p _) (LG.valid_written v.1 h.1 (p ++ F.enc v.0) r);
  write_read = λ s at b f h.
      rw (
        LF.write_read s at b (and_left _ _ f) (omega arith),
        LG.write_read s (at + F.width) b (and_right (F.valid s at) _ f) (omega arith),
        ← drop-drop F.width at s,
      )
      (sym (take-add F.width G.width (drop at s)));
  held_read = λ s at b f. (LF.held_read s at b (and_left _ _ f), LG.held_read s (at + F.width) b (and_right (F.valid s at) _ f));
}

module _ {A : Type 0} {F : Format A} (LF : Lawful F) where
  pub length_encs : (l : List A) → AllHold F l → length (encs F l) ≡ length l * F.width
  unfolding flat_map
  length_encs [] h = sym (zero-mul F.width)
  length_encs (a ∷ l) h =
      length-append (F.enc a) (encs F l)
      ∙ rw (LF.length_enc a h.0, length_encs l h.1, suc-mul) (omega arith)

  decs_encs : (l : List A) → AllHold F l → (p r : List ℕ) → decs F (length l) (p ++ (encs F l ++ r)) (length p) ≡ l
  unfolding flat_map
  decs_encs [] h p r = refl
  decs_encs (a ∷ l) h p r =
      both_read F.dec (decs F (length l)) (λ x xs. x ∷ xs) p (F.enc a) (encs F l) r (LF.length_enc a h.0)
      (LF.read_written a h.0 p _) (decs_encs l h.1 (p ++ F.enc a) r)

  encs_valid : (l : List A) → AllHold F l → (p r : List ℕ) → all_valid F (length l) (p ++ (encs F l ++ r)) (length p) ≡ true
  unfolding flat_map
  encs_valid [] h p r = refl
  encs_valid (a ∷ l) h p r =
      both_read F.valid (all_valid F (length l)) (λ x y. x && y) p (F.enc a) (encs F l) r (LF.length_enc a h.0)
      (LF.valid_written a h.0 p _) (encs_valid l h.1 (p ++ F.enc a) r)

  encs_decs : (n : ℕ) (s : List ℕ) (at : ℕ) → Bytes s → all_valid F n s at ≡ true → at + n * F.width ≤ length s
      → encs F (decs F n s at) ≡ take (n * F.width) (drop at s)
  unfolding flat_map
  encs_decs zero s at b f h = rw zero-mul
  encs_decs (suc n) s at b f h =
      let room : at + (F.width + n * F.width) ≤ length s = omega (arith, suc-mul n F.width, h) in
      rw (
        LF.write_read s at b (and_left _ _ f) (omega arith),
        encs_decs n s (at + F.width) b (and_right (F.valid s at) _ f) (omega arith),
        ← drop-drop F.width at s,
        suc-mul,
        add_comm (n * F.width) F.width,
      )
      (sym (take-add F.width (n * F.width) (drop at s)))

  decs_held : (n : ℕ) (s : List ℕ) (at : ℕ) → Bytes s → all_valid F n s at ≡ true → (times n F).Holds (decs F n s at)
  decs_held zero s at b f = (refl, tt)
  decs_held (suc n) s at b f =
      let rest = decs_held n s (at + F.width) b (and_right (F.valid s at) _ f) in
      (ap suc rest.0, (LF.held_read s at b (and_left _ _ f), rest.1))

  pub times_lawful : (n : ℕ) → Lawful (times n F)
  times_lawful n = record {
    length_enc = λ l h. length_encs l h.1 ∙ ap (λ (k : ℕ). k * F.width) h.0;
    read_written = λ l h p r. subst (λ (k : ℕ). decs F k (p ++ (encs F l ++ r)) (length p) ≡ l) h.0 (decs_encs l h.1 p r);
    valid_written = λ l h p r. subst (λ (k : ℕ). all_valid F k (p ++ (encs F l ++ r)) (length p) ≡ true) h.0 (encs_valid l h.1 p r);
    write_read = encs_decs n;
    held_read = decs_held n;
  }

module _ {A B : Type 0} {F : Format A} (to : B → A) (from : A → B) where
  -- `from` undoes `to` where P holds; `to` undoes `from`, and P holds of what `from` makes, on what the bytes can hold
  pub via_on_lawful : (P : B → Type 0) → ((b : B) → P b → from (to b) ≡ b) → ((a : A) → F.Holds a → to (from a) ≡ a)
      → ((a : A) → F.Holds a → P (from a)) → Lawful F → Lawful (via_on F to from P)
  via_on_lawful P back forth made LF = record {
    length_enc = λ b h. LF.length_enc (to b) h.0;
    read_written = λ b h p r. ap from (LF.read_written (to b) h.0 p r) ∙ back b h.1;
    valid_written = λ b h p r. LF.valid_written (to b) h.0 p r;
    write_read = λ s at y f h. ap F.enc (forth (F.dec s at) (LF.held_read s at y f)) ∙ LF.write_read s at y f h;
    held_read = λ s at y f.
        let held = LF.held_read s at y f in
        (subst⁻¹ F.Holds (forth (F.dec s at) held) held, made (F.dec s at) held);
  }

  pub via_lawful : ((b : B) → from (to b) ≡ b) → ((a : A) → to (from a) ≡ a) → Lawful F → Lawful (via F to from)
  via_lawful back forth LF = via_on_lawful (λ b. Unit) (λ b h. back b) (λ a h. forth a) (λ a h. tt) LF
