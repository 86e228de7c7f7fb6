-- The registers: after each accepted call the machine's bits and filters are the account's, and so is the alarm count. One argument for
-- both registers.
use Prim.Native.Nat.{ℕ, ◌^◌, ◌<◌}
use native.Mathlib.Omega.{arith}
use mathlib.Core.Path.{◌≡◌, refl, sym, ap, ap₂, ◌∙◌}
use mathlib.Core.Bool.{Bool, true, false, not, ◌&&◌, ◌||◌, cond, and_comm, or_comm}
use mathlib.Core.List.{[], ◌∷◌}
use mathlib.Core.Option.{Option, none, some}
use lib.Dec.{eqb}
use lib.Bits.{bit_or, bit_and}
use borrow.Author.Tests.{lt-ltb, eq-eqb, ne_eqb, eqb-true, eqb-false}
use Rattle.base.specs.Bits.{bit, number, bit_count, inverse}
use Rattle.base.specs.Tests.{every}
use Rattle.base.proofs.Bits.{number_ext, number_none, number_at, number_bits, number_count, clear_by, raise_by}
use Rattle.calls.specs.Calls.{Word}
use Rattle.registers.specs.declared.Register.{Register}
use Rattle.registers.specs.declared.Alarms.{Alarms}
use Rattle.registers.specs.Register.{raised, cleared, with_filter}
use Rattle.events.specs.Table.{EventRow, lookup, mask, lawful}
use Rattle.events.proofs.Rule.{row_alarm, row_error}
use Rattle.history.specs.Effects.{AnyFresh, WhichRegister, alarms, errors, Effect, sampled, requested, mode_set, limits_set, clock_set, occurred, filter_set}
use Rattle.history.specs.Effects.{bits_cleared, log_cleared, groups_set, profile_set}
use Rattle.history.specs.Last.{History, last, mode_of, filter_of}
use Rattle.history.specs.Registers.{bit_in, is_bit, stands, alarm_count_of}
use Rattle.machine.specs.Values.{Values, with_control, with_limiters}
use Rattle.machine.proofs.Effects.{effect_result, Proper, AllProper, register_of, held_alarms}
use Rattle.machine.proofs.OtherParts.{other_parts, values_after}
use Rattle.machine.proofs.Ranges.{filter_word}

-- a register of the values
abbrev pub side_of : WhichRegister → Values → Register
side_of alarms s = s.alarms.register
side_of errors s = s.errors

eqb_comm : (a b : ℕ) → eqb a b ≡ eqb b a
eqb_comm a b = go (eqb a b) refl
  where
    go : (x : Bool) → eqb a b ≡ x → eqb a b ≡ eqb b a
    go true e = e ∙ sym (eq-eqb b a (sym (eqb-true a b e)))
    go false e = e ∙ sym (ne_eqb b a (λ q. eqb-false a b e (sym q)))

-- a mask's bits cleared, and raised unless a filter hides them, as the account says it of each bit
clear_number : (p q : ℕ → Bool) → bit_and (number 32 p) (inverse (number 32 q)) ≡ number 32 (λ b. not (q b) && p b)
clear_number p q = clear_by p q ∙ number_ext 32 (λ b. and_comm (p b) (not (q b)))

raise_number : (p q : ℕ → Bool) (n : ℕ) → Word n
    → bit_or (number 32 p) (bit_and (number 32 q) (inverse n)) ≡ number 32 (λ b. q b && not (bit n b) || p b)
raise_number p q n w =
    ap (λ (m : ℕ). bit_or (number 32 p) (bit_and (number 32 q) (inverse m))) (sym (number_bits 32 n (omega arith)))
    ∙ raise_by p q (bit n)
    ∙ number_ext 32 (λ b. or_comm (p b) (q b && not (bit n b)))

-- an event's bit lies within the register
bit_fits : (x : WhichRegister) (r : EventRow) → lawful r ≡ true → (k : ℕ) → bit_in x r ≡ some k → k < 32
unfolding every lookup
bit_fits x r l = go x
  where
    listed : lookup (r ∷ []) r.code ≡ some r
    listed = rw (eq-eqb r.code r.code refl)

    all : every lawful (r ∷ []) ≡ true
    all = rw l

    go : (x : WhichRegister) (k : ℕ) → bit_in x r ≡ some k → k < 32
    go alarms = row_alarm (r ∷ []) all r.code r listed
    go errors = row_error (r ∷ []) all r.code r listed

-- its mask is the number of that one bit
mask_number : (o : Option ℕ) → ((k : ℕ) → o ≡ some k → k < 32) → mask o ≡ number 32 (is_bit o)
mask_number none l = sym (number_none 32)
mask_number (some k) l =
    sym (number_ext 32 (λ b. eqb_comm k b) ∙ number_at 32 k ∙ ap (λ (x : Bool). cond x (2 ^ k) 0) (lt-ltb k 32 (l k refl)))

-- values with the same registers
same_side : (x : WhichRegister) (s t : Values) → s.alarms ≡ t.alarms → s.errors ≡ t.errors → side_of x s ≡ side_of x t
same_side alarms s t a b = ap (λ (a : Alarms). a.register) a
same_side errors s t a b = b

module _ (x : WhichRegister) (h : History) (r : Register) (same : r ≡ register_of x h) where
  clear_side : (m : ℕ) (q : ℕ → Bool) → m ≡ number 32 q
      → cleared r m ≡ record { bits = number 32 (λ b. not (q b) && stands x b h); filter = filter_of x h }
  clear_side m q e = ap₂ cleared same e ∙ (λ i. record { bits = clear_number (λ b. stands x b h) q i; filter = filter_of x h })

  raise_side : (w : EventRow) → lawful w ≡ true → Word (filter_of x h) → raised r (mask (bit_in x w)) ≡ register_of x (occurred w ∷ h)
  unfolding last stands
  raise_side w l g =
      ap₂ raised same (mask_number (bit_in x w) (bit_fits x w l))
      ∙ (λ i. record { bits = raise_number (λ b. stands x b h) (is_bit (bit_in x w)) (filter_of x h) g i; filter = filter_of x h })

module _ (f : AnyFresh) (h : History) (s : Values) (all : AllProper f h) where
  register_part : (x : WhichRegister) (e : Effect) → Proper (mode_of f h) e → side_of x s ≡ register_of x h
      → side_of x (other_parts s e) ≡ register_of x (e ∷ h)
  unfolding last stands
  register_part x (sampled p) g same = same_side x (other_parts s (sampled p)) s refl refl ∙ same
  register_part x (requested q) g same = same
  register_part x (mode_set n) g same = same
  register_part x (limits_set t o u) g same = same
  register_part alarms (clock_set n) g same = same
  register_part errors (clock_set n) g same = clear_side errors h s.errors same 1 (λ b. eqb b 0) (sym (number_at 32 0))
  register_part alarms (occurred r) g same = raise_side alarms h s.alarms.register same r g (filter_word alarms f h all)
  register_part errors (occurred r) g same = raise_side errors h s.errors same r g (filter_word errors f h all)
  register_part alarms (filter_set alarms n) g same = ap (λ (r : Register). with_filter r n) same
  register_part errors (filter_set alarms n) g same = same
  register_part alarms (filter_set errors n) g same = same
  register_part errors (filter_set errors n) g same = ap (λ (r : Register). with_filter r n) same
  register_part alarms (bits_cleared alarms n) g same = clear_side alarms h s.alarms.register same n (bit n) (sym (number_bits 32 n (omega arith)))
  register_part errors (bits_cleared alarms n) g same = same
  register_part alarms (bits_cleared errors n) g same = same
  register_part errors (bits_cleared errors n) g same = clear_side errors h s.errors same n (bit n) (sym (number_bits 32 n (omega arith)))
  register_part x (log_cleared n) g same = same
  register_part x (groups_set ids) g same = same_side x (other_parts s (groups_set ids)) s refl refl ∙ same
  register_part x (profile_set w) g same = same_side x (other_parts s (profile_set w)) s refl refl ∙ same

  pub register_after : (x : WhichRegister) (e : Effect) → Proper (mode_of f h) e → side_of x s ≡ register_of x h
      → side_of x (effect_result s e).values ≡ register_of x (e ∷ h)
  register_after x e g same =
      ap (side_of x) (values_after s e)
      ∙ same_side x (with_control (with_limiters (other_parts s e) (effect_result s e).values.limiters) (effect_result s e).values.control)
      (other_parts s e) refl refl
      ∙ register_part x e g same

  -- ---- how many alarms stand
  count_part : (e : Effect) → Proper (mode_of f h) e → s.alarms ≡ held_alarms h → (other_parts s e).alarms.count ≡ alarm_count_of (e ∷ h)
  unfolding stands
  count_part e g same = go e g
    where
      kept : s.alarms.count ≡ alarm_count_of h
      kept = ap (λ (a : Alarms). a.count) same

      -- where the bits change they are counted
      counted : (e : Effect) → (other_parts s e).alarms.count ≡ bit_count (other_parts s e).alarms.register.bits → Proper (mode_of f h) e
          → (other_parts s e).alarms.count ≡ alarm_count_of (e ∷ h)
      counted e q g =
          q
          ∙ ap (λ (r : Register). bit_count r.bits) (register_part alarms e g (ap (λ (a : Alarms). a.register) same))
          ∙ number_count (λ b. stands alarms b (e ∷ h))

      go : (e : Effect) → Proper (mode_of f h) e → (other_parts s e).alarms.count ≡ alarm_count_of (e ∷ h)
      go (sampled p) g = kept
      go (requested q) g = kept
      go (mode_set n) g = kept
      go (limits_set t o u) g = kept
      go (clock_set n) g = kept
      go (occurred r) g = counted (occurred r) refl g
      go (filter_set alarms n) g = kept
      go (filter_set errors n) g = kept
      go (bits_cleared alarms n) g = counted (bits_cleared alarms n) refl g
      go (bits_cleared errors n) g = kept
      go (log_cleared n) g = kept
      go (groups_set ids) g = kept
      go (profile_set w) g = kept

  pub count_after_lem : (e : Effect) → Proper (mode_of f h) e → s.alarms ≡ held_alarms h → (effect_result s e).values.alarms.count ≡ alarm_count_of (e ∷ h)
  count_after_lem e g same = ap (λ (v : Values). v.alarms.count) (values_after s e) ∙ count_part e g same
