-- What is asked of the numbers of fresh and of calls: that they are values of their types, and of fresh that it accepts them.
use Rattle.std.specs.Prelude.{◌≡◌, ℕ, Bool, true, List, [], ◌∷◌, leb, ltb, pos}
use Rattle.std.specs.Int.Signed.{le_z}
use Rattle.base.specs.Tests.{every}
use Rattle.limiter.specs.Limiter.{is_threshold, is_duration}
use Rattle.calls.specs.Calls.{Word}
use Rattle.history.specs.Effects.{AnyFresh, AnyCall, sample, request, set_mode, set_limiter, set_clock, event, set_filter, clear_bits, clear_log, script}
use Rattle.history.specs.Effects.{set_groups, set_profile}

-- settings that fresh accepts
pub record AnySettings (f : AnyFresh) : Type 0 where
  pub mode : leb f.mode 6 ≡ true
  pub thresholds : every is_threshold f.thresholds ≡ true
  pub over : is_duration f.over ≡ true
  pub under : is_duration f.under ≡ true
  pub clock : Word f.clock

-- document 02, A3: '.. group ids (16 bits) ..'
abbrev pub is_id : ℕ → Bool
is_id n = ltb n 65536

-- the numbers of a call that are stored as they are
abbrev pub AnyInRange : AnyCall → Type 0
AnyInRange (sample ps) = Unit
AnyInRange (request q) = Unit
AnyInRange (set_mode n) = Unit
AnyInRange (set_limiter ts o u) = every (λ t. le_z t (pos 2147483647)) ts ≡ true
AnyInRange (set_clock n) = Word n
AnyInRange (event c) = Unit
AnyInRange (set_filter s n) = Word n
AnyInRange (clear_bits s n) = Word n
AnyInRange (clear_log n) = Unit
AnyInRange (script n) = Unit
AnyInRange (set_groups n ids) = every is_id ids ≡ true
AnyInRange (set_profile w) = (le_z w.threshold (pos 2147483647) ≡ true) × Word w.activation

-- of each call of a list
abbrev pub AllAnyInRange : List AnyCall → Type 0
AllAnyInRange [] = Unit
AllAnyInRange (c ∷ cs) = AnyInRange c × AllAnyInRange cs
