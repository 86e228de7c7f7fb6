-- The settings that fresh takes: 'Fresh takes mode, threshold, Over, Under, clock', and which it refuses.
use Rattle.std.specs.Prelude.{◌≡◌, true, ◌&&◌, cond, [], ◌∷◌, ℕ, leb, ℤ, pos}
use Rattle.std.specs.Int.Signed.{le_z}
use Rattle.base.specs.Tests.{within}
use Rattle.calls.specs.declared.Answer.{Answer}
use Rattle.calls.specs.declared.Answer.TheVariants.{Refused}
use Rattle.calls.specs.Calls.{Word, Signed}
use Rattle.history.specs.OnePhase.{Fresh}
use Rattle.machine.specs.Settings.{limits_answer}

-- 'Fresh takes mode, threshold, Over, Under, clock'
abbrev pub settings_of : ℕ → ℤ → ℕ → ℕ → ℕ → Fresh
settings_of m t o u k = record { mode = m; threshold = t; over = o; under = u; clock = k }

-- what fresh answers, by the order of 'Where a call stops': '1 | mode above 6', '4 | threshold negative', '5 | Over or Under out of range'
unfoldable pub fresh_answer : Fresh → Answer
unfolding limits_answer
fresh_answer f = cond (leb f.mode 6) (limits_answer (f.threshold ∷ []) f.over f.under) (Refused 1)

-- settings that fresh accepts: 'fresh, call 6 | 1 | mode above 6', 'fresh, call 7 | 4 | threshold negative', '5 | Over or Under out of range'; the clock is a
-- number of 32 bits
pub record Settings (f : Fresh) : Type 0 where
  pub mode : leb f.mode 6 ≡ true
  pub threshold : le_z (pos 0) f.threshold && le_z f.threshold (pos 2147483647) ≡ true
  pub over : within 1 86400 f.over ≡ true
  pub under : within 1 86400 f.under ≡ true
  pub clock : Word f.clock

-- the numbers that fresh judges or takes as they are, as values of their types
pub record SettingsInRange (f : Fresh) : Type 0 where
  pub threshold : Signed f.threshold
  pub clock : Word f.clock
