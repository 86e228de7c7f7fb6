-- The settings that fresh takes: 'Fresh and call 7 take four thresholds, 4 if one is negative' (document 02, A13), and which it refuses.
use Rattle.std.specs.Prelude.{◌≡◌, true, ◌&&◌, cond, ℕ, leb, ℤ, pos}
use Rattle.std.specs.Int.Signed.{le_z}
use Rattle.base.specs.Tests.{within}
use Rattle.calls.specs.declared.Answer.{Answer}
use Rattle.calls.specs.declared.Answer.TheVariants.{Refused}
use Rattle.calls.specs.Calls.{Word, Signed}
use Rattle.machine.specs.Settings.{limits_answer}
use Rattle.phases.specs.ThreePhase.{ThreePhaseFresh, in_order}

-- mode, four thresholds, Over, Under, clock
abbrev pub three_phase_settings_of : ℕ → ℤ → ℤ → ℤ → ℤ → ℕ → ℕ → ℕ → ThreePhaseFresh
three_phase_settings_of m a b c d o u k = record { mode = m; l1 = a; l2 = b; l3 = c; sum = d; over = o; under = u; clock = k }

-- what fresh answers, by the order of 'Where a call stops': '1 | mode above 6', '4 | threshold negative', '5 | Over or Under out of range'
unfoldable pub three_phase_fresh_answer : ThreePhaseFresh → Answer
unfolding limits_answer
three_phase_fresh_answer f =
    cond (leb f.mode 6) (limits_answer (in_order f.l1 f.l2 f.l3 f.sum) f.over f.under) (Refused 1)

-- settings that fresh accepts; the clock is a number of 32 bits
pub record ThreePhaseSettings (f : ThreePhaseFresh) : Type 0 where
  pub mode : leb f.mode 6 ≡ true
  pub l1 : le_z (pos 0) f.l1 && le_z f.l1 (pos 2147483647) ≡ true
  pub l2 : le_z (pos 0) f.l2 && le_z f.l2 (pos 2147483647) ≡ true
  pub l3 : le_z (pos 0) f.l3 && le_z f.l3 (pos 2147483647) ≡ true
  pub sum : le_z (pos 0) f.sum && le_z f.sum (pos 2147483647) ≡ true
  pub over : within 1 86400 f.over ≡ true
  pub under : within 1 86400 f.under ≡ true
  pub clock : Word f.clock

-- the numbers that fresh judges or takes as they are, as values of their types
pub record ThreePhaseSettingsInRange (f : ThreePhaseFresh) : Type 0 where
  pub l1 : Signed f.l1
  pub l2 : Signed f.l2
  pub l3 : Signed f.l3
  pub sum : Signed f.sum
  pub clock : Word f.clock
