-- The clock: after each accepted call the machine's clock is the account's.
use native.Mathlib.Omega.{arith}
use mathlib.Core.Path.{◌≡◌, ap, ◌∙◌}
use mathlib.Core.List.{◌∷◌}
use Rattle.history.specs.Effects.{AnyFresh, alarms, errors, Effect, sampled, requested, mode_set, limits_set, clock_set, occurred, filter_set, bits_cleared}
use Rattle.history.specs.Effects.{log_cleared, groups_set, profile_set}
use Rattle.history.specs.Last.{History, last, samples_since, mode_of, clock_of}
use Rattle.machine.specs.Values.{Values}
use Rattle.machine.proofs.Effects.{effect_result, Proper}
use Rattle.machine.proofs.OtherParts.{other_parts, values_after}

module _ (f : AnyFresh) (h : History) (s : Values) (c : s.clock ≡ clock_of f h) where
  pub clock_part : (e : Effect) → Proper (mode_of f h) e → (other_parts s e).clock ≡ clock_of f (e ∷ h)
  unfolding last samples_since
  clock_part (sampled p) g = rw c (omega arith)
  clock_part (requested q) g = c
  clock_part (mode_set n) g = c
  clock_part (limits_set t o u) g = c
  clock_part (clock_set n) g = omega arith
  clock_part (occurred r) g = c
  clock_part (filter_set alarms n) g = c
  clock_part (filter_set errors n) g = c
  clock_part (bits_cleared alarms n) g = c
  clock_part (bits_cleared errors n) g = c
  clock_part (log_cleared n) g = c
  clock_part (groups_set ids) g = c
  clock_part (profile_set w) g = c

  pub clock_after : (e : Effect) → Proper (mode_of f h) e → (effect_result s e).values.clock ≡ clock_of f (e ∷ h)
  clock_after e g = ap (λ (t : Values). t.clock) (values_after s e) ∙ clock_part e g
