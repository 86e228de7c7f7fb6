-- What fresh accepts and refuses.
use native.Mathlib.Omega.{arith}
use mathlib.Core.Path.{◌≡◌, refl}
use mathlib.Core.Bool.{true}
use mathlib.Core.List.{[], ◌∷◌}
use lib.IntN.{pos}
use lib.Signed.{le_z}
use Prim.Native.Nat.{ℕ}
use Rattle.base.proofs.Bools.{and_left}
use Rattle.calls.specs.declared.Answer.TheVariants.{Accepted, Refused}
use Rattle.logs.specs.Layout.{padded, flat, laid}
use Rattle.history.specs.OnePhase.{Fresh}
use Rattle.status.proofs.Records.{settings_passed}
use Rattle.meter.specs.State.{record_of}
use Rattle.meter.specs.Fresh.{fresh_state, least_settings, least_meter, fresh_of, FreshLaws}
use Rattle.meter.specs.Settings.{fresh_answer, Settings, SettingsInRange}

-- the meter of the least settings, field by field
pub least_meter_lem : record_of (fresh_state least_settings) ≡ least_meter
unfolding laid flat padded
least_meter_lem = refl

module _ (f : Fresh) where
  settings_accepted : Settings f → (fresh_of f).answer ≡ Accepted
  unfolding fresh_answer
  settings_accepted s = rw (s.mode, and_left (le_z (pos 0) f.threshold) (le_z f.threshold (pos 2147483647)) s.threshold, s.over, s.under)

  accepted_settings : SettingsInRange f → (fresh_of f).answer ≡ Accepted → Settings f
  unfolding fresh_answer
  accepted_settings h a =
      let tests = settings_passed f.mode (f.threshold ∷ []) f.over f.under a in
      record {
        mode = tests.0;
        threshold = rw (and_left (le_z (pos 0) f.threshold) true tests.1.0) h.threshold.1;
        over = tests.1.1.0;
        under = tests.1.1.1;
        clock = h.clock;
      }

  accepted_meter : (fresh_of f).answer ≡ Accepted → (fresh_of f).meter ≡ record_of (fresh_state f)
  accepted_meter a = rw a

  refused_meter : (n : ℕ) → (fresh_of f).answer ≡ Refused n → (fresh_of f).meter ≡ least_meter
  refused_meter n a = rw a least_meter_lem

pub fresh_laws : FreshLaws
fresh_laws =
    record {
      settings_accepted = settings_accepted;
      accepted_settings = accepted_settings;
      accepted_meter = accepted_meter;
      refused_meter = refused_meter;
      least_settings_lem = record { mode = refl; threshold = refl; over = refl; under = refl; clock = omega arith };
    }
