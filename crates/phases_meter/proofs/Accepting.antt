-- What fresh accepts and refuses.
use Rattle.base.proofs.Prelude.{◌≡◌, refl, true, ◌&&◌, ℕ, arith, ℤ, pos, and_left, and_right}
use lib.Signed.{le_z}
use Rattle.limiter.specs.Limiter.{is_threshold}
use Rattle.calls.specs.Calls.{Signed}
use Rattle.calls.specs.declared.Answer.TheVariants.{Accepted, Refused}
use Rattle.status.proofs.Records.{settings_passed}
use Rattle.logs.specs.Layout.{padded, flat, laid}
use Rattle.phases.specs.ThreePhase.{ThreePhaseFresh, in_order}
use Rattle.phases_meter.specs.State.{three_phase_record_of}
use Rattle.phases_meter.specs.Fresh.{three_phase_fresh_state, three_phase_least_settings, three_phase_least_meter, three_phase_fresh_of, FreshLaws}
use Rattle.phases_meter.specs.Settings.{three_phase_fresh_answer, ThreePhaseSettings, ThreePhaseSettingsInRange}

-- a threshold is not negative; of a number of 32 bits, that is all
not_negative : (t : ℤ) → is_threshold t ≡ true → le_z (pos 0) t ≡ true
not_negative t h = and_left (le_z (pos 0) t) (le_z t (pos 2147483647)) h

threshold : (t : ℤ) → Signed t → le_z (pos 0) t ≡ true → is_threshold t ≡ true
threshold t h z = rw z h.1

-- the meter of the least settings, field by field
pub three_phase_least_meter_lem : three_phase_record_of (three_phase_fresh_state three_phase_least_settings) ≡ three_phase_least_meter
unfolding laid flat padded
three_phase_least_meter_lem = refl

module _ (f : ThreePhaseFresh) where
  settings_accepted : ThreePhaseSettings f → (three_phase_fresh_of f).answer ≡ Accepted
  unfolding three_phase_fresh_answer
  settings_accepted s =
      rw (s.mode, not_negative f.l1 s.l1, not_negative f.l2 s.l2, not_negative f.l3 s.l3, not_negative f.sum s.sum, s.over, s.under)

  accepted_settings : ThreePhaseSettingsInRange f → (three_phase_fresh_of f).answer ≡ Accepted → ThreePhaseSettings f
  unfolding three_phase_fresh_answer
  accepted_settings h a =
      let tests = settings_passed f.mode (in_order f.l1 f.l2 f.l3 f.sum) f.over f.under a in
      let third = le_z (pos 0) f.l3 in
      let fourth = le_z (pos 0) f.sum && true in
      let four = tests.1.0 in
      let three = and_right (le_z (pos 0) f.l1) (le_z (pos 0) f.l2 && (third && fourth)) four in
      let two = and_right (le_z (pos 0) f.l2) (third && fourth) three in
      record {
        mode = tests.0;
        l1 = threshold f.l1 h.l1 (and_left (le_z (pos 0) f.l1) _ four);
        l2 = threshold f.l2 h.l2 (and_left (le_z (pos 0) f.l2) _ three);
        l3 = threshold f.l3 h.l3 (and_left third _ two);
        sum = threshold f.sum h.sum (and_left (le_z (pos 0) f.sum) true (and_right third fourth two));
        over = tests.1.1.0;
        under = tests.1.1.1;
        clock = h.clock;
      }

  accepted_meter : (three_phase_fresh_of f).answer ≡ Accepted → (three_phase_fresh_of f).meter ≡ three_phase_record_of (three_phase_fresh_state f)
  accepted_meter a = rw a

  refused_meter : (n : ℕ) → (three_phase_fresh_of f).answer ≡ Refused n → (three_phase_fresh_of f).meter ≡ three_phase_least_meter
  refused_meter n a = rw a three_phase_least_meter_lem

pub fresh_laws : FreshLaws
fresh_laws =
    record {
      settings_accepted = settings_accepted;
      accepted_settings = accepted_settings;
      accepted_meter = accepted_meter;
      refused_meter = refused_meter;
      least_settings =
          record { mode = refl; l1 = refl; l2 = refl; l3 = refl; sum = refl; over = refl; under = refl; clock = omega arith };
    }
