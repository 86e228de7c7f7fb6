-- The numbers of a sound record of the three-phase meter whose numbers are values of their types fit the page's bytes.
use Rattle.page.proofs.Common.{◌≡◌, true, ◌&&◌, List, [], ◌∷◌, ℕ, ◌<◌, ◌^◌, arith, every, and_left, and_right, every_first, every_rest, EventRow, sound_limiter}
use Rattle.page.proofs.Common.{sound_logs}
use Rattle.registers.specs.Alarms.{sound_alarms}
use Rattle.control.specs.Control.{sound_control}
use Rattle.page.proofs.Held.{control_held, limiter_held, register_held, alarms_held, logs_held}
use Rattle.phases_steps.specs.declared.MonitoredValue.{MonitoredValue}
use Rattle.phases_steps.specs.declared.Limiters.{Limiters}
use Rattle.phases_steps.specs.declared.ThreePhaseScalars.{ThreePhaseScalars}
use Rattle.phases_steps.specs.Scalars.{limiter_with, limiters_in, sound_three_phase_scalars}
use Rattle.phases_meter.specs.declared.ThreePhaseMeter.{ThreePhaseMeter}
use Rattle.phases_meter.specs.State.{sound_three_phase_meter}
use Rattle.phases_page.specs.Layout.{monitored_area, limiters_area, three_phase_layout}
use Rattle.phases_page.specs.Laws.{ThreePhaseTyped}

-- ---- the limiters

-- a monitored value, by the limiter that it is
monitored_held : (o u : ℕ) (m : MonitoredValue) → sound_limiter (limiter_with o u m) ≡ true → monitored_area.Holds m
monitored_held o u m e = let h = limiter_held (limiter_with o u m) e in ((h.0.0, (tt, h.0.1.1.1.1)), tt)

limiters_held : (l : Limiters) → every sound_limiter (limiters_in l) ≡ true → limiters_area.Holds l
limiters_held l four =
    let whole = limiter_with l.over l.under in
    let three = every_rest sound_limiter (whole l.l1) (whole l.l2 ∷ whole l.l3 ∷ whole l.sum ∷ []) four in
    let two = every_rest sound_limiter (whole l.l2) (whole l.l3 ∷ whole l.sum ∷ []) three in
    let one = every_rest sound_limiter (whole l.l3) (whole l.sum ∷ []) two in
    let first = every_first sound_limiter (whole l.l1) (whole l.l2 ∷ whole l.l3 ∷ whole l.sum ∷ []) four in
    let durations = (limiter_held (whole l.l1) first).0.1 in
    let held = monitored_held l.over l.under in (
      (
        durations.0,
        (
          durations.1.0,
          (
            held l.l1 first,
            (
              held l.l2 (every_first sound_limiter (whole l.l2) (whole l.l3 ∷ whole l.sum ∷ []) three),
              (
                held l.l3 (every_first sound_limiter (whole l.l3) (whole l.sum ∷ []) two),
                held l.sum (every_first sound_limiter (whole l.sum) [] one),
              ),
            ),
          ),
        ),
      ),
      tt,
    )

-- ---- the record
module _ (s : ThreePhaseScalars) (e : sound_three_phase_scalars s ≡ true) where
  control_sound : sound_control s.status.control ≡ true
  unfolding sound_three_phase_scalars
  control_sound = and_left (sound_control s.status.control) _ e

  behind : every sound_limiter (limiters_in s.limiters) && sound_alarms s.status.alarms ≡ true
  unfolding sound_three_phase_scalars
  behind = and_right (sound_control s.status.control) _ e

  limiters_sound : every sound_limiter (limiters_in s.limiters) ≡ true
  limiters_sound = and_left (every sound_limiter (limiters_in s.limiters)) (sound_alarms s.status.alarms) behind

  alarms_sound : sound_alarms s.status.alarms ≡ true
  alarms_sound = and_right (every sound_limiter (limiters_in s.limiters)) (sound_alarms s.status.alarms) behind

pub meter_held : (rows : List EventRow) (m : ThreePhaseMeter) → ThreePhaseTyped m → sound_three_phase_meter rows m ≡ true → three_phase_layout.Holds m
unfolding three_phase_layout sound_three_phase_meter
meter_held rows m t e =
    let s = m.scalars in
    let x = s.status in
    let scalars = and_left (sound_three_phase_scalars s) (sound_logs rows m.logs) e in
    let logs = logs_held m.logs t.counts (λ i. omega (arith, t.clocks i)) t.codes t.logs in
    let clock : x.clock < 256 ^ 4 = omega (arith, t.clock) in (
      (
        control_held x.control (control_sound s scalars) t.openings,
        (
          limiters_held s.limiters (limiters_sound s scalars),
          (
            clock,
            (
              alarms_held x.alarms (alarms_sound s scalars) t.alarms t.alarm_filter,
              (register_held x.errors t.errors t.error_filter, logs),
            ),
          ),
        ),
      ),
      tt,
    )
