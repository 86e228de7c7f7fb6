-- The numbers of a sound record whose numbers are values of their types fit the page's bytes.
use Rattle.page.proofs.Common.{◌≡◌, refl, Bool, true, false, ◌&&◌, cond, List, ℕ, zero, suc, ◌<◌, ◌≤◌, ◌^◌, arith, T, leb, ltb, ℤ, pos, negsuc, nat_abs}
use Rattle.page.proofs.Common.{non_neg, le_z, get_or, leb-true, ltb-true, and_left, and_right, AllHold, EventRow, is_threshold, is_duration, awaited}
use Rattle.page.proofs.Common.{sound_settings, sound_limiter, Sized, sound_logs, Word, Meter, scalars_of, sound_meter, sound_scalars}
use Rattle.registers.specs.declared.Register.{Register}
use Rattle.registers.specs.declared.Alarms.{Alarms}
use Rattle.registers.specs.Alarms.{sound_alarms}
use Rattle.registers.proofs.Counts.{sound_most}
use Rattle.control.specs.declared.Control.{Control}
use Rattle.control.specs.Control.{sound_control}
use Rattle.limiter.specs.declared.Limiter.{Limiter}
use Rattle.base.specs.Tests.{within}
use Rattle.codec.specs.Format.{num}
use Rattle.emergency.specs.declared.Emergency.{Emergency}
use Rattle.emergency.specs.Emergency.{in_ranges, sound_emergency, EightIds}
use Rattle.emergency.proofs.Kept.{Which, empty, waits, runs, which, profile_part, groups_part}
use Rattle.logs.specs.declared.Logs.{Logs}
use Rattle.steps.proofs.Sound.{control_sound, limiter_sound, alarms_sound, emergency_sound}
use Rattle.page.specs.Layout.{control_area, limiter_area, register_area, alarms_area, line_format, log_area, logs_area, stored_lines, stored_numbers}
use Rattle.page.specs.Layout.{emergency_area, layout}
use Rattle.page.specs.Laws.{Typed}
use Rattle.page.proofs.Lines.{length_lines}

-- ---- what soundness bounds
pub control_held : (c : Control) → sound_control c ≡ true → Word c.openings → control_area.Holds c
unfolding sound_control
control_held c e openings =
    let ranges = and_left (leb c.mode 6 && leb c.state 2) _ e in
    let mode = leb-true c.mode 6 (and_left (leb c.mode 6) (leb c.state 2) ranges) in
    let state = leb-true c.state 2 (and_right (leb c.mode 6) (leb c.state 2) ranges) in
    ((omega arith, (omega arith, omega arith)), tt)

threshold_held : (z : ℤ) → is_threshold z ≡ true → T (non_neg z) × (nat_abs z < 256 ^ 4)
threshold_held (pos n) e = (tt, omega (arith, leb-true n 2147483647 (and_right (le_z (pos 0) (pos n)) _ e)))
threshold_held (negsuc n) e = let z : ◌≡◌ {A = ℕ} 0 1 = cc in absurd (omega arith)

duration : (n : ℕ) → is_duration n ≡ true → n ≤ 86400
duration n e = leb-true n 86400 (and_right (leb 1 n) (leb n 86400) e)

awaited_range : (l : Limiter) (b : Bool) → l.over ≤ 86400 → l.under ≤ 86400 → cond b l.under l.over ≤ 86400
awaited_range l true o u = u
awaited_range l false o u = o

pub limiter_held : (l : Limiter) → sound_limiter l ≡ true → limiter_area.Holds l
unfolding sound_limiter
limiter_held l e =
    let settings = and_left (sound_settings l) (ltb l.run (awaited l)) e in
    let first = and_left (is_threshold l.threshold && is_duration l.over) (is_duration l.under) settings in
    let over = duration l.over (and_right (is_threshold l.threshold) (is_duration l.over) first) in
    let under = duration l.under (and_right (is_threshold l.threshold && is_duration l.over) (is_duration l.under) settings) in
    let run = ltb-true l.run (awaited l) (and_right (sound_settings l) (ltb l.run (awaited l)) e) in
    let most = awaited_range l l.exceeded over under in (
      (threshold_held l.threshold (and_left (is_threshold l.threshold) (is_duration l.over) first), (omega arith, (omega arith, (tt, omega arith)))),
      tt,
    )

-- ---- what the types bound
pub register_held : (r : Register) → Word r.bits → Word r.filter → register_area.Holds r
register_held r bits filter = ((omega arith, omega arith), tt)

pub alarms_held : (a : Alarms) → sound_alarms a ≡ true → Word a.register.bits → Word a.register.filter → alarms_area.Holds a
alarms_held a e bits filter = ((register_held a.register bits filter, omega (arith, sound_most a e)), tt)

lines_held : (k at : ℕ) (ts cs : List ℕ) → ((i : ℕ) → get_or ts i 0 < 256 ^ 4) → ((i : ℕ) → get_or cs i 0 < 256 ^ 1)
    → AllHold line_format (stored_lines k at ts cs)
unfolding stored_lines
lines_held zero at ts cs t c = tt
lines_held (suc k) at ts cs t c = (((t at, c at), tt), lines_held k (suc at) ts cs t c)

module _ (g : Logs) (n : (i : ℕ) → get_or g.counts i 0 < 256 ^ 1) (t : (i : ℕ) → get_or g.clocks i 0 < 256 ^ 4)
    (c : (i : ℕ) → get_or g.codes i 0 < 256 ^ 1) where
  log_held : (i at : ℕ) → log_area.Holds (get_or g.counts i 0, stored_lines 32 at g.clocks g.codes)
  log_held i at = (n i, (length_lines 32 at g.clocks g.codes, lines_held 32 at g.clocks g.codes t c))

  pub logs_held : Sized g → logs_area.Holds g
  logs_held z = ((refl, (log_held 0 0, (log_held 1 32, (log_held 2 64, tt)))), z)

-- ---- the emergency profile and the groups
ids_held : (k at : ℕ) (ids : List ℕ) → ((i : ℕ) → get_or ids i 0 < 65536) → AllHold (num 2) (stored_numbers k at ids)
ids_held zero at ids h = tt
ids_held (suc k) at ids h = (omega (arith, h at), ids_held k (suc at) ids h)

module _ (e : Emergency) (sound : sound_emergency e ≡ true) (id : e.id < 65536) (activation : Word e.activation) (eight : EightIds e)
    (ids : (i : ℕ) → get_or e.ids i 0 < 65536) where
  -- whatever the state, the profile's numbers have their bytes
  in_bytes : T (non_neg e.threshold) × (nat_abs e.threshold < 256 ^ 4) → e.duration ≤ 604800 → e.left ≤ 604800 → e.state ≤ 2
      → emergency_area.Holds e
  in_bytes watts duration left state =
      let count = leb-true e.count 8 (and_left (leb e.count 8) _ (groups_part e sound)) in (
        (
          omega (arith, id),
          (watts, (omega (arith, activation), (omega arith, (omega arith, (omega arith, (omega arith, (refl, ids_held 8 0 e.ids ids))))))),
        ),
        eight,
      )

  emergency_held : emergency_area.Holds e
  emergency_held = by_state (which e (profile_part e sound))
    where
      most : in_ranges e ≡ true → e.duration ≤ 604800
      most r =
          leb-true e.duration 604800
          (and_right (leb 1 e.duration) (leb e.duration 604800) (and_left (within 1 604800 e.duration) (is_threshold e.threshold) r))

      watts : in_ranges e ≡ true → T (non_neg e.threshold) × (nat_abs e.threshold < 256 ^ 4)
      watts r = threshold_held e.threshold (and_right (within 1 604800 e.duration) (is_threshold e.threshold) r)

      by_state : Which e → emergency_area.Holds e
      by_state (empty n) =
          in_bytes (rw n.threshold (threshold_held (pos 0) refl)) (omega (arith, n.duration)) (omega (arith, n.left)) (omega (arith, n.state))
      by_state (waits s r l) = in_bytes (watts r) (most r) (omega (arith, l, most r)) (omega (arith, s))
      by_state (runs s r l) =
          in_bytes (watts r) (most r)
          (omega (arith, most r, leb-true e.left e.duration (and_right (leb 1 e.left) (leb e.left e.duration) l))) (omega (arith, s))

pub meter_held : (rows : List EventRow) (m : Meter) → Typed m → sound_meter rows m ≡ true → layout.Holds m
unfolding layout sound_meter
meter_held rows m t e =
    let scalars = and_left (sound_scalars (scalars_of m)) (sound_logs rows m.logs) e in
    let logs = logs_held m.logs t.counts (λ i. omega (arith, t.clocks i)) t.codes t.logs in
    let clock : m.clock < 256 ^ 4 = omega (arith, t.clock) in (
      (
        control_held m.control (control_sound (scalars_of m) scalars) t.openings,
        (
          limiter_held m.limiter (limiter_sound (scalars_of m) scalars),
          (
            clock,
            (
              alarms_held m.alarms (alarms_sound (scalars_of m) scalars) t.alarms t.alarm_filter,
              (
                register_held m.errors t.errors t.error_filter,
                (logs, emergency_held m.emergency (emergency_sound (scalars_of m) scalars) t.id t.activation t.eight t.ids),
              ),
            ),
          ),
        ),
      ),
      tt,
    )
