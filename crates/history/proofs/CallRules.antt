-- What single calls do to mode, limiter settings, clock, groups, bits and filters, which of them are refused, and the lines that they owe.
use Prim.Native.Nat.{ℕ, ◌+◌, ◌≤◌, ◌<◌, min}
use native.Mathlib.Omega.{arith}
use mathlib.Core.Path.{◌≡◌, refl, sym, ap}
use mathlib.Core.Bool.{Bool, true, false, not, ◌&&◌, ◌||◌, cond, false≢true, or-true, and-false}
use mathlib.Core.List.{List, [], ◌∷◌}
use mathlib.Core.Logic.{◌↔◌, ◌≢◌, ◌⊎◌, inl, inr}
use mathlib.Core.Option.{Option, none, some}
use lib.Dec.{eqb, leb}
use lib.IntN.{ℤ, pos}
use lib.ListN.{take}
use lib.Signed.{le_z}
use borrow.Author.Tests.{eqb-true, eq-eqb, ne_eqb, le-leb, lt-leb, leb-true}
use Rattle.base.specs.Bits.{bit}
use Rattle.base.specs.Tests.{within, among, every}
use Rattle.base.proofs.Bools.{by_test, and_left, and_right}
use Rattle.events.specs.Line.{line}
use Rattle.events.specs.Table.{EventRow, lookup}
use Rattle.history.specs.Effects.{AnyFresh, remote_disconnect, remote_reconnect, manual_disconnect, manual_reconnect, WhichRegister, alarms, errors, Effect}
use Rattle.history.specs.Effects.{sampled, requested, mode_set, limits_set, clock_set, occurred, filter_set, bits_cleared, log_cleared, groups_set, profile_set}
use Rattle.history.specs.Effects.{sample, request, set_mode, set_limiter, set_clock, event, set_filter, clear_bits, clear_log}
use Rattle.history.specs.Effects.{script, set_groups, set_profile, Profile, accepted, refused, reading}
use Rattle.history.specs.Last.{History, otherwise, given, last, mode_of, limits, limits_of, filter_of, samples_since, clock_of}
use Rattle.history.specs.Profile.{groups_of}
use Rattle.history.specs.Switch.{spell, observations, last_decided, switch_of}
use Rattle.history.specs.Registers.{is_bit, stands}
use Rattle.history.specs.Logs.{when, moves, owed_by}
use Rattle.history.specs.Laws.{InDays, Lasting}
use Rattle.history.proofs.Letters.{OneOrTwo, one, two, last_decided_lem}

-- ---- bits
pub fresh_stands : (s : WhichRegister) (b : ℕ) → stands s b [] ≡ false
unfolding stands
fresh_stands s b = refl

is_bit_lem : (o : Option ℕ) (b : ℕ) → is_bit o b ≡ true → o ≡ some b
is_bit_lem none b q = absurd (false≢true q)
is_bit_lem (some k) b q = ap some (eqb-true k b q)

bit_is : (b : ℕ) → is_bit (some b) b ≡ true
bit_is b = eq-eqb b b refl

-- raised by an option's bit that the filter has not, or standing already
raised_by : (o : Option ℕ) (b : ℕ) (hides was : Bool)
    → (((is_bit o b && not hides) || was) ≡ true) ↔ ((was ≡ true) ⊎ ((o ≡ some b) × (hides ≡ false)))
raised_by o b hides was = (to (is_bit o b) hides was refl, from)
  where
    to : (x hides was : Bool) → is_bit o b ≡ x → ((x && not hides) || was) ≡ true → (was ≡ true) ⊎ ((o ≡ some b) × (hides ≡ false))
    to x hides true e q = inl refl
    to true true false e q = absurd (false≢true q)
    to true false false e q = inr (is_bit_lem o b e, refl)
    to false hides false e q = absurd (false≢true q)

    from : (was ≡ true) ⊎ ((o ≡ some b) × (hides ≡ false)) → ((is_bit o b && not hides) || was) ≡ true
    from (inl e) = rw e (or-true (is_bit o b && not hides))
    from (inr e) = rw (e.0, e.1, bit_is b)

pub event_raises_alarm : (b : ℕ) (r : EventRow) (h : History)
    → (stands alarms b (occurred r ∷ h) ≡ true) ↔ ((stands alarms b h ≡ true) ⊎ ((r.alarm ≡ some b) × (bit (filter_of alarms h) b ≡ false)))
unfolding stands
event_raises_alarm b r h = raised_by r.alarm b (bit (filter_of alarms h) b) (stands alarms b h)

pub event_raises_error : (b : ℕ) (r : EventRow) (h : History)
    → (stands errors b (occurred r ∷ h) ≡ true) ↔ ((stands errors b h ≡ true) ⊎ ((r.error ≡ some b) × (bit (filter_of errors h) b ≡ false)))
unfolding stands
event_raises_error b r h = raised_by r.error b (bit (filter_of errors h) b) (stands errors b h)

-- standing, and not among those cleared
left_of : (x was : Bool) → ((not x && was) ≡ true) ↔ ((was ≡ true) × (x ≡ false))
left_of true was = (λ q. absurd (false≢true q), λ p. absurd (false≢true (sym p.1)))
left_of false was = (λ q. (q, refl), λ p. p.0)

pub cleared_ones : (s : WhichRegister) (b n : ℕ) (h : History)
    → (stands s b (bits_cleared s n ∷ h) ≡ true) ↔ ((stands s b h ≡ true) × (bit n b ≡ false))
unfolding stands
cleared_ones alarms b n h = left_of (bit n b) (stands alarms b h)
cleared_ones errors b n h = left_of (bit n b) (stands errors b h)

pub clock_clears : (n : ℕ) (h : History) → stands errors 0 (clock_set n ∷ h) ≡ false
unfolding stands
clock_clears n h = refl

pub others_keep_bits : (s : WhichRegister) (b : ℕ) (e : Effect) (h : History) → ((r : EventRow) → e ≢ occurred r) → ((n : ℕ) → e ≢ bits_cleared s n)
    → ((n : ℕ) → s ≡ errors → b ≡ 0 → e ≢ clock_set n) → stands s b (e ∷ h) ≡ stands s b h
unfolding stands
others_keep_bits s b (sampled p) h o c t = refl
others_keep_bits s b (requested q) h o c t = refl
others_keep_bits s b (mode_set n) h o c t = refl
others_keep_bits s b (limits_set ts x u) h o c t = refl
others_keep_bits alarms b (clock_set n) h o c t = refl
others_keep_bits errors b (clock_set n) h o c t = rw (ne_eqb b 0 (λ z. t n refl z refl))
others_keep_bits s b (occurred r) h o c t = absurd (o r refl)
others_keep_bits s b (filter_set x n) h o c t = refl
others_keep_bits alarms b (bits_cleared alarms n) h o c t = absurd (c n refl)
others_keep_bits alarms b (bits_cleared errors n) h o c t = refl
others_keep_bits errors b (bits_cleared alarms n) h o c t = refl
others_keep_bits errors b (bits_cleared errors n) h o c t = absurd (c n refl)
others_keep_bits s b (log_cleared n) h o c t = refl
others_keep_bits s b (groups_set g) h o c t = refl
others_keep_bits s b (profile_set w) h o c t = refl

-- ---- filters
pub filter_sets : (s : WhichRegister) (n : ℕ) (h : History) → filter_of s (filter_set s n ∷ h) ≡ n
unfolding last
filter_sets alarms n h = refl
filter_sets errors n h = refl

pub others_keep_filter : (s : WhichRegister) (e : Effect) (h : History) → ((n : ℕ) → e ≢ filter_set s n) → filter_of s (e ∷ h) ≡ filter_of s h
unfolding last
others_keep_filter s (sampled p) h k = refl
others_keep_filter s (requested q) h k = refl
others_keep_filter s (mode_set n) h k = refl
others_keep_filter s (limits_set ts x u) h k = refl
others_keep_filter s (clock_set n) h k = refl
others_keep_filter s (occurred r) h k = refl
others_keep_filter alarms (filter_set alarms n) h k = absurd (k n refl)
others_keep_filter alarms (filter_set errors n) h k = refl
others_keep_filter errors (filter_set alarms n) h k = refl
others_keep_filter errors (filter_set errors n) h k = absurd (k n refl)
others_keep_filter s (bits_cleared x n) h k = refl
others_keep_filter s (log_cleared n) h k = refl
others_keep_filter s (groups_set g) h k = refl
others_keep_filter s (profile_set w) h k = refl

-- ---- mode, limiter settings, clock and groups: which call sets them
module _ (f : AnyFresh) where
  pub mode_sets : (n : ℕ) (h : History) → mode_of f (mode_set n ∷ h) ≡ n
  unfolding last
  mode_sets n h = refl

  pub others_keep_mode : (e : Effect) (h : History) → ((n : ℕ) → e ≢ mode_set n) → mode_of f (e ∷ h) ≡ mode_of f h
  unfolding last
  others_keep_mode (sampled ps) h k = refl
  others_keep_mode (requested q) h k = refl
  others_keep_mode (mode_set m) h k = absurd (k m refl)
  others_keep_mode (limits_set ts o u) h k = refl
  others_keep_mode (clock_set m) h k = refl
  others_keep_mode (occurred r) h k = refl
  others_keep_mode (filter_set s m) h k = refl
  others_keep_mode (bits_cleared s m) h k = refl
  others_keep_mode (log_cleared m) h k = refl
  others_keep_mode (groups_set g) h k = refl
  others_keep_mode (profile_set w) h k = refl

  pub limits_sets : (ts : List ℤ) (o u : ℕ) (h : History) → limits_of f (limits_set ts o u ∷ h) ≡ limits ts o u
  unfolding last
  limits_sets ts o u h = refl

  pub others_keep_limits : (e : Effect) (h : History) → ((ts : List ℤ) (o u : ℕ) → e ≢ limits_set ts o u) → limits_of f (e ∷ h) ≡ limits_of f h
  unfolding last
  others_keep_limits (sampled ps) h k = refl
  others_keep_limits (requested q) h k = refl
  others_keep_limits (mode_set m) h k = refl
  others_keep_limits (limits_set ts o u) h k = absurd (k ts o u refl)
  others_keep_limits (clock_set m) h k = refl
  others_keep_limits (occurred r) h k = refl
  others_keep_limits (filter_set s m) h k = refl
  others_keep_limits (bits_cleared s m) h k = refl
  others_keep_limits (log_cleared m) h k = refl
  others_keep_limits (groups_set g) h k = refl
  others_keep_limits (profile_set w) h k = refl

  pub clock_sets : (t : ℕ) (h : History) → t ≤ 4294967295 → clock_of f (clock_set t ∷ h) ≡ t
  unfolding last samples_since
  clock_sets t h b = omega arith

  pub sample_advances : (ps : List ℤ) (h : History) → clock_of f (sampled ps ∷ h) ≡ min (clock_of f h + 1) 4294967295
  unfolding last samples_since
  sample_advances ps h = omega arith

  pub others_keep_clock : (e : Effect) (h : History) → ((ps : List ℤ) → e ≢ sampled ps) → ((t : ℕ) → e ≢ clock_set t) → clock_of f (e ∷ h) ≡ clock_of f h
  unfolding last samples_since
  others_keep_clock (sampled ps) h k t = absurd (k ps refl)
  others_keep_clock (requested q) h k t = refl
  others_keep_clock (mode_set m) h k t = refl
  others_keep_clock (limits_set ts o u) h k t = refl
  others_keep_clock (clock_set m) h k t = absurd (t m refl)
  others_keep_clock (occurred r) h k t = refl
  others_keep_clock (filter_set s m) h k t = refl
  others_keep_clock (bits_cleared s m) h k t = refl
  others_keep_clock (log_cleared m) h k t = refl
  others_keep_clock (groups_set g) h k t = refl
  others_keep_clock (profile_set w) h k t = refl

pub groups_sets : (g : List ℕ) (h : History) → groups_of (groups_set g ∷ h) ≡ g
unfolding last
groups_sets g h = refl

pub others_keep_groups : (e : Effect) (h : History) → ((g : List ℕ) → e ≢ groups_set g) → groups_of (e ∷ h) ≡ groups_of h
unfolding last
others_keep_groups (sampled ps) h k = refl
others_keep_groups (requested q) h k = refl
others_keep_groups (mode_set m) h k = refl
others_keep_groups (limits_set ts o u) h k = refl
others_keep_groups (clock_set m) h k = refl
others_keep_groups (occurred r) h k = refl
others_keep_groups (filter_set s m) h k = refl
others_keep_groups (bits_cleared s m) h k = refl
others_keep_groups (log_cleared m) h k = refl
others_keep_groups (groups_set g) h k = absurd (k g refl)
others_keep_groups (profile_set w) h k = refl

-- ---- which calls are refused
pub scripts_named : (rows : List EventRow) (m : ℕ) (g : List ℕ)
    → (reading rows m g (script 1) ≡ reading rows m g (request remote_disconnect))
    × (reading rows m g (script 2) ≡ reading rows m g (request remote_reconnect))
unfolding reading
scripts_named rows m g = (refl, refl)

pub always_accepted : (rows : List EventRow) (m : ℕ) (g : List ℕ) (ps : List ℤ) (s : WhichRegister) (n : ℕ)
    → (reading rows m g (sample ps) ≡ accepted (sampled ps))
    × ((reading rows m g (set_clock n) ≡ accepted (clock_set n))
    × ((reading rows m g (set_filter s n) ≡ accepted (filter_set s n)) × (reading rows m g (clear_bits s n) ≡ accepted (bits_cleared s n))))
unfolding reading
always_accepted rows m g ps s n = (refl, (refl, (refl, refl)))

module _ (rows : List EventRow) (m : ℕ) (g : List ℕ) where
  pub scripts_refused : (n : ℕ) → n ≢ 1 → n ≢ 2 → reading rows m g (script n) ≡ refused 3
  unfolding reading
  scripts_refused n a b = rw (ne_eqb n 1 a, ne_eqb n 2 b)

  pub modes_read : (n : ℕ)
      → (n ≤ 6 → reading rows m g (set_mode n) ≡ accepted (mode_set n)) × (6 < n → reading rows m g (set_mode n) ≡ refused 1)
  unfolding reading
  modes_read n = ((λ a. rw (le-leb n 6 a)), (λ a. rw (lt-leb n 6 a)))

  -- a duration is within its range, or not
  days : (n : ℕ) → InDays n → within 1 86400 n ≡ true
  days n d = rw (le-leb 1 n d.0, le-leb n 86400 d.1)

  no_days : (o u : ℕ) → ¬ (InDays o × InDays u) → within 1 86400 o && within 1 86400 u ≡ false
  no_days o u d =
      by_test (within 1 86400 o && within 1 86400 u)
      (λ e. absurd (d (in_days o (and_left (within 1 86400 o) _ e), in_days u (and_right (within 1 86400 o) _ e)))) (λ e. e)
    where
      in_days : (n : ℕ) → within 1 86400 n ≡ true → InDays n
      in_days n e = (leb-true 1 n (and_left (leb 1 n) _ e), leb-true n 86400 (and_right (leb 1 n) _ e))

  pub limits_read : (ts : List ℤ) (o u : ℕ)
      → (every (le_z (pos 0)) ts ≡ false → reading rows m g (set_limiter ts o u) ≡ refused 4)
      × (every (le_z (pos 0)) ts ≡ true → InDays o → InDays u → reading rows m g (set_limiter ts o u) ≡ accepted (limits_set ts o u))
      × (every (le_z (pos 0)) ts ≡ true → ¬ (InDays o × InDays u) → reading rows m g (set_limiter ts o u) ≡ refused 5)
  unfolding reading
  limits_read ts o u = ((λ e. rw e), (λ e a b. rw (e, days o a, days u b)), (λ e a. rw (e, no_days o u a)))

  pub events_read : (c : ℕ)
      → (lookup rows c ≡ none → reading rows m g (event c) ≡ refused 6)
      × ((r : EventRow) → lookup rows c ≡ some r → reading rows m g (event c) ≡ accepted (occurred r))
  unfolding reading
  events_read c = ((λ e. rw e), (λ r e. rw e))

  pub logs_read : (n : ℕ)
      → (1 ≤ n → n ≤ 3 → reading rows m g (clear_log n) ≡ accepted (log_cleared n))
      × ((n ≡ 0) ⊎ (3 < n) → reading rows m g (clear_log n) ≡ refused 7)
  unfolding reading
  logs_read n = ((λ a b. rw (le-leb 1 n a, le-leb n 3 b)), outside_logs)
    where
      outside_logs : (n ≡ 0) ⊎ (3 < n) → cond (leb 1 n && leb n 3) (accepted (log_cleared n)) (refused 7) ≡ refused 7
      outside_logs (inl e) = rw e
      outside_logs (inr e) = rw (lt-leb n 3 e, and-false (leb 1 n))

  pub groups_read : (n : ℕ) (ids : List ℕ)
      → (n ≤ 8 → reading rows m g (set_groups n ids) ≡ accepted (groups_set (take n ids))) × (8 < n → reading rows m g (set_groups n ids) ≡ refused 14)
  unfolding reading
  groups_read n ids = ((λ a. rw (le-leb n 8 a)), (λ a. rw (lt-leb n 8 a)))

  pub profiles_read : (w : Profile)
      → (among g w.id ≡ false → reading rows m g (set_profile w) ≡ refused 15)
      × (among g w.id ≡ true → ¬ Lasting w → reading rows m g (set_profile w) ≡ refused 16)
      × (among g w.id ≡ true → Lasting w → reading rows m g (set_profile w) ≡ accepted (profile_set w))
  unfolding reading
  profiles_read w = ((λ e. rw e), (λ e d. rw (e, not_lasting d)), (λ e d. rw (e, le-leb 1 w.duration d.0, le-leb w.duration 604800 d.1, d.2)))
    where
      not_lasting : ¬ Lasting w → within 1 604800 w.duration && le_z (pos 0) w.threshold ≡ false
      not_lasting d =
          let n = w.duration in
          by_test (within 1 604800 w.duration && le_z (pos 0) w.threshold)
          (λ e. let l = and_left (within 1 604800 n) _ e in
          absurd (d (leb-true 1 n (and_left (leb 1 n) _ l), leb-true n 604800 (and_right (leb 1 n) _ l), and_right (within 1 604800 n) _ e)))
          (λ e. e)

-- ---- lines
-- whether a call moves the switch, by the spell, the last deciding call before it and the mode
manual_moves : (s : Bool) {c : ℕ} → OneOrTwo c → not (eqb (cond s 0 c) (cond s 0 (otherwise (given (not s) 2) c))) ≡ eqb (cond s 0 c) 1
manual_moves true p = refl
manual_moves false one = refl
manual_moves false two = refl

reconnect_moves : (s : Bool) {c : ℕ} → OneOrTwo c → not (eqb (cond s 0 c) (cond s 0 (otherwise (given (not s) 1) c))) ≡ eqb (cond s 0 c) 2
reconnect_moves true p = refl
reconnect_moves false one = refl
reconnect_moves false two = refl

pub manual_reconnect_moves : (f : AnyFresh) (h : History) → moves f (requested manual_reconnect) h ≡ eqb (switch_of f h) 2
unfolding last switch_of spell observations last_decided
manual_reconnect_moves f h = reconnect_moves (spell h) (last_decided_lem f h)

mode_moves : (z s : Bool) (c : ℕ) →
    not (eqb (cond s 0 c) (cond (otherwise (given z false) s) 0 (otherwise (given z 1) c))) ≡ z && not (eqb (cond s 0 c) 1)
mode_moves true s c = refl
mode_moves false s c = ap not (eq-eqb (cond s 0 c) (cond s 0 c) refl)

module _ (f : AnyFresh) (n : ℕ) where
  pub remote_disconnect_owes : (h : History)
      → owed_by f n (requested remote_disconnect) h ≡ when (eqb n 3 && not (eqb (switch_of f h) 0)) (line (clock_of f h) 62 ∷ [])
  unfolding last samples_since switch_of spell
  remote_disconnect_owes h = refl

  reconnect_lines : (s x : Bool) {c : ℕ} (t : ℕ) → OneOrTwo c →
      let to = otherwise (cond s (some (cond x 1 2)) (given x 1)) c in
      when (eqb n 3 && not (eqb (cond s 0 c) to)) (line t (cond (eqb to 1) 63 59) ∷ [])
      ≡ when (eqb n 3) (cond x (when (not (eqb (cond s 0 c) 1)) (line t 63 ∷ [])) (when (eqb (cond s 0 c) 0) (line t 59 ∷ [])))
  reconnect_lines s x t p = go (eqb n 3) s x p
    where
      go : (l s x : Bool) {c : ℕ} → OneOrTwo c →
          let to = otherwise (cond s (some (cond x 1 2)) (given x 1)) c in
          when (l && not (eqb (cond s 0 c) to)) (line t (cond (eqb to 1) 63 59) ∷ [])
          ≡ when l (cond x (when (not (eqb (cond s 0 c) 1)) (line t 63 ∷ [])) (when (eqb (cond s 0 c) 0) (line t 59 ∷ [])))
      go false s x p = refl
      go true true true p = refl
      go true true false p = refl
      go true false true one = refl
      go true false true two = refl
      go true false false one = refl
      go true false false two = refl

  pub remote_reconnect_owes : (h : History)
      → owed_by f n (requested remote_reconnect) h
      ≡ when (eqb n 3)
      (cond (among (2 ∷ 4 ∷ []) (mode_of f h))
      (when (not (eqb (switch_of f h) 1)) (line (clock_of f h) 63 ∷ []))
      (when (eqb (switch_of f h) 0) (line (clock_of f h) 59 ∷ [])))
  unfolding last samples_since switch_of spell observations last_decided
  remote_reconnect_owes h = reconnect_lines (spell h) (among (2 ∷ 4 ∷ []) (mode_of f h)) (clock_of f h) (last_decided_lem f h)

  pub manual_disconnect_owes : (h : History)
      → owed_by f n (requested manual_disconnect) h ≡ when (eqb n 3 && eqb (switch_of f h) 1) (line (clock_of f h) 60 ∷ [])
  unfolding last samples_since switch_of spell observations last_decided
  manual_disconnect_owes h =
      ap (λ (x : Bool). when (eqb n 3 && x) (line (clock_of f h) 60 ∷ [])) (manual_moves (spell h) (last_decided_lem f h))

  pub mode_owes : (m : ℕ) (h : History)
      → owed_by f n (mode_set m) h ≡ when (eqb n 3 && (eqb m 0 && not (eqb (switch_of f h) 1))) (line (clock_of f h) 63 ∷ [])
  unfolding last samples_since switch_of spell observations last_decided
  mode_owes m h = ap (λ (x : Bool). when (eqb n 3 && x) (line (clock_of f h) 63 ∷ [])) (mode_moves (eqb m 0) (spell h) (last_decided f h))

  pub setting_owes : (ts : List ℤ) (o u : ℕ) (h : History) → owed_by f n (limits_set ts o u) h ≡ when (eqb n 3) (line (clock_of f h) 67 ∷ [])
  unfolding last samples_since
  setting_owes ts o u h = refl

  pub clock_owes : (t : ℕ) (h : History) → t ≤ 4294967295 → owed_by f n (clock_set t) h ≡ when (eqb n 1) (line (clock_of f h) 4 ∷ line t 5 ∷ [])
  unfolding last samples_since
  clock_owes t h b = ap (λ (x : ℕ). when (eqb n 1) (line (clock_of f h) 4 ∷ line x 5 ∷ [])) (omega arith)

  pub event_owes : (r : EventRow) (h : History) → owed_by f n (occurred r) h ≡ when (eqb n r.log) (line (clock_of f h) r.code ∷ [])
  unfolding last samples_since
  event_owes r h = refl

  pub clear_alarms_owes : (m : ℕ) (h : History) → owed_by f n (bits_cleared alarms m) h ≡ when (eqb n 1) (line (clock_of f h) 11 ∷ [])
  unfolding last samples_since
  clear_alarms_owes m h = refl

  pub clear_errors_owes : (m : ℕ) (h : History) → owed_by f n (bits_cleared errors m) h ≡ when (eqb n 1) (line (clock_of f h) 10 ∷ [])
  unfolding last samples_since
  clear_errors_owes m h = refl

  pub clear_log_owes : (m : ℕ) (h : History) → owed_by f n (log_cleared m) h ≡ when (eqb n m) (line (clock_of f h) 255 ∷ [])
  unfolding last samples_since
  clear_log_owes m h = refl

  pub no_line : (s : WhichRegister) (m : ℕ) (g : List ℕ) (h : History) → (owed_by f n (filter_set s m) h ≡ []) × (owed_by f n (groups_set g) h ≡ [])
  no_line s m g h = (refl, refl)
