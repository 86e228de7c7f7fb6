-- The lines that calls owe have a clock of 32 bits and a code of a byte.
use mathlib.Core.Path.{◌≡◌, refl}
use mathlib.Core.Bool.{Bool, true, false, not, ◌&&◌, cond}
use mathlib.Core.List.{List, [], ◌∷◌}
use Prim.Native.Nat.{ℕ, ◌-◌}
use native.Mathlib.Omega.{arith}
use lib.Dec.{eqb, leb, ltb}
use lib.IntN.{ℤ}
use lib.ListN.{length}
use borrow.Author.Tests.{le-leb}
use Rattle.base.specs.Tests.{every, any, eq_z, gathered}
use Rattle.base.proofs.Bools.{and_left, and_right}
use Rattle.base.proofs.Every.{every_append, every_drop}
use Rattle.events.specs.Line.{Line, line, is_log, newest}
use Rattle.events.specs.Table.{EventRow, position, lawful}
use Rattle.history.specs.Effects.{AnyFresh, RequestCall, remote_disconnect, remote_reconnect, manual_disconnect, manual_reconnect, WhichRegister, alarms}
use Rattle.history.specs.Effects.{errors, Effect, sampled, requested, mode_set, limits_set, clock_set, occurred, filter_set, bits_cleared, log_cleared, groups_set}
use Rattle.history.specs.Effects.{profile_set}
use Rattle.history.specs.Last.{History, mode_of, clock_of}
use Rattle.history.specs.Profile.{threshold_in_force, threshold_at}
use Rattle.history.specs.Limiter.{fires_over, fires_under, monitored_values}
use Rattle.history.specs.Switch.{observations, switch_of}
use Rattle.history.specs.Logs.{when, moves, request_code, local_code, firing_lines, change_lines, clear_code, owed_by, clears_log, owed, log_of}
use Rattle.machine.proofs.Effects.{Proper, AllProper, none, more}

-- a clock of 32 bits and a code of a byte
abbrev pub fits : Line → Bool
fits x = leb x.clock 4294967295 && ltb x.code 256

none_fit : every fits [] ≡ true
unfolding every
none_fit = refl

module _ (f : AnyFresh) where
  line_fits : (h : History) (c : ℕ) → ltb c 256 ≡ true → fits (line (clock_of f h) c) ≡ true
  line_fits h c e = rw (le-leb (clock_of f h) 4294967295 (omega arith)) e

  one_fits : (h : History) (c : ℕ) → ltb c 256 ≡ true → every fits (line (clock_of f h) c ∷ []) ≡ true
  unfolding every
  one_fits h c e = rw (line_fits h c e)

  more_fit : (h : History) (c : ℕ) (xs : List Line) → ltb c 256 ≡ true → every fits xs ≡ true → every fits (line (clock_of f h) c ∷ xs) ≡ true
  unfolding every
  more_fit h c xs e r = rw (line_fits h c e) r

  when_fits : (b : Bool) (xs : List Line) → every fits xs ≡ true → every fits (when b xs) ≡ true
  unfolding every
  when_fits true xs r = r
  when_fits false xs r = refl

  -- the lines of the firings
  gathered_fit : (lines : ℕ → List Line) → ((k : ℕ) → every fits (lines k) ≡ true) → (ks : List ℕ) → every fits (gathered lines ks) ≡ true
  unfolding gathered
  gathered_fit lines e [] = none_fit
  gathered_fit lines e (k ∷ ks) = every_append fits (lines k) (gathered lines ks) (e k) (gathered_fit lines e ks)

  firing_fits : (e : Effect) (h : History) (k : ℕ) → every fits (firing_lines f e h k) ≡ true
  firing_fits e h k =
      let before = observations f k h in
      let after = observations f k (e ∷ h) in
      every_append fits _ _ (when_fits (fires_over before after) _ (one_fits (e ∷ h) 65 refl))
      (when_fits (fires_under before after) _ (one_fits (e ∷ h) 66 refl))

  -- a line 67
  change_fits : (h : History) (before after : ℕ → ℤ) → every fits (change_lines f (clock_of f h) before after) ≡ true
  change_fits h before after = when_fits (any (λ k. not (eq_z (before k) (after k))) (monitored_values f)) _ (one_fits h 67 refl)

  local_byte : (b : Bool) → ltb (cond b 69 64) 256 ≡ true
  local_byte true = refl
  local_byte false = refl

  request_byte : (q : RequestCall) (to : ℕ) → ltb (request_code q to) 256 ≡ true
  request_byte remote_disconnect to = refl
  request_byte remote_reconnect to = go (eqb to 1)
    where
      go : (b : Bool) → ltb (cond b 63 59) 256 ≡ true
      go true = refl
      go false = refl
  request_byte manual_disconnect to = refl
  request_byte manual_reconnect to = refl

  row_byte : (r : EventRow) → lawful r ≡ true → ltb r.code 256 ≡ true
  unfolding lawful
  row_byte r e = and_right (is_log r.log) (ltb r.code 256) (and_left (is_log r.log && ltb r.code 256) (position r.alarm && position r.error) e)

  clear_byte : (s : WhichRegister) → ltb (clear_code s) 256 ≡ true
  clear_byte alarms = refl
  clear_byte errors = refl

  owed_by_fits : (n : ℕ) (e : Effect) (h : History) → Proper (mode_of f h) e → every fits (owed_by f n e h) ≡ true
  owed_by_fits n (sampled ps) h g =
      let after = sampled ps ∷ h in
      let to = switch_of f after in
      when_fits (eqb n 3) _
      (every_append fits _ _ (change_fits after (λ k. threshold_in_force f k h) (λ k. threshold_at f k ps h))
      (every_append fits _ _ (gathered_fit (firing_lines f (sampled ps) h) (firing_fits (sampled ps) h) (monitored_values f))
      (every_append fits _ _ (when_fits (moves f (sampled ps) h) _ (one_fits after (local_code to) (local_byte (eqb to 1))))
      (change_fits after (λ k. threshold_at f k ps h) (λ k. threshold_in_force f k after)))))
  owed_by_fits n (requested q) h g =
      when_fits (eqb n 3 && moves f (requested q) h) _ (one_fits (requested q ∷ h) (request_code q (switch_of f (requested q ∷ h))) (request_byte q _))
  owed_by_fits n (mode_set m) h g = when_fits (eqb n 3 && moves f (mode_set m) h) _ (one_fits (mode_set m ∷ h) 63 refl)
  owed_by_fits n (limits_set t o u) h g = when_fits (eqb n 3) _ (one_fits (limits_set t o u ∷ h) 67 refl)
  owed_by_fits n (clock_set t) h g = when_fits (eqb n 1) _ (more_fit h 4 _ refl (one_fits (clock_set t ∷ h) 5 refl))
  owed_by_fits n (occurred r) h g = when_fits (eqb n r.log) _ (one_fits (occurred r ∷ h) r.code (row_byte r g))
  owed_by_fits n (filter_set s m) h g = none_fit
  owed_by_fits n (bits_cleared s m) h g = when_fits (eqb n 1) _ (one_fits (bits_cleared s m ∷ h) (clear_code s) (clear_byte s))
  owed_by_fits n (log_cleared m) h g = when_fits (eqb n m) _ (one_fits (log_cleared m ∷ h) 255 refl)
  owed_by_fits n (groups_set ids) h g = none_fit
  owed_by_fits n (profile_set w) h g =
      when_fits (eqb n 3) _ (change_fits (profile_set w ∷ h) (λ k. threshold_in_force f k h) (λ k. threshold_in_force f k (profile_set w ∷ h)))

  owed_fits : (n : ℕ) (h : History) → AllProper f h → every fits (owed f n h) ≡ true
  unfolding owed
  owed_fits n [] none = none_fit
  owed_fits n (e ∷ h) (more g a) =
      every_append fits (when (not (clears_log n e)) (owed f n h)) (owed_by f n e h)
      (when_fits (not (clears_log n e)) (owed f n h) (owed_fits n h a)) (owed_by_fits n e h g)

  pub log_fits : (n : ℕ) (h : History) → AllProper f h → every fits (log_of f n h) ≡ true
  unfolding newest
  log_fits n h a = every_drop fits (length (owed f n h) - 32) (owed f n h) (owed_fits n h a)
