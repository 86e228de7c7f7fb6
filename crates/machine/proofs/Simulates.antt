-- After any list of calls the machine's values are those that the account names: fresh, after one more accepted call, after a refused one. For
-- any number of monitored values.
use Prim.Native.Nat.{ℕ, suc, ◌+◌}
use native.Mathlib.Omega.{arith}
use mathlib.Core.Path.{◌≡◌, refl, ap, sym, ◌∙◌}
use mathlib.Core.Bool.{true, cond, and-not_self}
use mathlib.Core.List.{List, [], ◌∷◌, map, reverse, reverse_aux}
use lib.Dec.{eqb}
use Rattle.base.specs.Numbers.{held}
use Rattle.base.specs.Bits.{number, how_many}
use Rattle.base.specs.Tests.{every}
use Rattle.events.specs.Line.{newest}
use Rattle.events.specs.Table.{EventRow, lawful}
use Rattle.calls.specs.Calls.{Word}
use Rattle.history.specs.Effects.{AnyFresh, AnyCall, alarms, errors, Effect, Reading, refused, accepted, reading, sampled, requested, mode_set, limits_set}
use Rattle.history.specs.Effects.{clock_set, occurred, filter_set, bits_cleared, log_cleared, groups_set, profile_set}
use Rattle.history.specs.Last.{History, last, samples_since, mode_of}
use Rattle.history.specs.Profile.{groups_of, clocks_since, ProfileState, no_profile, waiting, active, profile_state}
use Rattle.history.proofs.Profiles.{profile_waits}
use Rattle.emergency.specs.Emergency.{padded, groups_in, with_groups, with_profile}
use Rattle.history.specs.Limiter.{exceeded, trailing, since_setting, monitored_values}
use Rattle.history.specs.Switch.{spell, observations, switch_of}
use Rattle.history.specs.Registers.{stands}
use Rattle.history.specs.Logs.{owed}
use Rattle.history.specs.Letters.{letter_read, letter_after}
use Rattle.history.specs.Account.{monitored_of, grown, accepted_calls, opens, openings, account_of, account_after}
use Rattle.machine.specs.Values.{Values, State}
use Rattle.machine.specs.Sound.{sound_state}
use Rattle.machine.specs.Machine.{state_after, result}
use Rattle.machine.specs.Ranges.{AnySettings, AnyInRange, AllAnyInRange}
use Rattle.machine.specs.Fresh.{fresh_limiter, fresh_values}
use Rattle.machine.specs.Holding.{limiter_holding, emergency_of, values_holding}
use Rattle.machine.proofs.Lists.{map_map, by_number}
use Rattle.machine.proofs.Effects.{effect_result, read_result, Proper, AllProper, none, more, held_limiters, held_emergency, held_values}
use Rattle.machine.proofs.Effects.{next_openings}
use Rattle.machine.specs.Laws.{after_result, state_after_calls, letter_in, Laws}
use Rattle.machine.proofs.Answers.{by_reading, proper}
use Rattle.machine.proofs.Ranges.{groups_range}
use Rattle.machine.proofs.Profile.{profile_sampled, groups_back}
use Rattle.machine.proofs.Preserved.{kept_sound, fresh_sound}
use Rattle.machine.proofs.Clock.{clock_after}
use Rattle.machine.proofs.OtherParts.{other_parts, values_after}
use Rattle.machine.proofs.Registers.{register_after, count_after_lem}
use Rattle.machine.proofs.Switch.{control_kept, limiters_after_lem, letter_after_lem}
use Rattle.machine.proofs.Lines.{logs_after}
use Rattle.machine.proofs.Owed.{owing_after}

-- the account's monitored values, as limiters
limiters_held : (f : AnyFresh) (h : History) (n : ℕ) → map (limiter_holding (account_of f h n)) (account_of f h n).monitored ≡ held_limiters f h
limiters_held f h n = map_map (limiter_holding (account_of f h n)) (monitored_of f h) (monitored_values f)

-- the values that an account names, its limiters in one step
abbrev stated : AnyFresh → History → ℕ → State
stated f h n = record { values = held_values f h (held n); logs = (account_of f h n).logs }

held_stated : (f : AnyFresh) (h : History) (n : ℕ) → values_holding (account_of f h n) ≡ stated f h n
held_stated f h n =
    let v = (stated f h n).values in
    λ i. record {
      values = record { control = v.control; limiters = limiters_held f h n i; clock = v.clock; alarms = v.alarms; errors = v.errors; emergency = v.emergency };
      logs = (stated f h n).logs;
    }

-- groups and profile after any accepted call
emergency_after : (f : AnyFresh) (h : History) (n : ℕ) → AllProper f h → (e : Effect)
    → (effect_result (held_values f h (held n)) e).values.emergency ≡ held_emergency f (e ∷ h)
unfolding last clocks_since
emergency_after f h n all e = ap (λ (v : Values). v.emergency) (values_after (held_values f h (held n)) e) ∙ go e
  where
    go : (e : Effect) → (other_parts (held_values f h (held n)) e).emergency ≡ held_emergency f (e ∷ h)
    go (sampled ps) = profile_sampled f h ps all
    go (requested q) = refl
    go (mode_set m) = refl
    go (limits_set ts o u) = refl
    go (clock_set t) = refl
    go (occurred r) = refl
    go (filter_set alarms m) = refl
    go (filter_set errors m) = refl
    go (bits_cleared alarms m) = refl
    go (bits_cleared errors m) = refl
    go (log_cleared m) = refl
    go (groups_set g) = grouped (profile_state f h)
      where
        grouped : (x : ProfileState) → with_groups (emergency_of (groups_of h) x) g ≡ emergency_of g x
        grouped no_profile = refl
        grouped (waiting w) = refl
        grouped (active w k) = refl
    go (profile_set w) = replaced (profile_state f h) ∙ ap (emergency_of (groups_of h)) (sym (profile_waits f h w))
      where
        replaced : (x : ProfileState)
            → with_profile (emergency_of (groups_of h) x) w.id w.threshold w.activation w.duration ≡ emergency_of (groups_of h) (waiting w)
        replaced no_profile = refl
        replaced (waiting v) = refl
        replaced (active v k) = refl

-- one more accepted call
stated_after : (f : AnyFresh) (h : History) (e : Effect) (n : ℕ) → AnySettings f → AllProper f h → Proper (mode_of f h) e
    → state_after (stated f h n) (effect_result (held_values f h (held n)) e) ≡ stated f (e ∷ h) (next_openings f e h n)
stated_after f h e n t all g =
    let s = held_values f h (held n) in
    λ i. record {
      values =
          record {
            control = control_kept f h e n t all g i;
            limiters = limiters_after_lem f h e n t all g i;
            clock = clock_after f h s refl e g i;
            alarms = record { register = register_after f h s all alarms e g refl i; count = count_after_lem f h s all e g refl i };
            errors = register_after f h s all errors e g refl i;
            emergency = emergency_after f h n all e i;
          };
      logs = logs_after f e h (effect_result s e) (owing_after f h n t all e g) i;
    }

pub effect_after : (f : AnyFresh) (h : History) (e : Effect) (n : ℕ) → AnySettings f → AllProper f h → Proper (mode_of f h) e
    → (let v = values_holding (account_of f h n) in state_after v (effect_result v.values e)) ≡ values_holding (account_of f (e ∷ h) (next_openings f e h n))
effect_after f h e n t all g =
    ap (λ (v : State). state_after v (effect_result v.values e)) (held_stated f h n)
    ∙ stated_after f h e n t all g
    ∙ sym (held_stated f (e ∷ h) (next_openings f e h n))

-- no call: a fresh meter's values are those that the account of no call names
pub fresh_values_lem : (f : AnyFresh) → AnySettings f → fresh_values f ≡ values_holding (account_of f [] 0)
unfolding last samples_since observations exceeded trailing since_setting spell switch_of stands number how_many owed newest padded
fresh_values_lem f t =
    let v = fresh_values f in
    λ i. record {
      values =
          record {
            control = v.values.control;
            limiters = (by_number (fresh_limiter f) f.thresholds ∙ sym (limiters_held f [] 0)) i;
            clock = word f.clock t.clock i;
            alarms = v.values.alarms;
            errors = v.values.errors;
            emergency = v.values.emergency;
          };
      logs = v.logs;
    }
  where
    word : (n : ℕ) → Word n → n ≡ held (n + 0)
    word n w = omega arith

-- ---- a whole list of calls
-- the calls of a list are in range in any order
in_range_onto : (calls before : List AnyCall) → AllAnyInRange calls → AllAnyInRange before → AllAnyInRange (reverse_aux calls before)
in_range_onto [] before i k = k
in_range_onto (c ∷ calls) before i k = in_range_onto calls (c ∷ before) i.1 (i.0, k)

in_reverse : (calls : List AnyCall) → AllAnyInRange calls → AllAnyInRange (reverse calls)
in_reverse calls i = in_range_onto calls [] i tt

-- a refused call changes no prefix's account
refused_openings : (s n : ℕ) → cond (opens s s) (suc n) n ≡ n
refused_openings s n = rw (and-not_self (eqb s 1))

module _ (rows : List EventRow) (table : every lawful rows ≡ true) (f : AnyFresh) (t : AnySettings f) where
  -- the values that the account of a list names; newest call first
  abbrev pub named : List AnyCall → State
  named cs = values_holding (account_after rows f cs)

  -- the accepted calls of a list are proper
  pub all_proper : (cs : List AnyCall) → AllAnyInRange cs → AllProper f (accepted_calls rows f cs)
  unfolding accepted_calls
  all_proper [] i = none
  all_proper (c ∷ cs) i = go (reading rows m gs c) refl (all_proper cs i.1)
    where
      h : History
      h = accepted_calls rows f cs

      m : ℕ
      m = mode_of f h

      gs : List ℕ
      gs = groups_of h

      go : (x : Reading) → reading rows m gs c ≡ x → AllProper f h → AllProper f (grown x h)
      go (refused n) e a = a
      go (accepted x) e a = more (proper rows table m gs (groups_range f h a) c x i.0 e) a

  -- one more call, accepted or refused
  pub next : (c : AnyCall) (cs : List AnyCall) → AnyInRange c → AllAnyInRange cs
      → after_result (named cs) (result rows (named cs).values c) ≡ named (c ∷ cs)
  unfolding accepted_calls openings
  next c cs i k =
      rw (by_reading rows (named cs).values c, groups_back (groups_of h) (profile_state f h)) (go (reading rows (mode_of f h) (groups_of h) c) refl)
    where
      h : History
      h = accepted_calls rows f cs

      n : ℕ
      n = openings rows f cs

      go : (x : Reading) → reading rows (mode_of f h) (groups_of h) c ≡ x
          → after_result (named cs) (read_result (named cs).values x)
          ≡ values_holding (account_of f (grown x h) (cond (opens (switch_of f h) (switch_of f (grown x h))) (suc n) n))
      go (refused k) e = ap (λ (o : ℕ). values_holding (account_of f h o)) (sym (refused_openings (switch_of f h) n))
      go (accepted x) e = effect_after f h x n t (all_proper cs k) (proper rows table (mode_of f h) (groups_of h) (groups_range f h (all_proper cs k)) c x i e)

  -- the values that the account names are sound
  pub named_sound : (cs : List AnyCall) → AllAnyInRange cs → sound_state rows (named cs) ≡ true
  unfolding accepted_calls openings
  named_sound [] i = rw (← fresh_values_lem f t) (fresh_sound rows f t)
  named_sound (c ∷ cs) i = rw (← next c cs i.0 i.1) (kept_sound rows table (named cs) c i.0 (named_sound cs i.1))

  -- after some calls, newest first, and then others, in their order
  holds_from : (before calls : List AnyCall) → AllAnyInRange before → AllAnyInRange calls
      → state_after_calls rows (named before) calls ≡ named (reverse_aux calls before)
  unfolding state_after_calls
  holds_from before [] i k = refl
  holds_from before (c ∷ calls) i k =
      ap (λ (s : State). state_after_calls rows s calls) (next c before k.0 i) ∙ holds_from (c ∷ before) calls (k.0, i) k.1

  -- after any list of calls
  after_calls : (calls : List AnyCall) → AllAnyInRange calls → state_after_calls rows (fresh_values f) calls ≡ named (reverse calls)
  unfolding accepted_calls openings
  after_calls calls i = ap (λ (s : State). state_after_calls rows s calls) (fresh_values_lem f t) ∙ holds_from [] calls tt i

  -- the letter of one more call on the values that the account names; `cs` newest first
  pub named_letter_lem : (c : AnyCall) (cs : List AnyCall) → AnyInRange c → AllAnyInRange cs → letter_in (result rows (named cs).values c) ≡ letter_after rows f cs c
  named_letter_lem c cs i k =
      ap letter_in (by_reading rows (named cs).values c)
      ∙ ap (λ (v : State). letter_in (read_result v.values (reading rows (mode_of f h) (groups_in v.values.emergency) c))) (held_stated f h (openings rows f cs))
      ∙ ap (λ (gs : List ℕ). letter_in (read_result (held_values f h (held (openings rows f cs))) (reading rows (mode_of f h) gs c)))
      (groups_back (groups_of h) (profile_state f h))
      ∙ go (reading rows (mode_of f h) (groups_of h) c) refl
    where
      h : History
      h = accepted_calls rows f cs

      go : (x : Reading) → reading rows (mode_of f h) (groups_of h) c ≡ x
          → letter_in (read_result (held_values f h (held (openings rows f cs))) x) ≡ letter_read f x h
      go (refused m) e = refl
      go (accepted x) e = letter_after_lem f h x (openings rows f cs) t (all_proper cs k) (proper rows table (mode_of f h) (groups_of h) (groups_range f h (all_proper cs k)) c x i e)

pub laws : Laws
laws =
    record {
      simulates = λ rows f calls table t i. after_calls rows table f t calls i;
      letters = λ rows f calls c table t i.
          ap (λ (s : State). letter_in (result rows s.values c)) (after_calls rows table f t calls i.1)
          ∙ named_letter_lem rows table f t c (reverse calls) i.0 (in_reverse calls i.1);
    }
