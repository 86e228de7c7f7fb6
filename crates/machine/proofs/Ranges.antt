-- The mode, the limiter settings, the filters, the groups and the profile of a history are in range, since each accepted call's numbers are.
use Prim.Native.Nat.{ℕ, ◌≤◌}
use native.Mathlib.Omega.{arith}
use mathlib.Core.Path.{◌≡◌, refl}
use mathlib.Core.Bool.{true}
use mathlib.Core.List.{[], ◌∷◌}
use mathlib.Core.Option.{Option, none, some}
use lib.Dec.{leb}
use borrow.Author.Tests.{leb-true}
use Rattle.base.specs.Tests.{within, every}
use Rattle.base.proofs.Bools.{and_left}
use Rattle.calls.specs.Calls.{Word}
use Rattle.history.specs.Effects.{AnyFresh, WhichRegister, alarms, errors, Effect, sampled, requested, mode_set, limits_set, clock_set, occurred, filter_set}
use Rattle.history.specs.Effects.{bits_cleared, log_cleared, groups_set, profile_set, Profile}
use Rattle.history.specs.Last.{History, last, otherwise, mode_in, mode_of, Limits, limits, limits_in, limits_of, filter_in, filter_of}
use Rattle.history.specs.Profile.{groups_in, groups_of, profile_in, profile_of}
use Rattle.machine.specs.Ranges.{is_id, AnySettings}
use Rattle.machine.proofs.Effects.{Proper, AllProper, none as no_call, more}

module _ {A : Type 0} (P : A → Type 0) where
  -- what holds of a value, if there is one
  abbrev pub IfAny : Option A → Type 0
  IfAny none = Unit
  IfAny (some a) = P a

  otherwise_holds : (o : Option A) (a : A) → IfAny o → P a → P (otherwise o a)
  otherwise_holds none a g p = p
  otherwise_holds (some b) a g p = g

  -- what holds of the fresh value and of each that an accepted call gives holds of the last
  pub last_holds : (pick : Effect → History → Option A) (a : A) (f : AnyFresh) → P a
      → ((e : Effect) (h : History) → Proper (mode_of f h) e → IfAny (pick e h)) → (h : History) → AllProper f h → P (last pick a h)
  unfolding last
  last_holds pick a f p k [] no_call = p
  last_holds pick a f p k (e ∷ h) (more g r) = otherwise_holds (pick e h) (last pick a h) (k e h g) (last_holds pick a f p k h r)

-- 'Mode 0–6'
pub mode_range : (f : AnyFresh) → AnySettings f → (h : History) → AllProper f h → leb (mode_of f h) 6 ≡ true
mode_range f t = last_holds Range mode_in f.mode f t.mode each
  where
    Range : ℕ → Type 0
    Range n = leb n 6 ≡ true

    each : (e : Effect) (h : History) → Proper (mode_of f h) e → IfAny Range (mode_in e h)
    each (sampled p) h g = tt
    each (requested q) h g = tt
    each (mode_set n) h g = g
    each (limits_set t o u) h g = tt
    each (clock_set n) h g = tt
    each (occurred r) h g = tt
    each (filter_set s n) h g = tt
    each (bits_cleared s n) h g = tt
    each (log_cleared n) h g = tt
    each (groups_set ids) h g = tt
    each (profile_set w) h g = tt

-- a filter is a number of 32 bits
pub filter_word : (x : WhichRegister) (f : AnyFresh) (h : History) → AllProper f h → Word (filter_of x h)
filter_word x f = last_holds Word (filter_in x) 0 f (omega arith) (each x)
  where
    each : (x : WhichRegister) (e : Effect) (h : History) → Proper (mode_of f h) e → IfAny Word (filter_in x e h)
    each x (sampled p) h g = tt
    each x (requested q) h g = tt
    each x (mode_set n) h g = tt
    each x (limits_set t o u) h g = tt
    each x (clock_set n) h g = tt
    each x (occurred r) h g = tt
    each alarms (filter_set alarms n) h g = g
    each alarms (filter_set errors n) h g = tt
    each errors (filter_set alarms n) h g = tt
    each errors (filter_set errors n) h g = g
    each x (bits_cleared s n) h g = tt
    each x (log_cleared n) h g = tt
    each x (groups_set ids) h g = tt
    each x (profile_set w) h g = tt

-- 'Over and Under, 1 to 86,400'
abbrev pub DurationsInRange : Limits → Type 0
DurationsInRange l = (within 1 86400 l.over ≡ true) × (within 1 86400 l.under ≡ true)

pub durations_range : (f : AnyFresh) → AnySettings f → (h : History) → AllProper f h → DurationsInRange (limits_of f h)
durations_range f t = last_holds DurationsInRange limits_in (limits f.thresholds f.over f.under) f (t.over, t.under) each
  where
    each : (e : Effect) (h : History) → Proper (mode_of f h) e → IfAny DurationsInRange (limits_in e h)
    each (sampled p) h g = tt
    each (requested q) h g = tt
    each (mode_set n) h g = tt
    each (limits_set t o u) h g = g.1
    each (clock_set n) h g = tt
    each (occurred r) h g = tt
    each (filter_set s n) h g = tt
    each (bits_cleared s n) h g = tt
    each (log_cleared n) h g = tt
    each (groups_set ids) h g = tt
    each (profile_set w) h g = tt

-- a profile's duration is at least 1, its id has 16 bits, its activation clock 32
abbrev pub Kept : Option Profile → Type 0
Kept none = Unit
Kept (some w) = (1 ≤ w.duration) × ((is_id w.id ≡ true) × Word w.activation)

pub profile_range : (f : AnyFresh) (h : History) → AllProper f h → Kept (profile_of h)
profile_range f = last_holds Kept profile_in none f tt each
  where
    each : (e : Effect) (h : History) → Proper (mode_of f h) e → IfAny Kept (profile_in e h)
    each (sampled p) h g = tt
    each (requested q) h g = tt
    each (mode_set n) h g = tt
    each (limits_set t o u) h g = tt
    each (clock_set n) h g = tt
    each (occurred r) h g = tt
    each (filter_set s n) h g = tt
    each (bits_cleared s n) h g = tt
    each (log_cleared n) h g = tt
    each (groups_set ids) h g = tt
    each (profile_set w) h g = (leb-true 1 w.duration (and_left (leb 1 w.duration) (leb w.duration 604800) g.0), g.1)

no_ids : every is_id [] ≡ true
unfolding every
no_ids = refl

-- group ids have 16 bits
pub groups_range : (f : AnyFresh) (h : History) → AllProper f h → every is_id (groups_of h) ≡ true
groups_range f = last_holds (λ ids. every is_id ids ≡ true) groups_in [] f no_ids each
  where
    each : (e : Effect) (h : History) → Proper (mode_of f h) e → IfAny (λ ids. every is_id ids ≡ true) (groups_in e h)
    each (sampled p) h g = tt
    each (requested q) h g = tt
    each (mode_set n) h g = tt
    each (limits_set t o u) h g = tt
    each (clock_set n) h g = tt
    each (occurred r) h g = tt
    each (filter_set s n) h g = tt
    each (bits_cleared s n) h g = tt
    each (log_cleared n) h g = tt
    each (groups_set ids) h g = g
    each (profile_set w) h g = tt
