-- What the steps of a profile's life come to, apart from its fields.
use Rattle.std.specs.Prelude.{◌≡◌, true, ◌&&◌, cond, List, ℕ, zero, suc, ◌<◌, ◌≤◌, ltb, ℤ, length}
use Rattle.limiter.specs.Limiter.{is_threshold}
use Rattle.emergency.specs.declared.Emergency.{Emergency}
use Rattle.emergency.specs.Emergency.{is_duration, sound_emergency, groups_in, with_fields, with_groups, with_profile, without_profile, started, ended, in_force}

-- after that many samples, by what comes behind each
unfoldable pub after_governed : ℕ → Emergency → Emergency
after_governed zero e = e
after_governed (suc k) e = after_governed k (ended e)

-- of every area
pub record LawsOf (e : Emergency) : Type 0 where
  -- each step keeps a sound one sound, a new profile within kind 17's ranges and at most eight group ids
  pub start_sound : (clock : ℕ) → sound_emergency e ≡ true → sound_emergency (started clock e) ≡ true
  pub end_sound : sound_emergency e ≡ true → sound_emergency (ended e) ≡ true
  pub profile_sound : (i : ℕ) (t : ℤ) (a d : ℕ) → is_duration d && is_threshold t ≡ true → sound_emergency e ≡ true
      → sound_emergency (with_profile e i t a d) ≡ true
  pub groups_sound : (gs : List ℕ) → length gs ≤ 8 → sound_emergency e ≡ true → sound_emergency (with_groups e gs) ≡ true
  -- 'It replaces any earlier profile and waits': whatever was in force, the limiter's own threshold is
  pub waits : (i : ℕ) (t : ℤ) (a d : ℕ) (normal : ℤ) → in_force (with_profile e i t a d) normal ≡ normal
  -- 'It goes active with the first sample whose advanced clock has reached activation': none before changes anything
  pub before_activation : (i : ℕ) (t : ℤ) (a d clock : ℕ) → clock < a → started clock (with_profile e i t a d) ≡ with_profile e i t a d
  pub not_governed : (i : ℕ) (t : ℤ) (a d : ℕ) → ended (with_profile e i t a d) ≡ with_profile e i t a d
  -- '.. and governs that many samples, that one included': its threshold is in force for them, and then the limiter's own again
  pub governs : (i : ℕ) (t : ℤ) (a d clock : ℕ) (k : ℕ) (normal : ℤ) → a ≤ clock → 1 ≤ d
      → in_force (after_governed k (started clock (with_profile e i t a d))) normal ≡ cond (ltb k d) t normal
  -- 'after the last governed sample the state is 0 and the account has no profile': all its fields are zero
  pub gone : (i : ℕ) (t : ℤ) (a d clock : ℕ) → a ≤ clock → 1 ≤ d → after_governed d (started clock (with_profile e i t a d)) ≡ without_profile e
  -- a start changes nothing but the state
  pub only_state : (clock : ℕ) → started clock e ≡ with_fields e e.id e.threshold e.activation e.duration e.left (started clock e).state
  -- the group ids stay over a profile's life
  pub start_groups : (clock : ℕ) → groups_in (started clock e) ≡ groups_in e
  pub end_groups : groups_in (ended e) ≡ groups_in e
  pub profile_groups : (i : ℕ) (t : ℤ) (a d : ℕ) → groups_in (with_profile e i t a d) ≡ groups_in e
  -- new ones are those that were given
  pub new_groups : (gs : List ℕ) → groups_in (with_groups e gs) ≡ gs
  -- 'new groups don't end it': a profile's life is the same under them
  pub groups_then_start : (gs : List ℕ) (clock : ℕ) → started clock (with_groups e gs) ≡ with_groups (started clock e) gs
  pub groups_then_end : (gs : List ℕ) → ended (with_groups e gs) ≡ with_groups (ended e) gs

-- of them all
abbrev pub Laws : Type 0
Laws = (e : Emergency) → LawsOf e
