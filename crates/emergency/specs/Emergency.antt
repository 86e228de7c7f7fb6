-- The emergency profile and the group ids (document 02, A3; DLMS class 71), by the fields of the ninth area: 'id 2, threshold 4, activation 4, duration 4,
-- samples left 4, state 1 (0 none, 1 waiting, 2 active), count 1, ids 16'.
use Rattle.std.specs.Prelude.{◌≡◌, ℕ, ◌-◌, Bool, ◌&&◌, ◌||◌, cond, List, ◌++◌, eqb, leb, ltb, ℤ, pos, length, take, get_or, replicate, Option, Some, None}
use Rattle.base.specs.Tests.{within, among, below, eq_z}
use Rattle.limiter.specs.Limiter.{is_threshold}
use Rattle.emergency.specs.declared.Emergency.{Emergency}

-- 'with state 0 the first five are zero'
abbrev pub is_empty : Emergency → Bool
is_empty e = eqb e.id 0 && (eq_z e.threshold (pos 0) && (eqb e.activation 0 && (eqb e.duration 0 && eqb e.left 0)))

-- kind 17's range: 'duration outside 1 to 604,800' is refused
abbrev pub is_duration : ℕ → Bool
is_duration n = within 1 604800 n

-- '.. threshold and duration then within kind 17's ranges ..'
abbrev pub in_ranges : Emergency → Bool
in_ranges e = is_duration e.duration && is_threshold e.threshold

-- 'with state 0 the first five are zero; samples left equals the duration while waiting and is 1 to the duration while active, threshold and duration then
-- within kind 17's ranges; state is at most 2'
abbrev pub sound_profile : Emergency → Bool
sound_profile e =
    cond (eqb e.state 0) (is_empty e)
    (cond (eqb e.state 1) (eqb e.left e.duration && in_ranges e)
    (eqb e.state 2 && (within 1 e.duration e.left && in_ranges e)))

-- '.. count at most 8, ids past the count are zero'
abbrev pub sound_ids : ℕ → List ℕ → Bool
sound_ids n ids = leb n 8 && below 8 (λ i. ltb i n || eqb (get_or ids i 0) 0)

-- of a record
abbrev pub sound_groups : Emergency → Bool
sound_groups e = sound_ids e.count e.ids

-- 'Sound means: ..'
unfoldable pub sound_emergency : Emergency → Bool
sound_emergency e = sound_profile e && sound_groups e

-- the array has its type's length
abbrev pub EightIds : Emergency → Type 0
EightIds e = length e.ids ≡ 8

-- the group ids
abbrev pub groups_in : Emergency → List ℕ
groups_in e = take e.count e.ids

-- in eight places, zeros past them
unfoldable pub padded : List ℕ → List ℕ
padded gs = gs ++ replicate (8 - length gs) 0

-- '15, id not in the group (kind 17)': the id where it is in the group
abbrev pub listed_of : List ℕ → ℕ → Option ℕ
listed_of gs id = cond (among gs id) (Some id) None

-- 'Kind 16 sets up to eight group ids'
abbrev pub with_groups : Emergency → List ℕ → Emergency
with_groups e gs =
    record {
      id = e.id;
      threshold = e.threshold;
      activation = e.activation;
      duration = e.duration;
      left = e.left;
      state = e.state;
      count = length gs;
      ids = padded gs;
    }

-- a profile of this id, threshold, activation, duration, samples left and state over the same group ids
abbrev pub with_fields : Emergency → ℕ → ℤ → ℕ → ℕ → ℕ → ℕ → Emergency
with_fields e i t a d n s = record { id = i; threshold = t; activation = a; duration = d; left = n; state = s; count = e.count; ids = e.ids }

-- kind 17: 'It replaces any earlier profile and waits'
abbrev pub with_profile : Emergency → ℕ → ℤ → ℕ → ℕ → Emergency
with_profile e i t a d = with_fields e i t a d d 1

-- 'with state 0 the first five are zero'
abbrev pub without_profile : Emergency → Emergency
without_profile e = with_fields e 0 (pos 0) 0 0 0 0

-- 'It goes active with the first sample whose advanced clock has reached activation ..'
abbrev pub started : ℕ → Emergency → Emergency
started clock e =
    cond (eqb e.state 1 && leb e.activation clock)
    (with_fields e e.id e.threshold e.activation e.duration e.left 2)
    e

-- '.. and governs that many samples, that one included'; 'after the last governed sample the state is 0'
abbrev pub ended : Emergency → Emergency
ended e =
    cond (eqb e.state 2)
    (cond (leb e.left 1) (without_profile e) (with_fields e e.id e.threshold e.activation e.duration (e.left - 1) e.state))
    e

-- 'the threshold in force': the profile's while it is active, else the limiter's own
abbrev pub in_force : Emergency → ℤ → ℤ
in_force e normal = cond (eqb e.state 2) e.threshold normal

-- no profile and no group ids
abbrev pub no_emergency : Emergency
no_emergency = record { id = 0; threshold = pos 0; activation = 0; duration = 0; left = 0; state = 0; count = 0; ids = replicate 8 0 }
