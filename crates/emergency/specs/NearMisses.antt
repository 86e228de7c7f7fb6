-- Profiles and group ids one step from sound, beside the last that are sound.
use Rattle.std.specs.Prelude.{◌≡◌, Bool, true, false, List, [], ◌∷◌, map, ℕ, ℤ, pos, negsuc, set, replicate}
use Rattle.emergency.specs.Emergency.{sound_emergency, with_fields, no_emergency}

-- whether a profile of this id, threshold, activation, duration, samples left and state is sound, over no group ids
abbrev pub sound_with : ℕ → ℤ → ℕ → ℕ → ℕ → ℕ → Bool
sound_with i t a d n s = sound_emergency (with_fields no_emergency i t a d n s)

-- whether this count and these ids are, without a profile
abbrev pub sound_ids_with : ℕ → List ℕ → Bool
sound_ids_with n ids = sound_emergency (record { id = 0; threshold = pos 0; activation = 0; duration = 0; left = 0; state = 0; count = n; ids = ids })

-- the id 9 at one place of eight
abbrev pub one_at : ℕ → List ℕ
one_at k = set (replicate 8 0) k 9

-- in document 02's order
pub record NearMisses : Type 0 where
  -- 'with state 0 the first five are zero': each of them 1
  pub no_profile :
      sound_with 0 (pos 0) 0 0 0 0 ∷ sound_with 1 (pos 0) 0 0 0 0 ∷ sound_with 0 (pos 1) 0 0 0 0 ∷ sound_with 0 (negsuc 0) 0 0 0 0 ∷ sound_with 0 (pos 0) 1 0 0 0
      ∷ sound_with 0 (pos 0) 0 1 0 0 ∷ sound_with 0 (pos 0) 0 0 1 0 ∷ []
      ≡ true ∷ false ∷ false ∷ false ∷ false ∷ false ∷ false ∷ []
  -- 'samples left equals the duration while waiting'
  pub waiting_left : map (λ n. sound_with 9 (pos 2000) 1000 5 n 1) (0 ∷ 4 ∷ 5 ∷ 6 ∷ []) ≡ false ∷ false ∷ true ∷ false ∷ []
  -- '.. and is 1 to the duration while active'
  pub active_left : map (λ n. sound_with 9 (pos 2000) 1000 5 n 2) (0 ∷ 1 ∷ 5 ∷ 6 ∷ []) ≡ false ∷ true ∷ true ∷ false ∷ []
  -- 'threshold and duration then within kind 17's ranges'
  pub waiting_thresholds :
      map (λ t. sound_with 9 t 1000 5 5 1) (negsuc 0 ∷ pos 0 ∷ pos 2147483647 ∷ pos 2147483648 ∷ []) ≡ false ∷ true ∷ true ∷ false ∷ []
  pub active_thresholds :
      map (λ t. sound_with 9 t 1000 5 5 2) (negsuc 0 ∷ pos 0 ∷ pos 2147483647 ∷ pos 2147483648 ∷ []) ≡ false ∷ true ∷ true ∷ false ∷ []
  pub waiting_durations : map (λ d. sound_with 9 (pos 2000) 1000 d d 1) (0 ∷ 1 ∷ 604800 ∷ 604801 ∷ []) ≡ false ∷ true ∷ true ∷ false ∷ []
  pub active_durations : map (λ d. sound_with 9 (pos 2000) 1000 d 1 2) (0 ∷ 1 ∷ 604800 ∷ 604801 ∷ []) ≡ false ∷ true ∷ true ∷ false ∷ []
  -- 'state is at most 2': with the fields of a profile, and without
  pub states : map (sound_with 9 (pos 2000) 1000 5 5) (0 ∷ 1 ∷ 2 ∷ 3 ∷ []) ≡ false ∷ true ∷ true ∷ false ∷ []
  pub empty_states : map (sound_with 0 (pos 0) 0 0 0) (0 ∷ 1 ∷ 2 ∷ 3 ∷ []) ≡ true ∷ false ∷ false ∷ false ∷ []
  -- 'count at most 8'
  pub counts : map (λ n. sound_ids_with n (replicate 8 9)) (7 ∷ 8 ∷ 9 ∷ []) ≡ false ∷ true ∷ false ∷ []
  -- 'ids past the count are zero': the id before the count, at it, and at the last place
  pub ids : map (λ k. sound_ids_with 3 (one_at k)) (2 ∷ 3 ∷ 7 ∷ []) ≡ true ∷ false ∷ false ∷ []
  pub first_ids : map (λ n. sound_ids_with n (one_at 0)) (0 ∷ 1 ∷ []) ≡ false ∷ true ∷ []
