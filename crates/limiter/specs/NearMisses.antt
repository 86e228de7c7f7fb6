-- Settings and runs one step from sound, beside the last that are sound.
use Rattle.std.specs.Prelude.{◌≡◌, Bool, true, false, [], ◌∷◌, map, ℕ, ℤ, pos, negsuc}
use Rattle.limiter.specs.Limiter.{sound_limiter}

-- whether a limiter of this threshold, Over, Under, Exceeded and Run is sound
abbrev pub sound_with : ℤ → ℕ → ℕ → Bool → ℕ → Bool
sound_with t o u e n = sound_limiter (record { threshold = t; over = o; under = u; exceeded = e; run = n })

-- in document 01's order; a duration is tested where the other one is awaited
pub record NearMisses : Type 0 where
  -- 'Threshold in watts, 0 to 2,147,483,647'
  pub thresholds :
      map (λ t. sound_with t 5 9 false 0) (negsuc 0 ∷ pos 0 ∷ pos 2147483647 ∷ pos 2147483648 ∷ []) ≡ false ∷ true ∷ true ∷ false ∷ []
  -- 'Two durations, Over and Under, 1 to 86,400 samples'
  pub overs : map (λ o. sound_with (pos 3000) o 9 true 0) (0 ∷ 1 ∷ 86400 ∷ 86401 ∷ []) ≡ false ∷ true ∷ true ∷ false ∷ []
  pub unders : map (λ u. sound_with (pos 3000) 5 u false 0) (0 ∷ 1 ∷ 86400 ∷ 86401 ∷ []) ≡ false ∷ true ∷ true ∷ false ∷ []
  -- 'Run is below Over (not Exceeded) or below Under (Exceeded)'
  pub runs : map (sound_with (pos 3000) 5 9 false) (4 ∷ 5 ∷ []) ≡ true ∷ false ∷ []
  pub exceeded_runs : map (sound_with (pos 3000) 5 9 true) (8 ∷ 9 ∷ []) ≡ true ∷ false ∷ []
