-- Modes and switches one step from sound, beside the last that are sound.
use Rattle.std.specs.Prelude.{◌≡◌, Bool, true, false, [], ◌∷◌, map, ℕ}
use Rattle.control.specs.Control.{sound_control}

-- whether a mode and a switch are sound
abbrev pub sound_at : ℕ → ℕ → Bool
sound_at mode switch = sound_control (record { mode = mode; state = switch; openings = 0 })

-- in document 01's order
pub record NearMisses : Type 0 where
  -- 'Mode 0–6'
  pub modes : map (λ m. sound_at m 1) (0 ∷ 6 ∷ 7 ∷ []) ≡ true ∷ true ∷ false ∷ []
  -- 'Switch: 0 Disconnected, 1 Connected, 2 Ready for reconnection'
  pub switches : map (sound_at 1) (0 ∷ 1 ∷ 2 ∷ 3 ∷ []) ≡ true ∷ true ∷ true ∷ false ∷ []
  -- 'mode 0 has switch 1'
  pub mode_zero : map (sound_at 0) (0 ∷ 1 ∷ 2 ∷ []) ≡ false ∷ true ∷ false ∷ []
