-- The switch table of document 01, as data.
use Rattle.std.specs.Prelude.{ℕ, List, [], ◌∷◌}
use Rattle.calls.specs.declared.Letter.{Letter}
use Rattle.calls.specs.declared.Letter.TheVariants.{A, B, C, D, E, F, G, H}
use Rattle.control.specs.declared.Request.{Request}
use Rattle.control.specs.declared.Request.TheVariants.{RemoteDisconnect, RemoteReconnect, ManualDisconnect, ManualReconnect, LocalDisconnect}
use Rattle.control.specs.declared.Request.TheVariants.{LocalReconnect}

-- a row: 'Move | Modes | From → to | Line in log 3'
pub record SwitchRow : Type 0 where
  pub letter : Letter
  pub request : Request
  pub modes : List ℕ
  pub from : ℕ
  pub to : ℕ
  pub code : ℕ

-- a row by its columns
abbrev pub switch_row : Letter → Request → List ℕ → ℕ → ℕ → ℕ → SwitchRow
switch_row x q ms s t n = record { letter = x; request = q; modes = ms; from = s; to = t; code = n }

-- '1–6'
abbrev pub one_to_six : List ℕ
one_to_six = 1 ∷ 2 ∷ 3 ∷ 4 ∷ 5 ∷ 6 ∷ []

-- the rows in document 01's order; 'b, c' is b from state 1 and c from state 2. Document 02, A1: 'There a remote reconnect now also moves 2 to 1 and
-- logs 63', there being modes 2 and 4; A2: 'The new move of A1 bears the letter a'
unfoldable pub switch_table : List SwitchRow
switch_table =
    switch_row A RemoteReconnect (2 ∷ 4 ∷ []) 0 1 63
    ∷ switch_row A RemoteReconnect (2 ∷ 4 ∷ []) 2 1 63
    ∷ switch_row D RemoteReconnect (1 ∷ 3 ∷ 5 ∷ 6 ∷ []) 0 2 59
    ∷ switch_row B RemoteDisconnect one_to_six 1 0 62
    ∷ switch_row C RemoteDisconnect one_to_six 2 0 62
    ∷ switch_row E ManualReconnect one_to_six 2 1 61
    ∷ switch_row F ManualDisconnect (1 ∷ 2 ∷ 5 ∷ []) 1 2 60
    ∷ switch_row G LocalDisconnect one_to_six 1 2 64
    ∷ switch_row H LocalReconnect (5 ∷ 6 ∷ []) 2 1 69
    ∷ []
