-- The switch table read by mode and state, as one would look a request up in it: what the switch rule answers.
use Rattle.std.specs.Prelude.{ℕ, ◌≡◌, true, false, List, [], ◌∷◌, map}
use Rattle.calls.specs.declared.Letter.TheVariants.{A, B, C, D, E, F, G, H}
use Rattle.control.specs.declared.Request.{Request}
use Rattle.control.specs.declared.Request.TheVariants.{RemoteDisconnect, RemoteReconnect, ManualDisconnect, ManualReconnect, LocalDisconnect}
use Rattle.control.specs.declared.Request.TheVariants.{LocalReconnect}
use Rattle.control.specs.declared.Decision.{Decision}
use Rattle.control.specs.declared.Decision.TheVariants.{Move, Stay, NotListed}
use Rattle.control.specs.Table.{switch_table}
use Rattle.control.specs.Control.{decision}

-- what a request is answered in a mode, from states 0, 1 and 2
abbrev pub answers_in : Request → ℕ → List Decision
answers_in q m = map (decision switch_table q m) (0 ∷ 1 ∷ 2 ∷ [])

-- in modes 0 to 6
abbrev pub answers_by_mode : Request → List (List Decision)
answers_by_mode q = map (answers_in q) (0 ∷ 1 ∷ 2 ∷ 3 ∷ 4 ∷ 5 ∷ 6 ∷ [])

-- no row lists the mode
abbrev pub unlisted : List Decision
unlisted = NotListed ∷ NotListed ∷ NotListed ∷ []

-- 'a .. 0 → 1 .. 63', and document 02, A1: '.. also moves 2 to 1 and logs 63'
abbrev pub reconnected : List Decision
reconnected = Move 1 63 false A ∷ Stay ∷ Move 1 63 false A ∷ []

-- 'd .. 0 → 2 .. 59'
abbrev pub made_ready : List Decision
made_ready = Move 2 59 false D ∷ Stay ∷ Stay ∷ []

-- 'b, c .. 1 or 2 → 0 .. 62'; document 02, A2: '.. b from 1 and c from 2 ..'
abbrev pub disconnected : List Decision
disconnected = Stay ∷ Move 0 62 true B ∷ Move 0 62 false C ∷ []

-- 'e .. 2 → 1 .. 61'
abbrev pub manually_reconnected : List Decision
manually_reconnected = Stay ∷ Stay ∷ Move 1 61 false E ∷ []

-- 'f .. 1 → 2 .. 60'
abbrev pub manually_disconnected : List Decision
manually_disconnected = Stay ∷ Move 2 60 true F ∷ Stay ∷ []

-- 'g .. 1 → 2 .. 64'
abbrev pub locally_disconnected : List Decision
locally_disconnected = Stay ∷ Move 2 64 true G ∷ Stay ∷ []

-- 'h .. 2 → 1 .. 69'
abbrev pub locally_reconnected : List Decision
locally_reconnected = Stay ∷ Stay ∷ Move 1 69 false H ∷ []

-- of each request, modes 0 to 6
pub record ByMode : Type 0 where
  -- 'a remote reconnect | 2, 4', 'd remote reconnect | 1, 3, 5, 6'
  pub remote_reconnect :
      answers_by_mode RemoteReconnect ≡ unlisted ∷ made_ready ∷ reconnected ∷ made_ready ∷ reconnected ∷ made_ready ∷ made_ready ∷ []
  -- 'b, c remote disconnect | 1–6'
  pub remote_disconnect :
      answers_by_mode RemoteDisconnect
      ≡ unlisted ∷ disconnected ∷ disconnected ∷ disconnected ∷ disconnected ∷ disconnected ∷ disconnected ∷ []
  -- 'e manual reconnect | 1–6'
  pub manual_reconnect :
      answers_by_mode ManualReconnect
      ≡ unlisted ∷ manually_reconnected ∷ manually_reconnected ∷ manually_reconnected
      ∷ manually_reconnected ∷ manually_reconnected ∷ manually_reconnected ∷ []
  -- 'f manual disconnect | 1, 2, 5'
  pub manual_disconnect :
      answers_by_mode ManualDisconnect
      ≡ unlisted ∷ manually_disconnected ∷ manually_disconnected ∷ unlisted ∷ unlisted ∷ manually_disconnected ∷ unlisted ∷ []
  -- 'g local disconnect | 1–6'
  pub local_disconnect :
      answers_by_mode LocalDisconnect
      ≡ unlisted ∷ locally_disconnected ∷ locally_disconnected ∷ locally_disconnected
      ∷ locally_disconnected ∷ locally_disconnected ∷ locally_disconnected ∷ []
  -- 'h local reconnect | 5, 6'
  pub local_reconnect :
      answers_by_mode LocalReconnect ≡ unlisted ∷ unlisted ∷ unlisted ∷ unlisted ∷ unlisted ∷ locally_reconnected ∷ locally_reconnected ∷ []
