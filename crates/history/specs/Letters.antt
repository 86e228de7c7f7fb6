-- 'Which move was made' (document 02, A2): its letter in the switch table, from the call itself and the account's switch before and after it.
use Rattle.std.specs.Prelude.{ℕ, ◌≡◌, cond, List, ◌∷◌, eqb, ℤ}
use Rattle.events.specs.Table.{EventRow}
use Rattle.calls.specs.declared.Letter.{Letter}
use Rattle.calls.specs.declared.Letter.TheVariants.{A, B, C, D, E, F, G, H, None}
use Rattle.history.specs.Effects.{AnyFresh, RequestCall, remote_disconnect, remote_reconnect, manual_disconnect, manual_reconnect, AnyCall, Effect}
use Rattle.history.specs.Effects.{sampled, requested, mode_set, limits_set, clock_set, occurred, filter_set, bits_cleared, log_cleared, groups_set, profile_set, Reading, refused}
use Rattle.history.specs.Effects.{accepted, reading}
use Rattle.history.specs.Last.{History, mode_of}
use Rattle.history.specs.Profile.{groups_of}
use Rattle.history.specs.Switch.{switch_of}
use Rattle.history.specs.Logs.{moves}
use Rattle.history.specs.Account.{accepted_calls}

-- a request that moves the switch: '.. b from 1 and c from 2 ..'; a remote reconnect to 1 is a, from 2 too ('The new move of A1 bears the letter a'),
-- and d to 2
abbrev pub request_letter : RequestCall → ℕ → ℕ → Letter
request_letter remote_disconnect from to = cond (eqb from 1) B C
request_letter remote_reconnect from to = cond (eqb to 1) A D
request_letter manual_disconnect from to = F
request_letter manual_reconnect from to = E

-- a sample that moves the switch: h to 1, g to 2
abbrev pub local_letter : ℕ → Letter
local_letter to = cond (eqb to 1) H G

-- an accepted call that moves the switch: '.. accepting mode 0 answers none ..', and no call below it moves the switch
abbrev pub move_letter : Effect → ℕ → ℕ → Letter
move_letter (sampled ps) from to = local_letter to
move_letter (requested q) from to = request_letter q from to
move_letter (mode_set n) from to = None
move_letter (limits_set ts o u) from to = None
move_letter (clock_set n) from to = None
move_letter (occurred r) from to = None
move_letter (filter_set s n) from to = None
move_letter (bits_cleared s n) from to = None
move_letter (log_cleared n) from to = None
move_letter (groups_set g) from to = None
move_letter (profile_set w) from to = None

-- an accepted call: '.. none, and so does a call that .. moves nothing'
abbrev pub letter_of : AnyFresh → Effect → History → Letter
letter_of f e h = cond (moves f e h) (move_letter e (switch_of f h) (switch_of f (e ∷ h))) None

-- a call as it is answered: '.. none, and so does a call that is refused ..'
abbrev pub letter_read : AnyFresh → Reading → History → Letter
letter_read f (refused n) h = None
letter_read f (accepted e) h = letter_of f e h

-- a call behind a list of calls, newest first
abbrev pub letter_after : List EventRow → AnyFresh → List AnyCall → AnyCall → Letter
letter_after rows f cs c = let h = accepted_calls rows f cs in letter_read f (reading rows (mode_of f h) (groups_of h) c) h

-- the rows of the switch table: letter, call, 'From → to'. The modes of b, c, e and f are the rule of refusals' (`reading`), those of a, d, g and h are in
-- the account's switch
pub data TableMove (x : Letter) (e : Effect) (from to : ℕ) : Type 0 where
  row_a : x ≡ A → e ≡ requested remote_reconnect → from ≡ 0 → to ≡ 1 → TableMove x e from to
  rowAFrom_ready : x ≡ A → e ≡ requested remote_reconnect → from ≡ 2 → to ≡ 1 → TableMove x e from to
  row_d : x ≡ D → e ≡ requested remote_reconnect → from ≡ 0 → to ≡ 2 → TableMove x e from to
  row_b : x ≡ B → e ≡ requested remote_disconnect → from ≡ 1 → to ≡ 0 → TableMove x e from to
  row_c : x ≡ C → e ≡ requested remote_disconnect → from ≡ 2 → to ≡ 0 → TableMove x e from to
  row_e : x ≡ E → e ≡ requested manual_reconnect → from ≡ 2 → to ≡ 1 → TableMove x e from to
  row_f : x ≡ F → e ≡ requested manual_disconnect → from ≡ 1 → to ≡ 2 → TableMove x e from to
  row_g : (ps : List ℤ) → x ≡ G → e ≡ sampled ps → from ≡ 1 → to ≡ 2 → TableMove x e from to
  row_h : (ps : List ℤ) → x ≡ H → e ≡ sampled ps → from ≡ 2 → to ≡ 1 → TableMove x e from to

-- what an accepted call answers: the letter of a row, or none where nothing moves and where mode 0 is accepted
pub data AnswersLetter (x : Letter) (e : Effect) (from to : ℕ) : Type 0 where
  by_row : TableMove x e from to → AnswersLetter x e from to
  unmoved : x ≡ None → to ≡ from → AnswersLetter x e from to
  mode_zero : x ≡ None → e ≡ mode_set 0 → AnswersLetter x e from to
