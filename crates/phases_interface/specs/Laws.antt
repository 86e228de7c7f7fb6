-- What holds of the interface of the three-phase meter: what a reader wants beside the definitions.
use Rattle.std.specs.Prelude.{◌≡◌, true, false, cond, List, [], ◌∷◌, map, reverse, ◌↔◌, ℕ, leb, length, get_or}
use Rattle.base.specs.Tests.{within}
use Rattle.codec.specs.Lawful.{Bytes}
use Rattle.events.specs.Table.{EventRow, built_in}
use Rattle.tables.specs.Bytes.{table_of}
use Rattle.calls.specs.declared.Answer.TheVariants.{Accepted, Refused}
use Rattle.calls.specs.Calls.{answer_number, letter_byte}
use Rattle.history.specs.Account.{accepted_calls}
use Rattle.history.specs.RemoteDisconnect.{Holds, reconnect_tried}
use Rattle.phases.specs.declared.ThreePhaseCall.{ThreePhaseCall}
use Rattle.phases.specs.declared.ThreePhaseCommand.{ThreePhaseCommand}
use Rattle.std.specs.Prelude.{Ok}
use Rattle.phases.specs.Calls.{three_phase_call_of, AllThreePhaseInRange}
use Rattle.phases.specs.ThreePhase.{ThreePhaseFresh, as_any_fresh, as_any_call, three_phase_account, three_phase_letter}
use Rattle.phases_meter.specs.Machine.{three_phase_commanded}
use Rattle.phases_meter.specs.Settings.{ThreePhaseSettingsInRange}
use Rattle.phases_meter.specs.Fresh.{three_phase_fresh_of}
use Rattle.phases_page.specs.Layout.{three_phase_size, three_phase_page_of, three_phase_read_of}
use Rattle.phases_page.specs.AccountPage.{three_phase_account_page}
use Rattle.replay.specs.Numbers.{number_or, NumbersTell}
use Rattle.phases_replay.specs.Replay.{three_phase_calls_in, three_phase_replay_answer}
use Rattle.phases_interface.specs.Interface.{three_phase_fresh_number, three_phase_fresh_page, three_phase_call_number, three_phase_call_page, three_phase_call_letter}
use Rattle.phases_interface.specs.Interface.{three_phase_check_number}

-- calls one after the other, each on the page that the one before left
unfoldable pub three_phase_call_pages : List EventRow → List ℕ → List ThreePhaseCommand → List ℕ
three_phase_call_pages rows page [] = page
three_phase_call_pages rows page (r ∷ rs) = three_phase_call_pages rows (three_phase_call_page rows page r) rs

-- the page after calls one after the other, from a fresh one
abbrev pub three_phase_page_from : List EventRow → List ℕ → ThreePhaseFresh → List ThreePhaseCommand → List ℕ
three_phase_page_from rows page f rs = three_phase_call_pages rows (three_phase_fresh_page rows page f) rs

-- what is asked of a list of calls: a page of its length, settings that fresh accepts, numbers that are values of their types
pub record ThreePhaseFromFresh (page : List ℕ) (f : ThreePhaseFresh) (rs : List ThreePhaseCommand) : Type 0 where
  pub whole : length page ≡ three_phase_size
  pub accepted : (three_phase_fresh_of f).answer ≡ Accepted
  pub settings_in_range : ThreePhaseSettingsInRange f
  pub calls_in_range : AllThreePhaseInRange (three_phase_calls_in rs)

-- the switch that a page says: 'mode 1 byte, switch 1' in its first area, at 32
abbrev pub three_phase_switch_in : List ℕ → ℕ
three_phase_switch_in page = get_or page 33 0

-- document 02, A7, of a list of this meter's calls, in their order: an under firing is one at which h is tried, '.. if a line fired under and none remains
-- exceeded' (A13)
abbrev pub HoldsThreePhase : List ℕ → List EventRow → ThreePhaseFresh → List ThreePhaseCall → ℕ → Type 0
HoldsThreePhase modes rows f calls switch =
    Holds (reconnect_tried (as_any_fresh f)) modes (as_any_fresh f) (accepted_calls rows (as_any_fresh f) (reverse (map as_any_call calls))) switch

-- of `fresh_page`, of `check_page`, of `call_on_page`, and of calls one after the other
pub record LawsOf (rows : List EventRow) : Type 0 where
  -- the writer refuses only a short buffer: fresh never answers 12
  pub fresh_answer : (page : List ℕ) (f : ThreePhaseFresh) → ThreePhaseSettingsInRange f
      → three_phase_fresh_number rows page f ≡ number_or (three_phase_fresh_of f).answer (cond (leb three_phase_size (length page)) 0 8)
  -- a fresh page is the same by every table: 'soundness of log codes is against that table', and a fresh meter has no line
  pub fresh_any_table : (page : List ℕ) (f : ThreePhaseFresh) → ThreePhaseSettingsInRange f
      → (three_phase_fresh_number rows page f ≡ three_phase_fresh_number built_in page f) × (three_phase_fresh_page rows page f ≡ three_phase_fresh_page built_in page f)
  -- 'kind | 13 | not 1–15; the command's reading fails before the record is touched', and of A3's kinds (document 02, A13): '.. its kinds get 13 ..':
  -- whatever the page holds
  pub call_no_kind : (page : List ℕ) (r : ThreePhaseCommand) → within 1 15 r.kind ≡ false → three_phase_call_number rows page r ≡ 13
  -- of a kind from 1 to 15 the reader's refusal of the page comes next
  pub call_unread : (page : List ℕ) (r : ThreePhaseCommand) (n : ℕ) → within 1 15 r.kind ≡ true → (three_phase_read_of rows page).answer ≡ Refused n
      → three_phase_call_number rows page r ≡ n
  -- `check_page` answers 0 exactly for a page that the reader takes, and any other number as such a call does
  pub check_zero : (page : List ℕ) → (three_phase_check_number rows page ≡ 0) ↔ ((three_phase_read_of rows page).answer ≡ Accepted)
  pub check_call : (page : List ℕ) (r : ThreePhaseCommand) → within 1 15 r.kind ≡ true → (three_phase_check_number rows page ≡ 0 → ⊥)
      → three_phase_call_number rows page r ≡ three_phase_check_number rows page
  -- a call on a page that is read answers as the machine does
  pub call_answer : (page : List ℕ) (r : ThreePhaseCommand) → Bytes page → (three_phase_read_of rows page).answer ≡ Accepted
      → AllThreePhaseInRange (three_phase_calls_in (r ∷ []))
      → three_phase_call_number rows page r ≡ answer_number (three_phase_commanded rows (three_phase_read_of rows page).meter r).answer
  -- it leaves the page of the record that the machine hands back, accepted or refused
  pub call_page : (page : List ℕ) (r : ThreePhaseCommand) → Bytes page → (three_phase_read_of rows page).answer ≡ Accepted
      → AllThreePhaseInRange (three_phase_calls_in (r ∷ []))
      → three_phase_call_page rows page r ≡ three_phase_page_of (three_phase_commanded rows (three_phase_read_of rows page).meter r).meter
  -- on any number but 0 every byte stays
  pub fresh_refused : (page : List ℕ) (f : ThreePhaseFresh) → (three_phase_fresh_number rows page f ≡ 0 → ⊥) → three_phase_fresh_page rows page f ≡ page
  pub call_refused : (page : List ℕ) (r : ThreePhaseCommand) → (three_phase_call_number rows page r ≡ 0 → ⊥) → three_phase_call_page rows page r ≡ page
  -- document 02, A2: and there is no letter, whether kind, page or call is refused
  pub refused_letter : (page : List ℕ) (r : ThreePhaseCommand) → Bytes page → AllThreePhaseInRange (three_phase_calls_in (r ∷ []))
      → (three_phase_call_number rows page r ≡ 0 → ⊥) → three_phase_call_letter rows page r ≡ 0
  -- calls from an accepted fresh, refused ones among them, leave the page of their history's account
  pub account_page_lem : (page : List ℕ) (f : ThreePhaseFresh) (rs : List ThreePhaseCommand) → length page ≡ three_phase_size
      → (three_phase_fresh_of f).answer ≡ Accepted → ThreePhaseSettingsInRange f → AllThreePhaseInRange (three_phase_calls_in rs)
      → three_phase_call_pages rows (three_phase_fresh_page rows page f) rs ≡ three_phase_account_page (three_phase_account rows f (three_phase_calls_in rs))
  -- document 02, A2: behind them, one more call leaves the letter that the account gives, by its switch before and after the call, and the call itself
  pub account_letter : (page : List ℕ) (f : ThreePhaseFresh) (rs : List ThreePhaseCommand) (r : ThreePhaseCommand) (c : ThreePhaseCall)
      → length page ≡ three_phase_size → (three_phase_fresh_of f).answer ≡ Accepted → ThreePhaseSettingsInRange f → AllThreePhaseInRange (c ∷ three_phase_calls_in rs)
      → three_phase_call_of r ≡ Ok c
      → three_phase_call_letter rows (three_phase_call_pages rows (three_phase_fresh_page rows page f) rs) r
      ≡ letter_byte (three_phase_letter rows f (three_phase_calls_in rs) c)
  -- document 02, A7, of the page that calls leave: '.. supply is on at the end ..' where it says Connected
  pub disconnect_holds : (page : List ℕ) (f : ThreePhaseFresh) (rs : List ThreePhaseCommand) → ThreePhaseFromFresh page f rs
      → HoldsThreePhase (0 ∷ 2 ∷ 4 ∷ []) rows f (three_phase_calls_in rs) (three_phase_switch_in (three_phase_page_from rows page f rs))

-- of every event table, given as any bytes
abbrev pub Laws : Type 0
Laws = (table : List ℕ) → Bytes table → LawsOf (table_of table)

-- '.. demand 3 for two lists of its own kind', call by call: of two lists, each from its own fresh page and with its own table, given as any bytes
abbrev pub ThreePhaseCallsCompared : Type 0
ThreePhaseCallsCompared =
    (table table' : List ℕ) → Bytes table → Bytes table' → (page page' : List ℕ) (f g : ThreePhaseFresh) (rs ss : List ThreePhaseCommand)
    → ThreePhaseFromFresh page f rs → ThreePhaseFromFresh page' g ss
    → (three_phase_page_from (table_of table) page f rs ≡ three_phase_page_from (table_of table') page' g ss)
    ↔ (three_phase_account (table_of table) f (three_phase_calls_in rs) ≡ three_phase_account (table_of table') g (three_phase_calls_in ss))

-- what the numbers of a list of the three-phase meter tell
abbrev pub ThreePhaseReplayNumbers : Type 0
ThreePhaseReplayNumbers = NumbersTell three_phase_replay_answer
