-- What holds of the C interface: what a reader wants beside the definitions.
use Rattle.std.specs.Prelude.{◌≡◌, true, false, cond, List, [], ◌∷◌, ◌↔◌, ℕ, leb, length}
use Rattle.base.specs.Tests.{within}
use Rattle.codec.specs.Lawful.{Bytes}
use Rattle.events.specs.Table.{EventRow, built_in}
use Rattle.tables.specs.Bytes.{table_of}
use Rattle.calls.specs.declared.Answer.TheVariants.{Accepted, Refused}
use Rattle.calls.specs.declared.Call.{Call}
use Rattle.calls.specs.declared.Command.{Command}
use Rattle.std.specs.Prelude.{Ok}
use Rattle.calls.specs.Calls.{answer_number, letter_byte, call_of, AllInRange}
use Rattle.history.specs.OnePhase.{Fresh, account, letter}
use Rattle.history.specs.RemoteDisconnect.{HoldsOnePhase}
use Rattle.meter.specs.Settings.{SettingsInRange}
use Rattle.meter.specs.Fresh.{fresh_of}
use Rattle.page.specs.Layout.{size, page_of, read_of}
use Rattle.page.specs.AccountPage.{account_page}
use Rattle.replay.specs.Replay.{calls_in, next_of}
use Rattle.replay.specs.Numbers.{number_or}
use Rattle.replay.specs.Laws.{switch_in}
use Rattle.pillar.specs.Interface.{fresh_number, fresh_page, call_number, call_page, call_letter, check_number}

-- calls one after the other, each on the page that the one before left
unfoldable pub call_pages : List EventRow → List ℕ → List Command → List ℕ
call_pages rows page [] = page
call_pages rows page (r ∷ rs) = call_pages rows (call_page rows page r) rs

-- the page after calls one after the other, from a fresh one
abbrev pub page_from : List EventRow → List ℕ → Fresh → List Command → List ℕ
page_from rows page f rs = call_pages rows (fresh_page rows page f) rs

-- what is asked of a list of calls: a page of its length, settings that fresh accepts, numbers that are values of their types
pub record FromFresh (page : List ℕ) (f : Fresh) (rs : List Command) : Type 0 where
  pub whole : length page ≡ size
  pub accepted : (fresh_of f).answer ≡ Accepted
  pub settings_in_range : SettingsInRange f
  pub calls_in_range : AllInRange (calls_in rs)

-- of `pillar_fresh`, of `pillar_check`, of `pillar_call`, and of calls one after the other
pub record LawsOf (rows : List EventRow) : Type 0 where
  -- the writer refuses only a short buffer: fresh never answers 12
  pub fresh_answer : (page : List ℕ) (f : Fresh) → SettingsInRange f
      → fresh_number rows page f ≡ number_or (fresh_of f).answer (cond (leb size (length page)) 0 8)
  -- a fresh page is the same by every table: 'soundness of log codes is against that table', and a fresh meter has no line
  pub fresh_any_table : (page : List ℕ) (f : Fresh) → SettingsInRange f
      → (fresh_number rows page f ≡ fresh_number built_in page f) × (fresh_page rows page f ≡ fresh_page built_in page f)
  -- 'kind | 13 | ..; the command's reading fails before the record is touched', and document 02, A3: 'Refusal 13 now means not 1–17': whatever the page
  -- holds
  pub call_no_kind : (page : List ℕ) (r : Command) → within 1 17 r.kind ≡ false → call_number rows page r ≡ 13
  -- of a kind from 1 to 17 the reader's refusal of the page comes next
  pub call_unread : (page : List ℕ) (r : Command) (n : ℕ) → within 1 17 r.kind ≡ true → (read_of rows page).answer ≡ Refused n
      → call_number rows page r ≡ n
  -- `pillar_check` answers 0 exactly for a page that the reader takes, and any other number as such a call does
  pub check_zero : (page : List ℕ) → (check_number rows page ≡ 0) ↔ ((read_of rows page).answer ≡ Accepted)
  pub check_call : (page : List ℕ) (r : Command) → within 1 17 r.kind ≡ true → (check_number rows page ≡ 0 → ⊥)
      → call_number rows page r ≡ check_number rows page
  -- a call on a page that is read answers as the machine does
  pub call_answer : (page : List ℕ) (r : Command) → Bytes page → (read_of rows page).answer ≡ Accepted → AllInRange (calls_in (r ∷ []))
      → call_number rows page r ≡ answer_number (next_of rows (read_of rows page).meter r).answer
  -- it leaves the page of the record that the machine hands back, accepted or refused
  pub call_page_lem : (page : List ℕ) (r : Command) → Bytes page → (read_of rows page).answer ≡ Accepted → AllInRange (calls_in (r ∷ []))
      → call_page rows page r ≡ page_of (next_of rows (read_of rows page).meter r).meter
  -- on any number but 0 every byte stays
  pub fresh_refused : (page : List ℕ) (f : Fresh) → (fresh_number rows page f ≡ 0 → ⊥) → fresh_page rows page f ≡ page
  pub call_refused : (page : List ℕ) (r : Command) → (call_number rows page r ≡ 0 → ⊥) → call_page rows page r ≡ page
  -- document 02, A2: and there is no letter, whether kind, page or call is refused
  pub refused_letter : (page : List ℕ) (r : Command) → Bytes page → AllInRange (calls_in (r ∷ [])) → (call_number rows page r ≡ 0 → ⊥)
      → call_letter rows page r ≡ 0
  -- calls from an accepted fresh, refused ones among them, leave the page of their history's account
  pub account_page_lem : (page : List ℕ) (f : Fresh) (rs : List Command) → length page ≡ size → (fresh_of f).answer ≡ Accepted → SettingsInRange f
      → AllInRange (calls_in rs) → call_pages rows (fresh_page rows page f) rs ≡ account_page (account rows f (calls_in rs))
  -- document 02, A2: behind them, one more call leaves the letter that the account gives, by its switch before and after the call, and the call itself
  pub account_letter : (page : List ℕ) (f : Fresh) (rs : List Command) (r : Command) (c : Call) → length page ≡ size → (fresh_of f).answer ≡ Accepted
      → SettingsInRange f → AllInRange (c ∷ calls_in rs) → call_of r ≡ Ok c
      → call_letter rows (call_pages rows (fresh_page rows page f) rs) r ≡ letter_byte (letter rows f (calls_in rs) c)
  -- document 02, A7, of the page that calls leave: '.. supply is on at the end ..' where it says Connected
  pub disconnect_holds : (page : List ℕ) (f : Fresh) (rs : List Command) → FromFresh page f rs
      → HoldsOnePhase (0 ∷ 2 ∷ 4 ∷ []) rows f (calls_in rs) (switch_in (page_from rows page f rs))

-- of every event table, given as any bytes
abbrev pub Laws : Type 0
Laws = (table : List ℕ) → Bytes table → LawsOf (table_of table)

-- 'the page after the one equals the page after the other exactly when the accounts of the two histories are equal', call by call from C: of two lists, each
-- from its own fresh page and with its own table, given as any bytes
abbrev pub CallsCompared : Type 0
CallsCompared =
    (table table' : List ℕ) → Bytes table → Bytes table' → (page page' : List ℕ) (f g : Fresh) (rs ss : List Command)
    → FromFresh page f rs → FromFresh page' g ss
    → (page_from (table_of table) page f rs ≡ page_from (table_of table') page' g ss)
    ↔ (account (table_of table) f (calls_in rs) ≡ account (table_of table') g (calls_in ss))
