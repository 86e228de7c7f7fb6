-- What holds of requests from C: what a reader wants beside the definitions.
use Rattle.std.specs.Prelude.{◌≡◌, cond, List, [], ◌∷◌, ℕ, ltb, length}
use Rattle.codec.specs.Lawful.{Bytes}
use Rattle.events.specs.Table.{EventRow}
use Rattle.tables.specs.Bytes.{table_of}
use Rattle.calls.specs.declared.Answer.TheVariants.{Accepted}
use Rattle.calls.specs.declared.Call.{Call}
use Rattle.calls.specs.declared.Letter.{Letter}
use Rattle.calls.specs.declared.Letter.TheVariants.{None}
use Rattle.calls.specs.declared.Command.{Command}
use Rattle.calls.specs.Calls.{Parsed}
use Rattle.calls.specs.declared.CommandError.TheVariants.{NoKind}
use Rattle.std.specs.Prelude.{Ok, Err}
use Rattle.calls.specs.Calls.{call_of, letter_byte}
use Rattle.requests.specs.Requests.{request_in}
use Rattle.history.specs.OnePhase.{Fresh, account, letter}
use Rattle.meter.specs.Settings.{SettingsInRange}
use Rattle.meter.specs.Fresh.{fresh_of}
use Rattle.page.specs.Layout.{size, page_of, read_of}
use Rattle.page.specs.AccountPage.{account_page}
use Rattle.server.specs.Service.{service, filled_by}
use Rattle.server.specs.Laws.{is_whole}
use Rattle.server.specs.History.{Input, call, request, AllInputsInRange, input_calls, calls_behind}
use Rattle.replay.specs.Numbers.{number_or}
use Rattle.pillar.specs.Interface.{fresh_page, call_page}
use Rattle.pillar.specs.Request.{request_number, request_page, request_buffer, request_length, request_letter}

-- a call of `pillar_call`, or of `pillar_request` with its answer buffer
pub data Sent : Type 0 where
  command : Command → Sent
  bytes : List ℕ → List ℕ → Sent

-- the page that it leaves
abbrev pub page_after_sent : List EventRow → List ℕ → Sent → List ℕ
page_after_sent rows page (command r) = call_page rows page r
page_after_sent rows page (bytes s buffer) = request_page rows page s buffer

-- one after the other, each on the page that the one before left
unfoldable pub sent_pages : List EventRow → List ℕ → List Sent → List ℕ
sent_pages rows page [] = page
sent_pages rows page (x ∷ xs) = sent_pages rows (page_after_sent rows page x) xs

-- as inputs of a record: a kind that is not 1–17 is none
abbrev pub parsed_input : Parsed → List Input → List Input
parsed_input (Ok c) is = call c ∷ is
parsed_input (Err NoKind) is = is

unfoldable pub inputs_in : List Sent → List Input
inputs_in [] = []
inputs_in (command r ∷ xs) = parsed_input (call_of r) (inputs_in xs)
inputs_in (bytes s buffer ∷ xs) = request s buffer ∷ inputs_in xs

-- behind some calls, the letter of the call that an input names, if it names one
abbrev pub letter_of_named : List EventRow → Fresh → List Call → List Call → Letter
letter_of_named rows f calls [] = None
letter_of_named rows f calls (c ∷ cs) = letter rows f calls c

-- of `pillar_request`, and of it among calls of `pillar_call`
pub record RequestLawsOf (rows : List EventRow) : Type 0 where
  -- 21, then the reader's 9, 10 and 11, then 20, else 0
  pub request_number_lem : (page s buffer : List ℕ) → Bytes page → Bytes s
      → request_number rows page s buffer ≡ cond (ltb (length buffer) 32) 21 (number_or (read_of rows page).answer (cond (is_whole (request_in s)) 0 20))
  -- on any number but 0 every byte of page and buffer stays, and there is no response and no letter
  pub request_refused : (page s buffer : List ℕ) → Bytes page → Bytes s → (request_number rows page s buffer ≡ 0 → ⊥)
      → (request_page rows page s buffer ≡ page)
      × ((request_buffer rows page s buffer ≡ buffer) × ((request_length rows page s buffer ≡ 0) × (request_letter rows page s buffer ≡ 0)))
  -- on a page that is read, a request is served as on its record, and leaves the page of the record after it
  pub request_served : (page s buffer : List ℕ) → Bytes page → Bytes s → (read_of rows page).answer ≡ Accepted
      → (request_page rows page s buffer ≡ page_of (service rows (read_of rows page).meter s buffer).meter)
      × ((request_buffer rows page s buffer ≡ filled_by (service rows (read_of rows page).meter s buffer) buffer)
      × ((request_length rows page s buffer ≡ length (service rows (read_of rows page).meter s buffer).bytes)
      × (request_letter rows page s buffer ≡ letter_byte (service rows (read_of rows page).meter s buffer).letter)))
  -- calls and requests from an accepted fresh, refused and denied ones among them, leave the page of the account of the calls that they name
  pub request_account : (page : List ℕ) (f : Fresh) (xs : List Sent) → length page ≡ size → (fresh_of f).answer ≡ Accepted → SettingsInRange f
      → AllInputsInRange (inputs_in xs)
      → sent_pages rows (fresh_page rows page f) xs ≡ account_page (account rows f (calls_behind rows f [] (inputs_in xs)))
  -- document 02, A2: behind them, a request that names a call leaves the letter that the account gives to that call, and one that names none leaves none
  pub request_letter_lem : (page : List ℕ) (f : Fresh) (xs : List Sent) (s buffer : List ℕ) → length page ≡ size → (fresh_of f).answer ≡ Accepted
      → SettingsInRange f → AllInputsInRange (inputs_in xs) → Bytes s
      → let calls = calls_behind rows f [] (inputs_in xs) in
      request_letter rows (sent_pages rows (fresh_page rows page f) xs) s buffer
      ≡ letter_byte (letter_of_named rows f calls (input_calls (account rows f calls) (request s buffer)))

-- of every event table, given as any bytes
abbrev pub RequestLaws : Type 0
RequestLaws = (table : List ℕ) → Bytes table → RequestLawsOf (table_of table)
