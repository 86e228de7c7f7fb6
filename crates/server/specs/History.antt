-- Demand 3 with requests among the calls (document 02, A9): 'The meter after a success is the meter after the call the frame names; a GET and any other answer
-- change nothing.' Requests answered with success act in the account as the calls that they name, and no other request counts.
use Rattle.std.specs.Prelude.{◌≡◌, true, false, cond, List, [], ◌∷◌, ◌++◌, ℕ, ◌≤◌, ltb, length, take, Option, Some, None, Ok, Err}
use Rattle.base.specs.Tests.{every}
use Rattle.codec.specs.Lawful.{Bytes}
use Rattle.events.specs.Table.{EventRow, lawful}
use Rattle.calls.specs.declared.Call.{Call}
use Rattle.calls.specs.declared.Answer.TheVariants.{Accepted}
use Rattle.calls.specs.declared.Letter.TheVariants.{None as NoLetter}
use Rattle.calls.specs.Calls.{InRange}
use Rattle.requests.specs.Requests.{Parsed, request_in}
use Rattle.history.specs.OnePhase.{Fresh, Account, account, letter}
use Rattle.meter.specs.declared.Meter.{Meter}
use Rattle.meter.specs.Machine.{applied}
use Rattle.meter.specs.Settings.{SettingsInRange}
use Rattle.meter.specs.Fresh.{fresh_of}
use Rattle.page.specs.Layout.{write_answer, written}
use Rattle.page.specs.AccountPage.{page_length, account_page}
use Rattle.server.specs.Naming.{named_in}
use Rattle.server.specs.Service.{service}

-- a call, or the bytes of a request with the buffer that is lent for its response
pub data Input : Type 0 where
  call : Call → Input
  request : List ℕ → List ℕ → Input

-- its numbers are values of their types
abbrev pub InputInRange : Input → Type 0
InputInRange (call c) = InRange c
InputInRange (request s l) = Bytes s

-- of each input of a list
abbrev pub AllInputsInRange : List Input → Type 0
AllInputsInRange [] = Unit
AllInputsInRange (i ∷ is) = InputInRange i × AllInputsInRange is

-- ---- the machine: the record after inputs, in their order

-- 'each next one the record that the call before handed back, accepted or refused'
abbrev pub after_input : List EventRow → Meter → Input → Meter
after_input rows m (call c) = (applied rows m c).meter
after_input rows m (request s l) = (service rows m s l).meter

unfoldable pub after_inputs : List EventRow → Meter → List Input → Meter
after_inputs rows m [] = m
after_inputs rows m (i ∷ is) = after_inputs rows (after_input rows m i) is

-- ---- the calls that inputs name, by the account

-- at most one
abbrev pub named_calls : Option Call → List Call
named_calls (Some c) = c ∷ []
named_calls None = []

-- of bytes that are no whole request, none; 'A SET in class 71 is call 7 with the other two kept': those of the account
abbrev pub parsed_calls : Account → Parsed → List Call
parsed_calls a (Ok r) = named_calls (named_in a.threshold a.over a.under r)
parsed_calls a (Err x) = []

-- with '21, answer buffer under 32 bytes', none. A call that 01's table refuses is answered with read-write-denied, and counts for nothing in the account
abbrev pub input_calls : Account → Input → List Call
input_calls a (call c) = c ∷ []
input_calls a (request s l) = cond (ltb (length l) 32) [] (parsed_calls a (request_in s))

-- behind calls that are there, those that inputs name, each by the account of the calls before it
unfoldable pub calls_behind : List EventRow → Fresh → List Call → List Input → List Call
calls_behind rows f before [] = before
calls_behind rows f before (i ∷ is) = calls_behind rows f (before ++ input_calls (account rows f before) i) is

-- ---- what is claimed

-- 'any two fresh meters, each with its own accepted settings', and a list of inputs to each, by an event table of lawful rows
pub record InputTrace : Type 0 where
  pub rows : List EventRow
  pub settings : Fresh
  pub inputs : List Input
  pub lawful_rows : every lawful rows ≡ true
  pub accepted : (fresh_of settings).answer ≡ Accepted
  pub settings_in_range : SettingsInRange settings
  pub inputs_in_range : AllInputsInRange inputs

-- the calls that they name
abbrev pub trace_calls : InputTrace → List Call
trace_calls t = calls_behind t.rows t.settings [] t.inputs

-- 'The account comes from the fresh settings and the list alone'
abbrev pub input_account : InputTrace → Account
input_account t = account t.rows t.settings (trace_calls t)

-- the last record, and its page
abbrev pub last_of : InputTrace → Meter
last_of t = after_inputs t.rows (fresh_of t.settings).meter t.inputs

abbrev pub page_after_inputs : InputTrace → List ℕ → List ℕ
page_after_inputs t out = take page_length (written t.rows (last_of t) out)

-- what is claimed of two traces and the two buffers that their pages are written into
pub record ComparedTraces (s t : InputTrace) (out out' : List ℕ) : Type 0 where
  pub first_accepted : write_answer s.rows (last_of s) out ≡ Accepted
  pub second_accepted : write_answer t.rows (last_of t) out' ≡ Accepted
  -- 'Each page holds its own account, byte for byte by the layout.'
  pub first_page : page_after_inputs s out ≡ account_page (input_account s)
  pub second_page : page_after_inputs t out' ≡ account_page (input_account t)
  -- 'the page after the one equals the page after the other exactly when the accounts of the two histories are equal'
  pub same_account : page_after_inputs s out ≡ page_after_inputs t out' → input_account s ≡ input_account t
  pub same_page : input_account s ≡ input_account t → page_after_inputs s out ≡ page_after_inputs t out'

-- one more input behind a trace
abbrev pub calls_with : InputTrace → Input → List Call
calls_with t i = calls_behind t.rows t.settings [] (t.inputs ++ (i ∷ []))

-- requests among the calls
pub record RequestsCounted : Type 0 where
  -- 'a single claim about two whole lists'; the buffers are long enough for a page
  pub compared : (s t : InputTrace) (out out' : List ℕ) → page_length ≤ length out → page_length ≤ length out' → ComparedTraces s t out out'
  -- 'a GET and any other answer change nothing': a request that is not answered with success leaves the account
  pub uncounted : (t : InputTrace) (s l : List ℕ) → Bytes s → (service t.rows (last_of t) s l).carried ≡ false
      → account t.rows t.settings (calls_with t (request s l)) ≡ input_account t
  -- document 02, A2: a request that names a call hands on the letter that the account gives to that call
  pub lettered : (t : InputTrace) (s l : List ℕ) (c : Call) → Bytes s → input_calls (input_account t) (request s l) ≡ c ∷ []
      → (service t.rows (last_of t) s l).letter ≡ letter t.rows t.settings (trace_calls t) c
  -- .. and one that names no call hands on none
  pub unlettered : (t : InputTrace) (s l : List ℕ) → Bytes s → input_calls (input_account t) (request s l) ≡ [] → (service t.rows (last_of t) s l).letter ≡ NoLetter
