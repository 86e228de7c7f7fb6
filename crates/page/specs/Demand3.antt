-- Demand 3: 'For every two lists of the fifteen calls .., one from each meter, the page after the one equals the page after the other exactly when
-- the accounts of the two histories are equal. Each page holds its own account, byte for byte by the layout.' Document 02, A3: 'Demand 3's lists hold
-- both kinds too ..'
use Rattle.std.specs.Prelude.{◌≡◌, true, List, ℕ, ◌≤◌, length, take}
use Rattle.base.specs.Tests.{every}
use Rattle.events.specs.Table.{EventRow, lawful}
use Rattle.calls.specs.declared.Call.{Call}
use Rattle.calls.specs.declared.Answer.TheVariants.{Accepted}
use Rattle.calls.specs.Calls.{AllInRange}
use Rattle.history.specs.OnePhase.{Fresh, Account, account}
use Rattle.meter.specs.declared.Meter.{Meter}
use Rattle.meter.specs.Machine.{record_after}
use Rattle.meter.specs.Settings.{SettingsInRange}
use Rattle.meter.specs.Fresh.{fresh_of}
use Rattle.page.specs.Layout.{write_answer, written}
use Rattle.page.specs.AccountPage.{page_length, account_page}

-- 'any two fresh meters, each with its own accepted settings', and a list of calls from each: the numbers are values of their types. Document 02, A8:
-- 'Lists of calls now begin with a fresh meter and a table, the same for every call of the list and its writer': its rows, which are lawful in every
-- table (`any_bytes` and `Any-array` of tables)
pub record Trace : Type 0 where
  pub rows : List EventRow
  pub settings : Fresh
  pub calls : List Call
  pub lawful_rows : every lawful rows ≡ true
  pub accepted : (fresh_of settings).answer ≡ Accepted
  pub settings_in_range : SettingsInRange settings
  pub calls_in_range : AllInRange calls

-- 'the last record (the fresh meter if the list is empty)'
abbrev pub last_record : Trace → Meter
last_record t = record_after t.rows (fresh_of t.settings).meter t.calls

-- 'A list's page is what an accepted writer, given the last record .., puts into the buffer over the page's length.'
abbrev pub page_after : Trace → List ℕ → List ℕ
page_after t out = take page_length (written t.rows (last_record t) out)

-- 'The account comes from the fresh settings and the list alone'
abbrev pub trace_account : Trace → Account
trace_account t = account t.rows t.settings t.calls

-- what is claimed of two traces and the two buffers that their pages are written into
pub record Compared (s t : Trace) (out out' : List ℕ) : Type 0 where
  -- the writer accepts both last records
  pub first_accepted : write_answer s.rows (last_record s) out ≡ Accepted
  pub second_accepted : write_answer t.rows (last_record t) out' ≡ Accepted
  -- 'Each page holds its own account, byte for byte by the layout.'
  pub first_page : page_after s out ≡ account_page (trace_account s)
  pub second_page : page_after t out' ≡ account_page (trace_account t)
  -- 'the page after the one equals the page after the other exactly when the accounts of the two histories are equal'
  pub same_account : page_after s out ≡ page_after t out' → trace_account s ≡ trace_account t
  pub same_page : trace_account s ≡ trace_account t → page_after s out ≡ page_after t out'

-- 'a single claim about two whole lists'; the buffers are long enough for a page
abbrev pub Demand3 : Type 0
Demand3 = (s t : Trace) (out out' : List ℕ) → page_length ≤ length out → page_length ≤ length out' → Compared s t out out'
