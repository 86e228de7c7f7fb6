-- Demand 3 of the three-phase meter. Document 02, A13: '.. demands 1 to 3 hold of this one too, demand 3 for two lists of its own kind.' That is: 'For every
-- two lists .., one from each meter, the page after the one equals the page after the other exactly when the accounts of the two histories are equal. Each
-- page holds its own account, byte for byte by the layout.'
use Rattle.std.specs.Prelude.{◌≡◌, true, List, ℕ, ◌≤◌, length, take}
use Rattle.base.specs.Tests.{every}
use Rattle.events.specs.Table.{EventRow, lawful}
use Rattle.calls.specs.declared.Answer.TheVariants.{Accepted}
use Rattle.phases.specs.declared.ThreePhaseCall.{ThreePhaseCall}
use Rattle.phases.specs.Calls.{AllThreePhaseInRange}
use Rattle.phases.specs.ThreePhase.{ThreePhaseFresh, ThreePhaseAccount, three_phase_account}
use Rattle.phases_meter.specs.declared.ThreePhaseMeter.{ThreePhaseMeter}
use Rattle.phases_meter.specs.Machine.{three_phase_record_after}
use Rattle.phases_meter.specs.Settings.{ThreePhaseSettingsInRange}
use Rattle.phases_meter.specs.Fresh.{three_phase_fresh_of}
use Rattle.phases_page.specs.Layout.{three_phase_write_answer, three_phase_written}
use Rattle.phases_page.specs.AccountPage.{three_phase_page_length, three_phase_account_page}

-- 'any two fresh meters, each with its own accepted settings', and a list of calls from each: the numbers are values of their types. Document 02, A8:
-- 'Lists of calls now begin with a fresh meter and a table, the same for every call of the list and its writer': its rows, which are lawful in every
-- table (`any_bytes` and `Any-array` of tables)
pub record ThreePhaseTrace : Type 0 where
  pub rows : List EventRow
  pub settings : ThreePhaseFresh
  pub calls : List ThreePhaseCall
  pub lawful_rows : every lawful rows ≡ true
  pub accepted : (three_phase_fresh_of settings).answer ≡ Accepted
  pub settings_in_range : ThreePhaseSettingsInRange settings
  pub calls_in_range : AllThreePhaseInRange calls

-- 'the last record (the fresh meter if the list is empty)'
abbrev pub three_phase_last_record : ThreePhaseTrace → ThreePhaseMeter
three_phase_last_record t = three_phase_record_after t.rows (three_phase_fresh_of t.settings).meter t.calls

-- 'A list's page is what an accepted writer, given the last record .., puts into the buffer over the page's length.'
abbrev pub three_phase_page_after : ThreePhaseTrace → List ℕ → List ℕ
three_phase_page_after t out = take three_phase_page_length (three_phase_written t.rows (three_phase_last_record t) out)

-- 'The account comes from the fresh settings and the list alone'
abbrev pub three_phase_trace_account : ThreePhaseTrace → ThreePhaseAccount
three_phase_trace_account t = three_phase_account t.rows t.settings t.calls

-- what is claimed of two traces and the two buffers that their pages are written into
pub record ThreePhaseCompared (s t : ThreePhaseTrace) (out out' : List ℕ) : Type 0 where
  -- the writer accepts both last records
  pub first_accepted : three_phase_write_answer s.rows (three_phase_last_record s) out ≡ Accepted
  pub second_accepted : three_phase_write_answer t.rows (three_phase_last_record t) out' ≡ Accepted
  -- 'Each page holds its own account, byte for byte by the layout.'
  pub first_page : three_phase_page_after s out ≡ three_phase_account_page (three_phase_trace_account s)
  pub second_page : three_phase_page_after t out' ≡ three_phase_account_page (three_phase_trace_account t)
  -- 'the page after the one equals the page after the other exactly when the accounts of the two histories are equal'
  pub same_account : three_phase_page_after s out ≡ three_phase_page_after t out' → three_phase_trace_account s ≡ three_phase_trace_account t
  pub same_page : three_phase_trace_account s ≡ three_phase_trace_account t → three_phase_page_after s out ≡ three_phase_page_after t out'

-- 'a single claim about two whole lists'; the buffers are long enough for a page
abbrev pub ThreePhaseDemand3 : Type 0
ThreePhaseDemand3 =
    (s t : ThreePhaseTrace) (out out' : List ℕ) → three_phase_page_length ≤ length out → three_phase_page_length ≤ length out'
    → ThreePhaseCompared s t out out'
