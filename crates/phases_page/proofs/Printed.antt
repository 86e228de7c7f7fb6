-- The page that the documents print of an account of the three-phase meter is the page of the record that holds the account.
use Rattle.page.proofs.Common.{◌≡◌, refl, true, List, ◌++◌, append_assoc, append-nil, flat_map, ℕ, length, every, be, EventRow, lawful}
use Rattle.logs.proofs.Kept.{lists_length, lists_short}
use Rattle.logs.proofs.Places.{Short}
use Rattle.machine.specs.Sound.{sound_state}
use Rattle.page.specs.Layout.{control_area, clock_area, alarms_area, register_area}
use Rattle.page.specs.AccountPage.{field_bytes, log_bytes}
use Rattle.page.proofs.Printed.{logs_written}
use Rattle.phases.specs.declared.ThreePhaseCall.{ThreePhaseCall}
use Rattle.phases.specs.Calls.{AllThreePhaseInRange}
use Rattle.phases.specs.ThreePhase.{ThreePhaseFresh, ThreePhaseAccount, three_phase_account}
use Rattle.phases_meter.specs.State.{three_phase_record_of}
use Rattle.phases_meter.specs.Settings.{ThreePhaseSettings}
use Rattle.phases_meter.specs.Holding.{three_phase_holding}
use Rattle.phases_meter.proofs.Values.{logs_sound}
use Rattle.phases_meter.proofs.Simulates.{account_sound}
use Rattle.phases_page.specs.Layout.{limiters_area, three_phase_layout, three_phase_directory, three_phase_page_of}
use Rattle.phases_page.specs.AccountPage.{three_phase_printed_pairs, three_phase_fields, three_phase_account_page}

module _ (a : ThreePhaseAccount) where
  pairs_written : flat_map (λ (p : ℕ × ℕ). be 2 p.0 ++ be 2 p.1) three_phase_printed_pairs ≡ three_phase_directory
  unfolding three_phase_directory
  pairs_written = refl

  fields_written : (r : List ℕ)
      → field_bytes (three_phase_fields a) ++ r
      ≡ control_area.enc (three_phase_holding a).values.control
      ++ (limiters_area.enc (three_phase_record_of (three_phase_holding a)).scalars.limiters
      ++ (clock_area.enc a.clock
      ++ (alarms_area.enc (three_phase_holding a).values.alarms
      ++ (register_area.enc (three_phase_holding a).values.errors ++ r))))
  unfolding flat_map
  fields_written r = simp (append_assoc, append-nil)

  account_written : length a.logs ≡ 3 → Short a.logs → three_phase_account_page a ≡ three_phase_page_of (three_phase_record_of (three_phase_holding a))
  unfolding three_phase_account_page three_phase_layout
  account_written t s = rw (pairs_written, fields_written (flat_map log_bytes a.logs), ← logs_written a.logs t s)

  sound_written : (rows : List EventRow) → sound_state rows (three_phase_holding a) ≡ true
      → three_phase_account_page a ≡ three_phase_page_of (three_phase_record_of (three_phase_holding a))
  sound_written rows e =
      let logs = logs_sound rows (three_phase_holding a) refl e in
      account_written (lists_length rows a.logs logs) (lists_short rows a.logs logs)

-- of the account of every list of calls from accepted settings
pub list_written : (rows : List EventRow) → every lawful rows ≡ true → (f : ThreePhaseFresh) (calls : List ThreePhaseCall) → ThreePhaseSettings f
    → AllThreePhaseInRange calls
    → three_phase_account_page (three_phase_account rows f calls) ≡ three_phase_page_of (three_phase_record_of (three_phase_holding (three_phase_account rows f calls)))
list_written rows table f calls t i = sound_written (three_phase_account rows f calls) rows (account_sound rows table f t calls i)
