-- Demand 3 of the three-phase meter: the record after a list holds the account, its numbers fit the page's bytes, and a page gives back the record that it was
-- written from.
use Rattle.page.proofs.Common.{◌≡◌, refl, sym, ap, ◌∙◌, true, List, ℕ, ◌≤◌, arith, length, replicate, le-leb, Accepted}
use Rattle.limiter.specs.declared.Limiter.{Limiter}
use Rattle.history.specs.Account.{MonitoredValue}
use Rattle.machine.specs.Values.{State}
use Rattle.machine.specs.Sound.{sound_state}
use Rattle.phases.specs.ThreePhase.{ThreePhaseAccount}
use Rattle.phases_steps.specs.Scalars.{limiter_at}
use Rattle.phases_meter.specs.declared.ThreePhaseMeter.{ThreePhaseMeter}
use Rattle.phases_meter.specs.State.{three_phase_state_of, three_phase_record_of, sound_three_phase_meter}
use Rattle.phases_meter.specs.Machine.{three_phase_record_after}
use Rattle.phases_meter.specs.Settings.{ThreePhaseSettings}
use Rattle.phases_meter.specs.Holding.{three_phase_holding}
use Rattle.phases_meter.proofs.Accepting.{fresh_laws}
use Rattle.phases_meter.proofs.Values.{record_sound, state_of_record}
use Rattle.phases_meter.proofs.Simulates.{simulates, account_sound}
use Rattle.phases_page.specs.Layout.{three_phase_size, three_phase_page_of, three_phase_write_answer}
use Rattle.phases_page.specs.Laws.{ThreePhaseTyped}
use Rattle.phases_page.specs.Examples.{sampled, three_phase_unused, three_phase_by_built_in, three_phase_by_own_table, Examples}
use Rattle.phases_page.specs.AccountPage.{three_phase_account_page}
use Rattle.phases_page.specs.Demand3.{ThreePhaseTrace, three_phase_last_record, three_phase_page_after, three_phase_trace_account, ThreePhaseDemand3}
use Rattle.phases_page.proofs.Example.{sampled_page, two_accounts, distinct_page}
use Rattle.phases_page.proofs.RoundTrip.{laws}
use Rattle.phases_page.proofs.Ranges.{account_typed}
use Rattle.phases_page.proofs.Printed.{list_written}

-- ---- an account is the one whose values it names
abbrev monitored : Limiter → MonitoredValue
monitored l = record { threshold = l.threshold; exceeded = l.exceeded; run = l.run }

abbrev named : State → ThreePhaseAccount
named v =
    let limiter : ℕ → Limiter = limiter_at v.values.limiters in
    record {
      mode = v.values.control.mode;
      switch = v.values.control.state;
      openings = v.values.control.openings;
      over = (limiter 0).over;
      under = (limiter 0).under;
      l1 = monitored (limiter 0);
      l2 = monitored (limiter 1);
      l3 = monitored (limiter 2);
      sum = monitored (limiter 3);
      clock = v.values.clock;
      alarms = v.values.alarms.register.bits;
      alarm_filter = v.values.alarms.register.filter;
      alarm_count = v.values.alarms.count;
      errors = v.values.errors.bits;
      error_filter = v.values.errors.filter;
      logs = v.logs;
    }

-- ---- of one list
module _ (t : ThreePhaseTrace) where
  abbrev held : State
  held = three_phase_holding (three_phase_trace_account t)

  settings : ThreePhaseSettings t.settings
  settings = fresh_laws.accepted_settings t.settings t.settings_in_range t.accepted

  -- the record is the one that holds the account
  pub last_record_lem : three_phase_last_record t ≡ three_phase_record_of held
  last_record_lem =
      ap (λ (m : ThreePhaseMeter). three_phase_record_after t.rows m t.calls) (fresh_laws.accepted_meter t.settings t.accepted)
      ∙ simulates t.rows t.lawful_rows t.settings settings t.calls t.calls_in_range

  -- its values are sound, and its numbers values of their types
  values_sound : sound_state t.rows held ≡ true
  values_sound = account_sound t.rows t.lawful_rows t.settings settings t.calls t.calls_in_range

  typed : ThreePhaseTyped (three_phase_record_of held)
  typed = account_typed t.rows t.lawful_rows t.settings settings t.calls t.calls_in_range

  record_is_sound : sound_three_phase_meter t.rows (three_phase_record_of held) ≡ true
  record_is_sound = record_sound t.rows held refl values_sound

  -- it gives its values back
  values_back : three_phase_state_of (three_phase_record_of held) ≡ held
  values_back = state_of_record t.rows held refl values_sound

  -- and its page is the one that the documents print of the account
  printed : three_phase_account_page (three_phase_trace_account t) ≡ three_phase_page_of (three_phase_record_of held)
  printed = list_written t.rows t.lawful_rows t.settings t.calls settings t.calls_in_range

  last_sound : sound_three_phase_meter t.rows (three_phase_last_record t) ≡ true
  last_sound = rw last_record_lem record_is_sound

  module _ (out : List ℕ) (room : three_phase_size ≤ length out) where
    page_accepted : three_phase_write_answer t.rows (three_phase_last_record t) out ≡ Accepted
    unfolding three_phase_write_answer
    page_accepted = rw (last_sound, le-leb three_phase_size (length out) room)

    page_held : three_phase_page_after t out ≡ three_phase_account_page (three_phase_trace_account t)
    page_held =
        (laws.by_table t.rows).accepted_page (three_phase_last_record t) out page_accepted ∙ ap three_phase_page_of last_record_lem ∙ sym printed

-- ---- of two

-- two accounts with one page are one account
pub same_account : (s t : ThreePhaseTrace)
    → three_phase_account_page (three_phase_trace_account s) ≡ three_phase_account_page (three_phase_trace_account t)
    → three_phase_trace_account s ≡ three_phase_trace_account t
same_account s t e =
    let records = laws.injective s.rows t.rows (three_phase_record_of (held s)) (three_phase_record_of (held t)) (typed s) (typed t)
    (record_is_sound s) (record_is_sound t) (sym (printed s) ∙ e ∙ printed t) in
    let values : held s ≡ held t = sym (values_back s) ∙ ap three_phase_state_of records ∙ values_back t in
    ap named values

pub demand_3 : ThreePhaseDemand3
demand_3 s t out out' room room' =
    let first = page_held s out room in
    let second = page_held t out' room' in
    record {
      first_accepted = page_accepted s out room;
      second_accepted = page_accepted t out' room';
      first_page = first;
      second_page = second;
      same_account = λ e. same_account s t (sym first ∙ e ∙ second);
      same_page = λ e. first ∙ ap three_phase_account_page e ∙ sym second;
    }

-- of the five samples and a fresh meter
pub examples : Examples
examples =
    record {
      sampled_page = sampled_page;
      distinct_page = distinct_page;
      compared = demand_3 sampled three_phase_unused (replicate three_phase_size 255) (replicate 587 0) (omega arith) (omega arith);
      two_accounts = two_accounts;
      two_tables =
          (demand_3 three_phase_by_built_in three_phase_by_own_table (replicate three_phase_size 0) (replicate three_phase_size 0) (omega arith) (omega arith)).same_page
          two_accounts;
    }
