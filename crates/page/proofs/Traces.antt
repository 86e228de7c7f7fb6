-- Demand 3: the record after a list holds the account, its numbers fit the page's bytes, and a page gives back the record that it was written from.
use Rattle.page.proofs.Common.{◌≡◌, refl, sym, ap, ◌∙◌, true, cond, List, ℕ, ◌≤◌, arith, eqb, length, replicate, le-leb, Accepted, Meter}
use Rattle.page.proofs.Common.{first_limiter, state_of}
use Rattle.page.proofs.Common.{record_of, sound_meter}
use Rattle.emergency.specs.declared.Emergency.{Emergency}
use Rattle.emergency.specs.Emergency.{groups_in}
use Rattle.history.specs.Effects.{Profile}
use Rattle.history.specs.Profile.{ProfileState, no_profile, waiting, active}
use Rattle.history.specs.OnePhase.{Account}
use Rattle.machine.specs.Values.{State}
use Rattle.machine.specs.Sound.{sound_state}
use Rattle.machine.specs.Holding.{emergency_of}
use Rattle.machine.proofs.Profile.{groups_back}
use Rattle.meter.specs.Machine.{record_after}
use Rattle.meter.specs.Settings.{Settings}
use Rattle.meter.specs.Holding.{holding}
use Rattle.meter.proofs.Accepting.{fresh_laws}
use Rattle.meter.specs.Laws.{LawsOf}
use Rattle.meter.proofs.Laws.{laws as meter_laws}
use Rattle.meter.proofs.Values.{record_sound}
use Rattle.meter.proofs.Simulates.{account_sound}
use Rattle.page.specs.Layout.{size, page_of, write_answer}
use Rattle.page.specs.Laws.{Typed}
use Rattle.page.specs.Examples.{worked, unused, by_built_in, by_own_table, Examples}
use Rattle.page.proofs.Example.{worked_page, two_accounts, distinct_page, waiting_area}
use Rattle.page.specs.AccountPage.{account_page}
use Rattle.page.specs.Demand3.{Trace, last_record, page_after, trace_account, Demand3}
use Rattle.page.proofs.RoundTrip.{laws}
use Rattle.page.proofs.Ranges.{account_typed}
use Rattle.page.proofs.Printed.{list_written}

-- the profile that the fields of the ninth area hold
abbrev profile_held : Emergency → ProfileState
profile_held e =
    let set : Profile = record { id = e.id; threshold = e.threshold; activation = e.activation; duration = e.duration } in
    cond (eqb e.state 0) no_profile (cond (eqb e.state 1) (waiting set) (active set e.left))

profile_back : (ids : List ℕ) (p : ProfileState) → profile_held (emergency_of ids p) ≡ p
profile_back ids no_profile = refl
profile_back ids (waiting w) = refl
profile_back ids (active w left) = refl

-- an account is the one whose values it names
abbrev named : State → Account
named v =
    record {
      mode = v.values.control.mode;
      switch = v.values.control.state;
      openings = v.values.control.openings;
      threshold = (first_limiter v.values.limiters).threshold;
      over = (first_limiter v.values.limiters).over;
      under = (first_limiter v.values.limiters).under;
      exceeded = (first_limiter v.values.limiters).exceeded;
      run = (first_limiter v.values.limiters).run;
      clock = v.values.clock;
      alarms = v.values.alarms.register.bits;
      alarm_filter = v.values.alarms.register.filter;
      alarm_count = v.values.alarms.count;
      errors = v.values.errors.bits;
      error_filter = v.values.errors.filter;
      logs = v.logs;
      groups = groups_in v.values.emergency;
      profile = profile_held v.values.emergency;
    }

named_back : (a : Account) → named (holding a) ≡ a
named_back a =
    λ i.
    record {
      mode = a.mode;
      switch = a.switch;
      openings = a.openings;
      threshold = a.threshold;
      over = a.over;
      under = a.under;
      exceeded = a.exceeded;
      run = a.run;
      clock = a.clock;
      alarms = a.alarms;
      alarm_filter = a.alarm_filter;
      alarm_count = a.alarm_count;
      errors = a.errors;
      error_filter = a.error_filter;
      logs = a.logs;
      groups = groups_back a.groups a.profile i;
      profile = profile_back a.groups a.profile i;
    }

-- the meter's laws by the list's table
by_table : (t : Trace) → LawsOf t.rows
by_table t = meter_laws.1 t.rows t.lawful_rows

module _ (t : Trace) where
  settings : Settings t.settings
  settings = fresh_laws.accepted_settings t.settings t.settings_in_range t.accepted

  -- the record is the one that holds the account
  pub last_record_lem : last_record t ≡ record_of (holding (trace_account t))
  last_record_lem =
      ap (λ (m : Meter). record_after t.rows m t.calls) (fresh_laws.accepted_meter t.settings t.accepted)
      ∙ (by_table t).simulates t.settings t.calls settings t.calls_in_range

  -- its values are sound, and its numbers values of their types
  values_sound : sound_state t.rows (holding (trace_account t)) ≡ true
  values_sound = account_sound t.rows t.lawful_rows t.settings settings t.calls t.calls_in_range

  typed : Typed (record_of (holding (trace_account t)))
  typed = account_typed t.rows t.lawful_rows t.settings settings t.calls t.calls_in_range

  record_is_sound : sound_meter t.rows (record_of (holding (trace_account t))) ≡ true
  record_is_sound = record_sound t.rows (holding (trace_account t)) refl values_sound

  -- and its page is the one that document 01 prints of the account
  printed : account_page (trace_account t) ≡ page_of (record_of (holding (trace_account t)))
  printed = list_written t.rows t.lawful_rows t.settings t.calls settings t.calls_in_range

  last_sound : sound_meter t.rows (last_record t) ≡ true
  last_sound = rw last_record_lem record_is_sound

  module _ (out : List ℕ) (room : size ≤ length out) where
    page_accepted : write_answer t.rows (last_record t) out ≡ Accepted
    unfolding write_answer
    page_accepted = rw (last_sound, le-leb size (length out) room)

    page_held : page_after t out ≡ account_page (trace_account t)
    page_held = (laws.by_table t.rows).accepted_page (last_record t) out page_accepted ∙ ap page_of last_record_lem ∙ sym printed

-- two accounts with one page are one account
pub same_account : (s t : Trace) → account_page (trace_account s) ≡ account_page (trace_account t) → trace_account s ≡ trace_account t
same_account s t e =
    let records = laws.injective s.rows t.rows (record_of (holding (trace_account s))) (record_of (holding (trace_account t))) (typed s) (typed t)
    (record_is_sound s) (record_is_sound t) (sym (printed s) ∙ e ∙ printed t) in
    let values : holding (trace_account s) ≡ holding (trace_account t) =
    sym ((by_table s).state_of_record (holding (trace_account s)) refl (values_sound s)) ∙ ap state_of records ∙ (by_table t).state_of_record
    (holding (trace_account t)) refl (values_sound t) in
    sym (named_back (trace_account s)) ∙ ap named values ∙ named_back (trace_account t)

pub demand_3 : Demand3
demand_3 s t out out' room room' =
    let first = page_held s out room in
    let second = page_held t out' room' in
    record {
      first_accepted = page_accepted s out room;
      second_accepted = page_accepted t out' room';
      first_page = first;
      second_page = second;
      same_account = λ e. same_account s t (sym first ∙ e ∙ second);
      same_page = λ e. first ∙ ap account_page e ∙ sym second;
    }

-- of the worked example and a fresh meter
pub examples : Examples
examples =
    record {
      worked_page = worked_page;
      distinct_page = distinct_page;
      waiting_area = waiting_area;
      compared = demand_3 worked unused (replicate size 255) (replicate 600 0) (omega arith) (omega arith);
      two_accounts = two_accounts;
      two_tables = (demand_3 by_built_in by_own_table (replicate size 0) (replicate size 0) (omega arith) (omega arith)).same_page two_accounts;
    }
