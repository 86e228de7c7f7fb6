-- After any list of calls the record of the three-phase meter holds the account: the machine's theorem, of four monitored values.
use Rattle.base.proofs.Prelude.{◌≡◌, refl, ap, ◌∙◌, subst, true, List, [], ◌∷◌, map, every}
use mathlib.Core.List.{reverse, reverse_aux}
use Rattle.base.specs.Tests.{numbers_from}
use Rattle.events.specs.Table.{EventRow, lawful}
use Rattle.history.specs.Effects.{AnyCall}
use Rattle.history.specs.Account.{accepted_calls, openings, account_after}
use Rattle.machine.specs.Values.{State}
use Rattle.machine.specs.Sound.{sound_state}
use Rattle.machine.specs.Ranges.{AllAnyInRange}
use Rattle.machine.specs.Holding.{values_holding}
use Rattle.machine.proofs.Simulates.{fresh_values_lem, next, named_sound, named_letter_lem}
use Rattle.phases.specs.declared.ThreePhaseCall.{ThreePhaseCall}
use Rattle.phases.specs.Calls.{AllThreePhaseInRange}
use Rattle.phases.specs.ThreePhase.{ThreePhaseFresh, as_any_fresh, as_any_call, three_phase_account, three_phase_letter}
use Rattle.phases_meter.specs.declared.ThreePhaseMeter.{ThreePhaseMeter}
use Rattle.phases_meter.specs.State.{three_phase_record_of, sound_three_phase_meter}
use Rattle.phases_meter.specs.Machine.{three_phase_applied, three_phase_record_after}
use Rattle.phases_meter.specs.Settings.{ThreePhaseSettings}
use Rattle.phases_meter.specs.Fresh.{three_phase_fresh_state}
use Rattle.phases_meter.specs.Holding.{three_phase_holding}
use Rattle.phases_meter.proofs.Values.{Recorded, record_sound}
use Rattle.phases_meter.proofs.Ranges.{settings, call_range, calls_range}
use Rattle.phases_meter.proofs.Preserved.{applied_state, applied_letter, after_recorded}

module _ (rows : List EventRow) (table : every lawful rows ≡ true) (f : ThreePhaseFresh) (t : ThreePhaseSettings f) where
  -- the values that the account of a list names; newest call first
  abbrev named : List AnyCall → State
  named cs = values_holding (account_after rows (as_any_fresh f) cs)

  -- those of a fresh meter are such that a record can hold them
  fresh_recorded : Recorded (named []).values
  unfolding accepted_calls openings
  fresh_recorded = subst (λ (v : State). Recorded v.values) (fresh_values_lem (as_any_fresh f) (settings f t)) refl

  -- and those after one more call
  next_recorded : (before : List AnyCall) (c : ThreePhaseCall) → AllAnyInRange (as_any_call c ∷ before) → Recorded (named before).values
      → Recorded (named (as_any_call c ∷ before)).values
  next_recorded before c i same =
      let g = settings f t in
      subst (λ (v : State). Recorded v.values) (next rows table (as_any_fresh f) g (as_any_call c) before i.0 i.1)
      (after_recorded rows (named before) same (named_sound rows table (as_any_fresh f) g before i.1) c)

  -- after some calls, newest first, and then others, in their order
  calls_recorded : (before : List AnyCall) (calls : List ThreePhaseCall) → AllAnyInRange before → AllThreePhaseInRange calls → Recorded (named before).values
      → Recorded (named (reverse_aux (map as_any_call calls) before)).values
  calls_recorded before [] i k same = same
  calls_recorded before (c ∷ calls) i k same =
      let r = call_range c k.0 in
      calls_recorded (as_any_call c ∷ before) calls (r, i) k.1 (next_recorded before c (r, i) same)

  holds_from : (before : List AnyCall) (calls : List ThreePhaseCall) → AllAnyInRange before → AllThreePhaseInRange calls → Recorded (named before).values
      → three_phase_record_after rows (three_phase_record_of (named before)) calls
      ≡ three_phase_record_of (named (reverse_aux (map as_any_call calls) before))
  unfolding three_phase_record_after
  holds_from before [] i k same = refl
  holds_from before (c ∷ calls) i k same =
      let g = settings f t in
      let r = call_range c k.0 in
      ap (λ (m : ThreePhaseMeter). three_phase_record_after rows m calls)
      (applied_state rows (named before) same (named_sound rows table (as_any_fresh f) g before i) c
      ∙ ap three_phase_record_of (next rows table (as_any_fresh f) g (as_any_call c) before r i))
      ∙ holds_from (as_any_call c ∷ before) calls (r, i) k.1 (next_recorded before c (r, i) same)

  -- after any list of calls the record is the one that holds the account
  pub simulates : (calls : List ThreePhaseCall) → AllThreePhaseInRange calls
      → three_phase_record_after rows (three_phase_record_of (three_phase_fresh_state f)) calls
      ≡ three_phase_record_of (three_phase_holding (three_phase_account rows f calls))
  unfolding accepted_calls openings numbers_from
  simulates calls i =
      ap (λ (v : State). three_phase_record_after rows (three_phase_record_of v) calls) (fresh_values_lem (as_any_fresh f) (settings f t))
      ∙ holds_from [] calls tt i fresh_recorded

  reached_recorded : (calls : List ThreePhaseCall) → AllThreePhaseInRange calls → Recorded (named (reverse (map as_any_call calls))).values
  reached_recorded calls i = calls_recorded [] calls tt i fresh_recorded

  -- the letter of one more call is the account's
  pub letters : (calls : List ThreePhaseCall) (c : ThreePhaseCall) → AllThreePhaseInRange (c ∷ calls)
      → (three_phase_applied rows (three_phase_record_after rows (three_phase_record_of (three_phase_fresh_state f)) calls) c).letter
      ≡ three_phase_letter rows f calls c
  unfolding numbers_from
  letters calls c i =
      let g = settings f t in
      let cs = reverse (map as_any_call calls) in
      let r = calls_range calls i.1 in
      ap (λ (m : ThreePhaseMeter). (three_phase_applied rows m c).letter) (simulates calls i.1)
      ∙ applied_letter rows (named cs) (reached_recorded calls i.1) (named_sound rows table (as_any_fresh f) g cs r) c
      ∙ named_letter_lem rows table (as_any_fresh f) g (as_any_call c) cs (call_range c i.0) r

  -- and its values are sound
  pub account_sound : (calls : List ThreePhaseCall) → AllThreePhaseInRange calls → sound_state rows (three_phase_holding (three_phase_account rows f calls)) ≡ true
  unfolding numbers_from
  account_sound calls i =
      let cs = reverse (map as_any_call calls) in
      ap (λ v. sound_state rows (record { values = v; logs = (named cs).logs })) (reached_recorded calls i)
      ∙ named_sound rows table (as_any_fresh f) (settings f t) cs (calls_range calls i)

  pub reached_sound : (calls : List ThreePhaseCall) → AllThreePhaseInRange calls
      → sound_three_phase_meter rows (three_phase_record_after rows (three_phase_record_of (three_phase_fresh_state f)) calls) ≡ true
  reached_sound calls i =
      rw (simulates calls i) (record_sound rows (three_phase_holding (three_phase_account rows f calls)) refl (account_sound calls i))
