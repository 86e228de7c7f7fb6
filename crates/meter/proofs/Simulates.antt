-- After any list of calls the record holds the account: the machine's theorem, of one monitored value.
use mathlib.Core.Path.{◌≡◌, refl, ap, ◌∙◌}
use mathlib.Core.Bool.{true}
use mathlib.Core.List.{List, [], ◌∷◌, map, reverse, reverse_aux}
use Rattle.base.specs.Tests.{every, numbers_from}
use Rattle.events.specs.Table.{EventRow, lawful}
use Rattle.calls.specs.declared.Call.{Call}
use Rattle.calls.specs.Calls.{AllInRange}
use Rattle.history.specs.Effects.{AnyCall}
use Rattle.history.specs.Account.{accepted_calls, openings, account_after}
use Rattle.history.specs.OnePhase.{Fresh, as_fresh, as_call, account, letter}
use Rattle.machine.specs.Values.{State}
use Rattle.machine.specs.Sound.{sound_state}
use Rattle.machine.specs.Ranges.{AllAnyInRange}
use Rattle.machine.specs.Holding.{values_holding}
use Rattle.machine.proofs.Simulates.{fresh_values_lem, next, named_sound, named_letter_lem}
use Rattle.meter.specs.declared.Meter.{Meter}
use Rattle.meter.specs.State.{record_of}
use Rattle.meter.specs.Sound.{sound_meter}
use Rattle.meter.specs.Machine.{applied, record_after}
use Rattle.meter.specs.Settings.{Settings}
use Rattle.meter.specs.Fresh.{fresh_state}
use Rattle.meter.specs.Holding.{holding}
use Rattle.meter.proofs.Values.{record_sound}
use Rattle.meter.proofs.Ranges.{settings, call_range, calls_range}
use Rattle.meter.proofs.Preserved.{applied_state, applied_letter}

module _ (rows : List EventRow) (table : every lawful rows ≡ true) (f : Fresh) (t : Settings f) where
  -- the values that the account of a list names; newest call first
  abbrev named : List AnyCall → State
  named cs = values_holding (account_after rows (as_fresh f) cs)

  -- after some calls, newest first, and then others, in their order
  holds_from : (before : List AnyCall) (calls : List Call) → AllAnyInRange before → AllInRange calls
      → record_after rows (record_of (named before)) calls ≡ record_of (named (reverse_aux (map as_call calls) before))
  unfolding record_after numbers_from
  holds_from before [] i k = refl
  holds_from before (c ∷ calls) i k =
      let g = settings f t in
      let r = call_range c k.0 in
      ap (λ (m : Meter). record_after rows m calls)
      (applied_state rows (named before) refl (named_sound rows table (as_fresh f) g before i) c
      ∙ ap record_of (next rows table (as_fresh f) g (as_call c) before r i))
      ∙ holds_from (as_call c ∷ before) calls (r, i) k.1

  -- after any list of calls the record is the one that holds the account
  pub simulates : (calls : List Call) → AllInRange calls → record_after rows (record_of (fresh_state f)) calls ≡ record_of (holding (account rows f calls))
  unfolding accepted_calls openings numbers_from
  simulates calls i =
      ap (λ (v : State). record_after rows (record_of v) calls) (fresh_values_lem (as_fresh f) (settings f t)) ∙ holds_from [] calls tt i

  -- the letter of one more call is the account's
  pub letters : (calls : List Call) (c : Call) → AllInRange (c ∷ calls)
      → (applied rows (record_after rows (record_of (fresh_state f)) calls) c).letter ≡ letter rows f calls c
  unfolding numbers_from
  letters calls c i =
      let g = settings f t in
      let cs = reverse (map as_call calls) in
      let r = calls_range calls i.1 in
      ap (λ (m : Meter). (applied rows m c).letter) (simulates calls i.1)
      ∙ applied_letter rows (named cs) refl (named_sound rows table (as_fresh f) g cs r) c
      ∙ named_letter_lem rows table (as_fresh f) g (as_call c) cs (call_range c i.0) r

  -- and its values are sound
  pub account_sound : (calls : List Call) → AllInRange calls → sound_state rows (holding (account rows f calls)) ≡ true
  unfolding numbers_from
  account_sound calls i = named_sound rows table (as_fresh f) (settings f t) (reverse (map as_call calls)) (calls_range calls i)

  pub reached_sound : (calls : List Call) → AllInRange calls → sound_meter rows (record_after rows (record_of (fresh_state f)) calls) ≡ true
  reached_sound calls i = rw (simulates calls i) (record_sound rows (holding (account rows f calls)) refl (account_sound calls i))
