-- What holds of the machine: what a reader wants beside the definitions.
use Rattle.std.specs.Prelude.{◌≡◌, true, false, List, ◌∷◌, ℕ, length}
use Rattle.base.specs.Tests.{every}
use Rattle.events.specs.Table.{EventRow, built_in, lawful}
use Rattle.logs.specs.Layout.{Sized}
use Rattle.emergency.specs.Emergency.{groups_in}
use Rattle.calls.specs.declared.Call.{Call}
use Rattle.calls.specs.declared.Answer.TheVariants.{Refused}
use Rattle.calls.specs.declared.Letter.TheVariants.{None}
use Rattle.calls.specs.declared.Command.{Command}
use Rattle.calls.specs.Calls.{InRange, AllInRange}
use Rattle.history.specs.Effects.{reading}
use Rattle.history.specs.OnePhase.{Fresh, as_call, account, letter}
use Rattle.machine.specs.Sound.{sound_state}
use Rattle.machine.specs.Values.{State}
use Rattle.status.specs.Answers.{answer_of}
use Rattle.meter.specs.declared.Meter.{Meter}
use Rattle.meter.specs.State.{state_of, record_of}
use Rattle.meter.specs.Sound.{sound_meter}
use Rattle.meter.specs.Machine.{applied, commanded, record_after}
use Rattle.meter.specs.Parts.{carried_out_in_parts, commanded_in_parts}
use Rattle.meter.specs.Settings.{Settings}
use Rattle.meter.specs.Fresh.{fresh_state}
use Rattle.meter.specs.Holding.{holding}

-- of soundness, answers and refusals, and of whole lists of calls
pub record LawsOf (rows : List EventRow) : Type 0 where
  -- a sound record is the layout of its values, and sound values with one limiter are those of their layout
  pub record_of_state : (m : Meter) → Sized m.logs → sound_meter rows m ≡ true → record_of (state_of m) ≡ m
  pub state_of_record : (v : State) → length v.values.limiters ≡ 1 → sound_state rows v ≡ true → state_of (record_of v) ≡ v
  -- every call keeps a sound record sound
  pub kept_sound : (m : Meter) (c : Call) → Sized m.logs → InRange c → sound_meter rows m ≡ true
      → sound_meter rows (applied rows m c).meter ≡ true
  -- of a sound record with arrays of their types' lengths, a call on the record in parts, which does not test it, is a call on the record; so is a
  -- command
  pub sound_in_parts : (m : Meter) (c : Call) → Sized m.logs → sound_meter rows m ≡ true → carried_out_in_parts rows m c ≡ applied rows m c
  pub command_in_parts : (m : Meter) (c : Command) → Sized m.logs → sound_meter rows m ≡ true
      → commanded_in_parts rows m c ≡ commanded rows m c
  -- for a sound record the answer is the one that the account's rule gives: each number comes under its condition only
  pub answers : (m : Meter) (c : Call) → sound_meter rows m ≡ true
      → (applied rows m c).answer ≡ answer_of (reading rows m.control.mode (groups_in m.emergency) (as_call c))
  -- 'record | 12 | not sound; every call'
  pub unsound_refused_lem : (m : Meter) (c : Call) → sound_meter rows m ≡ false → (applied rows m c).answer ≡ Refused 12
  -- on any refusal the record is the one that came in, of a call and of a command
  pub refused_same : (m : Meter) (c : Call) (n : ℕ) → (applied rows m c).answer ≡ Refused n
      → (applied rows m c).meter ≡ m
  pub command_refused_same : (m : Meter) (c : Command) (n : ℕ) → (commanded rows m c).answer ≡ Refused n
      → (commanded rows m c).meter ≡ m
  -- document 02, A2: '.. none, and so does a call that is refused ..', whatever the record
  pub refused_letter : (m : Meter) (c : Call) (n : ℕ) → (applied rows m c).answer ≡ Refused n
      → (applied rows m c).letter ≡ None
  -- after any list of calls from accepted fresh settings, refused calls among them, the record is sound: 12 never comes
  pub reached_sound : (f : Fresh) (calls : List Call) → Settings f → AllInRange calls
      → sound_meter rows (record_after rows (record_of (fresh_state f)) calls) ≡ true
  -- and it is the record that holds the account
  pub simulates : (f : Fresh) (calls : List Call) → Settings f → AllInRange calls
      → record_after rows (record_of (fresh_state f)) calls ≡ record_of (holding (account rows f calls))
  -- document 02, A2: the letter of one more call is the one that the account gives: by its switch before and after the call, and the call itself
  pub letters : (f : Fresh) (calls : List Call) (c : Call) → Settings f → AllInRange (c ∷ calls)
      → (applied rows (record_after rows (record_of (fresh_state f)) calls) c).letter ≡ letter rows f calls c

-- of every event table whose rows are lawful, and the built-in one is such a table
abbrev pub Laws : Type 0
Laws = (every lawful built_in ≡ true) × ((rows : List EventRow) → every lawful rows ≡ true → LawsOf rows)
