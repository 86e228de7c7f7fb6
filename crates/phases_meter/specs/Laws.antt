-- What holds of the machine on the three-phase meter's record: what a reader wants beside the definitions.
use Rattle.std.specs.Prelude.{◌≡◌, true, false, List, [], ◌∷◌, ℕ}
use Rattle.base.specs.Tests.{every}
use Rattle.events.specs.Table.{EventRow, built_in, lawful}
use Rattle.logs.specs.Layout.{Sized}
use Rattle.calls.specs.declared.Answer.TheVariants.{Refused}
use Rattle.calls.specs.declared.Letter.TheVariants.{None}
use Rattle.history.specs.Effects.{reading}
use Rattle.machine.specs.Values.{State}
use Rattle.machine.specs.Sound.{sound_state}
use Rattle.status.specs.Answers.{answer_of}
use Rattle.phases.specs.declared.ThreePhaseCall.{ThreePhaseCall}
use Rattle.phases.specs.declared.ThreePhaseCommand.{ThreePhaseCommand}
use Rattle.phases.specs.Calls.{ThreePhaseInRange, AllThreePhaseInRange}
use Rattle.phases.specs.ThreePhase.{ThreePhaseFresh, as_any_call, three_phase_account, three_phase_letter}
use Rattle.phases_steps.specs.Scalars.{three_phase_values, three_phase_scalars}
use Rattle.phases_meter.specs.declared.ThreePhaseMeter.{ThreePhaseMeter}
use Rattle.phases_meter.specs.State.{three_phase_state_of, three_phase_record_of, sound_three_phase_meter}
use Rattle.phases_meter.specs.Machine.{three_phase_applied, three_phase_commanded, three_phase_record_after}
use Rattle.phases_meter.specs.Parts.{three_phase_in_parts, three_phase_command_in_parts}
use Rattle.phases_meter.specs.Settings.{ThreePhaseSettings}
use Rattle.phases_meter.specs.Fresh.{three_phase_fresh_state}
use Rattle.phases_meter.specs.Holding.{three_phase_holding}

-- of soundness, answers and refusals, and of whole lists of calls
pub record LawsOf (rows : List EventRow) : Type 0 where
  -- a sound record is the layout of its values: each monitored value has its own threshold, Exceeded and Run
  pub record_of_state : (m : ThreePhaseMeter) → Sized m.logs → sound_three_phase_meter rows m ≡ true
      → three_phase_record_of (three_phase_state_of m) ≡ m
  -- and sound values that are a record's, four limiters with the same Over and Under and no profile, are those of their layout
  pub state_of_record : (v : State) → three_phase_values (three_phase_scalars v.values) ≡ v.values → sound_state rows v ≡ true
      → three_phase_state_of (three_phase_record_of v) ≡ v
  -- every call keeps a sound record sound
  pub kept_sound : (m : ThreePhaseMeter) (c : ThreePhaseCall) → Sized m.logs → ThreePhaseInRange c → sound_three_phase_meter rows m ≡ true
      → sound_three_phase_meter rows (three_phase_applied rows m c).meter ≡ true
  -- of a sound record with arrays of their types' lengths, a call on the record in parts, which does not test it, is a call on the record; so is a
  -- command
  pub sound_in_parts : (m : ThreePhaseMeter) (c : ThreePhaseCall) → Sized m.logs → sound_three_phase_meter rows m ≡ true
      → three_phase_in_parts rows m c ≡ three_phase_applied rows m c
  pub command_in_parts : (m : ThreePhaseMeter) (c : ThreePhaseCommand) → Sized m.logs → sound_three_phase_meter rows m ≡ true
      → three_phase_command_in_parts rows m c ≡ three_phase_commanded rows m c
  -- for a sound record the answer is the one that the account's rule gives: each number comes under its condition only
  pub answers : (m : ThreePhaseMeter) (c : ThreePhaseCall) → sound_three_phase_meter rows m ≡ true
      → (three_phase_applied rows m c).answer ≡ answer_of (reading rows m.scalars.status.control.mode [] (as_any_call c))
  -- 'record | 12 | not sound; every call'
  pub unsound_refused_lem : (m : ThreePhaseMeter) (c : ThreePhaseCall) → sound_three_phase_meter rows m ≡ false → (three_phase_applied rows m c).answer ≡ Refused 12
  -- on any refusal the record is the one that came in, of a call and of a command
  pub refused_same : (m : ThreePhaseMeter) (c : ThreePhaseCall) (n : ℕ) → (three_phase_applied rows m c).answer ≡ Refused n
      → (three_phase_applied rows m c).meter ≡ m
  pub command_refused_same : (m : ThreePhaseMeter) (c : ThreePhaseCommand) (n : ℕ) → (three_phase_commanded rows m c).answer ≡ Refused n
      → (three_phase_commanded rows m c).meter ≡ m
  -- document 02, A2: '.. none, and so does a call that is refused ..', whatever the record
  pub refused_letter : (m : ThreePhaseMeter) (c : ThreePhaseCall) (n : ℕ) → (three_phase_applied rows m c).answer ≡ Refused n
      → (three_phase_applied rows m c).letter ≡ None
  -- after any list of calls from accepted fresh settings, refused calls among them, the record is sound: 12 never comes
  pub reached_sound : (f : ThreePhaseFresh) (calls : List ThreePhaseCall) → ThreePhaseSettings f → AllThreePhaseInRange calls
      → sound_three_phase_meter rows (three_phase_record_after rows (three_phase_record_of (three_phase_fresh_state f)) calls) ≡ true
  -- and it is the record that holds the account
  pub simulates : (f : ThreePhaseFresh) (calls : List ThreePhaseCall) → ThreePhaseSettings f → AllThreePhaseInRange calls
      → three_phase_record_after rows (three_phase_record_of (three_phase_fresh_state f)) calls
      ≡ three_phase_record_of (three_phase_holding (three_phase_account rows f calls))
  -- document 02, A2: the letter of one more call is the one that the account gives: by its switch before and after the call, and the call itself
  pub letters : (f : ThreePhaseFresh) (calls : List ThreePhaseCall) (c : ThreePhaseCall) → ThreePhaseSettings f → AllThreePhaseInRange (c ∷ calls)
      → (three_phase_applied rows (three_phase_record_after rows (three_phase_record_of (three_phase_fresh_state f)) calls) c).letter
      ≡ three_phase_letter rows f calls c

-- of every event table whose rows are lawful, and the built-in one is such a table
abbrev pub Laws : Type 0
Laws = (every lawful built_in ≡ true) × ((rows : List EventRow) → every lawful rows ≡ true → LawsOf rows)
