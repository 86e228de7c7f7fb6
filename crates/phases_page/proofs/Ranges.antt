-- The numbers of an account of the three-phase meter are values of their types: those that are held at 32 bits, and those that calls bring.
use Rattle.page.proofs.Common.{◌≡◌, refl, true, List, map, reverse, arith, every, EventRow, lawful, laid}
use Rattle.logs.proofs.Kept.{lists_short}
use Rattle.history.specs.Effects.{AnyFresh, alarms, errors}
use Rattle.history.specs.Last.{History}
use Rattle.history.specs.Account.{accepted_calls}
use Rattle.machine.specs.Values.{State}
use Rattle.machine.specs.Sound.{sound_state}
use Rattle.machine.proofs.Effects.{AllProper}
use Rattle.machine.proofs.Ranges.{filter_word}
use Rattle.machine.proofs.Simulates.{all_proper}
use Rattle.page.proofs.Ranges.{counts_fit, clocks_fit, codes_fit, bits_word, lines_fit}
use Rattle.phases.specs.declared.ThreePhaseCall.{ThreePhaseCall}
use Rattle.phases.specs.Calls.{AllThreePhaseInRange}
use Rattle.phases.specs.ThreePhase.{ThreePhaseFresh, as_any_fresh, as_any_call, three_phase_account}
use Rattle.phases_meter.specs.State.{three_phase_record_of}
use Rattle.phases_meter.specs.Settings.{ThreePhaseSettings}
use Rattle.phases_meter.specs.Holding.{three_phase_holding}
use Rattle.phases_meter.proofs.Values.{logs_sound, record_sized}
use Rattle.phases_meter.proofs.Ranges.{settings, calls_range}
use Rattle.phases_meter.proofs.Simulates.{account_sound}
use Rattle.phases_page.specs.Laws.{ThreePhaseTyped}

module _ (rows : List EventRow) (table : every lawful rows ≡ true) (f : ThreePhaseFresh) (t : ThreePhaseSettings f) (cs : List ThreePhaseCall)
    (r : AllThreePhaseInRange cs) where
  abbrev g : AnyFresh
  g = as_any_fresh f

  abbrev h : History
  h = accepted_calls rows g (reverse (map as_any_call cs))

  abbrev v : State
  v = three_phase_holding (three_phase_account rows f cs)

  sound : sound_state rows v ≡ true
  sound = account_sound rows table f t cs r

  proper : AllProper g h
  proper = all_proper rows table g (settings f t) (reverse (map as_any_call cs)) (calls_range cs r)

  pub account_typed : ThreePhaseTyped (three_phase_record_of v)
  unfolding laid
  account_typed =
      record {
        openings = omega arith;
        clock = omega arith;
        alarms = bits_word alarms h;
        alarm_filter = filter_word alarms g h proper;
        errors = bits_word errors h;
        error_filter = filter_word errors g h proper;
        logs = record_sized rows v refl sound;
        counts = counts_fit (lists_short rows v.logs (logs_sound rows v refl sound));
        clocks = clocks_fit v.logs (lines_fit g h proper);
        codes = codes_fit v.logs (lines_fit g h proper);
      }
