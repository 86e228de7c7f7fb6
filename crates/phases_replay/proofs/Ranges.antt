-- The numbers of records that are read from bytes are values of their types: of the fresh settings, and of every call that the records name.
use Rattle.base.proofs.Prelude.{List, [], ◌∷◌, ◌^◌, ◌<◌, eqb}
use Rattle.codec.specs.Format.{AllHold}
use Rattle.phases.specs.declared.ThreePhaseCall.{ThreePhaseCall}
use Rattle.phases.specs.declared.ThreePhaseCommand.{ThreePhaseCommand}
use Rattle.phases.specs.Calls.{ThreePhaseParsed}
use Rattle.calls.specs.declared.CommandError.TheVariants.{NoKind}
use Rattle.std.specs.Prelude.{Ok, Err}
use Rattle.phases.specs.Calls.{three_phase_call_of, ThreePhaseInRange, AllThreePhaseInRange}
use Rattle.phases_meter.specs.Settings.{ThreePhaseSettingsInRange}
use Rattle.replay.proofs.Ranges.{word, signed_range, this_or}
use Rattle.phases_replay.specs.Input.{three_phase_record_format}
use Rattle.phases_replay.specs.Replay.{three_phase_settings_in, three_phase_with_call, three_phase_calls_in}

-- what is named, if anything, is in range
abbrev pub NamedInRange : ThreePhaseParsed → Type 0
NamedInRange (Ok c) = ThreePhaseInRange c
NamedInRange (Err NoKind) = Unit

-- of any command whose first six numbers are of 32 bits: no call has more
pub call_range : (r : ThreePhaseCommand) → r.n1 < 256 ^ 4 → r.n2 < 256 ^ 4 → r.n3 < 256 ^ 4 → r.n4 < 256 ^ 4 → r.n5 < 256 ^ 4 → r.n6 < 256 ^ 4
    → NamedInRange (three_phase_call_of r)
unfolding three_phase_call_of
call_range r h1 h2 h3 h4 h5 h6 =
    let k = r.kind in
    let n = word r.n1 h1 in
    let z1 = signed_range r.n1 h1 in
    let z2 = signed_range r.n2 h2 in
    let z3 = signed_range r.n3 h3 in
    this_or NamedInRange (eqb k 1) (z1, (z2, z3))
    (this_or NamedInRange (eqb k 2) tt
    (this_or NamedInRange (eqb k 3) tt
    (this_or NamedInRange (eqb k 4) tt
    (this_or NamedInRange (eqb k 5) tt
    (this_or NamedInRange (eqb k 6) n
    (this_or NamedInRange (eqb k 7) (z1, (z2, (z3, (signed_range r.n4 h4, (word r.n5 h5, word r.n6 h6)))))
    (this_or NamedInRange (eqb k 8) n
    (this_or NamedInRange (eqb k 9) n
    (this_or NamedInRange (eqb k 10) n
    (this_or NamedInRange (eqb k 11) n
    (this_or NamedInRange (eqb k 12) n
    (this_or NamedInRange (eqb k 13) n
    (this_or NamedInRange (eqb k 14) n
    (this_or NamedInRange (eqb k 15) n
    tt))))))))))))))

module _ (r : ThreePhaseCommand) (h : three_phase_record_format.Holds r) where
  pub settings_range : ThreePhaseSettingsInRange (three_phase_settings_in r)
  settings_range =
      let n = h.0.1.1 in
      record {
        l1 = signed_range r.n2 n.0;
        l2 = signed_range r.n3 n.1.0;
        l3 = signed_range r.n4 n.1.1.0;
        sum = signed_range r.n5 n.1.1.1.0;
        clock = word r.n8 n.1.1.1.1.1.1;
      }

  pub parsed_range : NamedInRange (three_phase_call_of r)
  parsed_range = let n = h.0.1 in call_range r n.0 n.1.0 n.1.1.0 n.1.1.1.0 n.1.1.1.1.0 n.1.1.1.1.1.0

with_call_lem : (p : ThreePhaseParsed) (cs : List ThreePhaseCall) → NamedInRange p → AllThreePhaseInRange cs → AllThreePhaseInRange (three_phase_with_call p cs)
with_call_lem (Ok c) cs i is = (i, is)
with_call_lem (Err NoKind) cs i is = is

pub calls_range : (rs : List ThreePhaseCommand) → AllHold three_phase_record_format rs → AllThreePhaseInRange (three_phase_calls_in rs)
unfolding three_phase_calls_in
calls_range [] h = tt
calls_range (r ∷ rs) h = with_call_lem (three_phase_call_of r) (three_phase_calls_in rs) (parsed_range r h.0) (calls_range rs h.1)
