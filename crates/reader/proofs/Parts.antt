-- The record in its parts: the scalars and the arrays of the logs, read apart, make the record, and their tests are its test.
use Rattle.page.proofs.Common.{◌≡◌, ap, ◌∙◌, Bool, ◌&&◌, List, ℕ, sound_arrays, scalars_of, with_logs, sound_meter, sound_scalars}
use Rattle.events.specs.Table.{EventRow}
use Rattle.steps.specs.declared.Scalars.{Scalars}
use Rattle.meter.proofs.Tail.{sound_is}
use Rattle.page.specs.Layout.{logs_area, layout, meter_in}

module _ (rows : List EventRow) (s : List ℕ) {x : Scalars} {counts clocks codes : List ℕ} (scalars : x ≡ scalars_of (meter_in s))
    (ks : counts ≡ (logs_area.dec s 80).counts) (ts : clocks ≡ (logs_area.dec s 80).clocks) (cs : codes ≡ (logs_area.dec s 80).codes) where
  pub parts_make : with_logs x counts clocks codes ≡ meter_in s
  unfolding layout
  parts_make = λ i. with_logs (scalars i) (ks i) (ts i) (cs i)

  pub parts_sound : (a b : Bool) → a ≡ sound_scalars x → b ≡ sound_arrays rows counts clocks codes → a && b ≡ sound_meter rows (meter_in s)
  parts_sound a b p q = sound_is rows (with_logs x counts clocks codes) a b p q ∙ ap (sound_meter rows) parts_make
