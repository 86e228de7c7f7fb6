-- Each number of a day and of a bill from C stands in its place, and a refusal leaves it.
use mathlib.Core.Path.{◌≡◌, refl}
use mathlib.Core.List.{List, [], ◌∷◌}
use Prim.Native.Nat.{ℕ}
use Rattle.base.specs.Tests.{below}
use Rattle.std.specs.Prelude.{Result, Ok, Err}
use Rattle.energy.specs.declared.Day.{Day}
use Rattle.energy.specs.declared.EnergyRefusal.{EnergyRefusal}
use Rattle.energy.specs.Days.{measured_number, total, measured}
use Rattle.energy.specs.Joins.{joined_days}
use Rattle.tariff.specs.declared.Charge.{Charge}
use Rattle.tariff.specs.declared.TariffRefusal.{TariffRefusal}
use Rattle.tariff.specs.Charges.{sum_below}
use Rattle.tariff.specs.Bills.{billed_number, billed}
use Rattle.pillar.specs.Energy.{stored_day, DayLaws}
use Rattle.pillar.specs.Tariff.{imports_in, rest_after, cents_after, BillLaws}

refused_day : (m : Result Day EnergyRefusal) (day : List ℕ) → (measured_number m ≡ 0 → ⊥) → stored_day m day ≡ day
refused_day (Ok d) day some = absurd (some refl)
refused_day (Err e) day some = refl

pub day_laws : DayLaws
unfolding total measured joined_days
day_laws = record { refused_day = refused_day; one_day = refl; two_days = refl }

refused_bill : (b : Result Charge TariffRefusal) (rest cents : ℕ) → (billed_number b ≡ 0 → ⊥) → (rest_after b rest ≡ rest) × (cents_after b cents ≡ cents)
refused_bill (Ok c) rest cents some = absurd (some refl)
refused_bill (Err e) rest cents some = (refl, refl)

one_bill :
    let b = billed 7 (1000 ∷ 200 ∷ 30 ∷ 4 ∷ []) (imports_in (5000 ∷ 6 ∷ 7000 ∷ 8 ∷ 9000 ∷ 11 ∷ 12000 ∷ 13 ∷ [])) in
    (rest_after b 7 ≡ 7989) × (cents_after b 9 ≡ 6718)
unfolding below sum_below billed
one_bill = (refl, refl)

pub bill_laws : BillLaws
bill_laws = record { refused_bill = refused_bill; one_bill = one_bill }
