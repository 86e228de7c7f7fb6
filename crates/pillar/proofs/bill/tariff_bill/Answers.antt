use Rattle.base.proofs.Prelude.{◌≡◌, ◌∙◌}
use Rattle.tariff.specs.Bills.{billed}
use Rattle.pillar.specs.Tariff.{imports_in}
use Rattle.pillar.proofs.Places.{bill_laws}
use Rattle.pillar.proofs.bill.tariff_bill.Goals as goal
use Rattle.pillar.proofs.bill.tariff_bill.Goals.{After-bill}

-- what was billed is the definition's bill
is_bill : (c : After-bill) → let a = c.args in
    c.bill.result ≡ billed a.rest.now a.prices.now (imports_in a.imports.now)
is_bill c = c.bill.ensures.value ∙ rw c.imports_in.ensures

pub returns : goal.returns
returns c = record {
  billing = rw (← is_bill (goal.at.returns c).After-bill) c.settle.ensures;
  laws = bill_laws;
}
