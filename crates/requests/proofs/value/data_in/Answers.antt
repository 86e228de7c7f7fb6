use mathlib.Core.Path.{◌∙◌}
use Rattle.base.proofs.Tests.{tests}
use Rattle.requests.specs.Requests.{data_in}
use Rattle.requests.proofs.Bytes.{data_short, data_long}
use Rattle.requests.proofs.value.data_in.Goals as goal

pub returns-in-15 : goal.returns-in-15
returns-in-15 c = c.short_data.ensures ∙ data_short _ c.in-15.is

pub returns-in-18 : goal.returns-in-18
returns-in-18 c =
    rw (c.long_data.ensures, c.u32_at.ensures) (data_long _ c.in-18.is)

pub returns-in_default : goal.returns-in_default
unfolding data_in
returns-in_default c = search tests
