-- `keep` meets its contract: a refusal returns at once, an accepted record is written.
use Rattle.pillar.proofs.Kept.{kept_refused, kept_written}
use Rattle.pillar.proofs.keep.Goals as goal

pub returns-in-Refused : goal.returns-in-Refused
returns-in-Refused c = kept_refused _ _ _ _ c.in-Refused.is

pub returns : goal.returns
returns c =
    kept_written _ _ _ _ _ _ c.in_default.is c.number.ensures c.write_page.ensures.value
