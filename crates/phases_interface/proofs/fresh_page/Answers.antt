-- `fresh_page` meets its contract: a refusal returns at once, an accepted record is written, by the built-in table.
-- what fresh hands back, its thresholds as they came
use mathlib.Core.Path.{◌≡◌}
use mir.Facts.{to_z-of_z}
use mir.Syntax.{w32}
use Rattle.events.specs.Table.{built_in}
use Rattle.phases_meter.specs.Settings.{three_phase_settings_of}
use Rattle.phases_meter.specs.Fresh.{three_phase_fresh_of}
use Rattle.phases_interface.proofs.Kept.{kept_refused, kept_written}
use Rattle.phases_interface.proofs.fresh_page.Goals as goal
use Rattle.phases_interface.proofs.fresh_page.Goals.{After-fresh-fresh}

settled : (c : After-fresh-fresh)
    → let a = c.args in
    c.fresh-fresh.result ≡ three_phase_fresh_of (three_phase_settings_of a.mode a.l1 a.l2 a.l3 a.sum a.over a.under a.clock)
settled c =
    rw (
      to_z-of_z {w = w32} {z = c.args.l1} c.ranges.l1,
      to_z-of_z {w = w32} {z = c.args.l2} c.ranges.l2,
      to_z-of_z {w = w32} {z = c.args.l3} c.ranges.l3,
      to_z-of_z {w = w32} {z = c.args.sum} c.ranges.sum,
    ) at
    c.fresh-fresh.ensures.value

pub returns-in-Refused : goal.returns-in-Refused
returns-in-Refused c =
    rw (settled (goal.at.returns-in-Refused c).After-fresh-fresh) at (kept_refused built_in c.fresh-fresh.result c.args.page.now _ c.in-Refused.is)

pub returns : goal.returns
returns c =
    rw (c.built_in-table.ensures, settled (goal.at.returns c).After-fresh-fresh) at
    (kept_written _ c.fresh-fresh.result _ _ _ _ c.in_default.is c.number.ensures c.write_three_phase_page.ensures.value)
