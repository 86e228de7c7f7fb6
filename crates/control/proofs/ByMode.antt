-- The switch table by mode and state, by computing it.
use mathlib.Core.Path.{refl}
use Rattle.base.specs.Tests.{among}
use Rattle.control.specs.Table.{switch_table}
use Rattle.control.specs.Control.{decision}
use Rattle.control.specs.ByMode.{ByMode}

pub by_mode : ByMode
unfolding decision switch_table among
by_mode =
    record {
      remote_reconnect = refl;
      remote_disconnect = refl;
      manual_reconnect = refl;
      manual_disconnect = refl;
      local_disconnect = refl;
      local_reconnect = refl;
    }
