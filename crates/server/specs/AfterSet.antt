-- What a GET gives after a SET that succeeded, and what the limiter's settings refuse (document 02, A9).
use Rattle.std.specs.Prelude.{◌≡◌, true, false, cond, List, ℕ, ◌<◌, leb, ltb, Some}
use Rattle.std.specs.Int.Bits.{bit_and}
use Rattle.events.specs.Table.{EventRow}
use Rattle.base.specs.Tests.{within}
use Rattle.requests.specs.declared.Data.{Data}
use Rattle.requests.specs.declared.Data.TheVariants.{DoubleLong, DoubleLongUnsigned, Enum}
use Rattle.requests.specs.declared.Descriptor.{Descriptor}
use Rattle.responses.specs.declared.AccessResult.{AccessResult}
use Rattle.responses.specs.declared.AccessResult.TheVariants.{Success, ReadWriteDenied}
use Rattle.responses.specs.declared.Response.TheVariants.{GetData}
use Rattle.meter.specs.declared.Meter.{Meter}
use Rattle.meter.specs.Sound.{sound_meter}
use Rattle.server.specs.Access.{access_on}
use Rattle.server.specs.Items.{disconnect_control, limiter, errors, alarms, alarm_filter, got}

-- the result of a SET
abbrev pub set_result : List EventRow → Meter → Descriptor → Data → AccessResult
set_result rows m d x = (access_on rows m false d (Some x)).result

-- where a SET to x succeeds, a GET then gives y
abbrev pub GivesBack : List EventRow → Meter → Descriptor → Data → Data → Type 0
GivesBack rows m d x y = set_result rows m d x ≡ Success → (i : ℕ) → got rows (access_on rows m false d (Some x)).meter i d ≡ GetData i y

-- of a record
pub record AfterSetOf (rows : List EventRow) (m : Meter) : Type 0 where
  pub mode_back : (v : ℕ) → GivesBack rows m (disconnect_control 4) (Enum v) (Enum v)
  pub threshold_back : (v : ℕ) → v < 4294967296 → GivesBack rows m (limiter 4) (DoubleLong v) (DoubleLong v)
  pub over_back : (v : ℕ) → GivesBack rows m (limiter 6) (DoubleLongUnsigned v) (DoubleLongUnsigned v)
  pub under_back : (v : ℕ) → GivesBack rows m (limiter 7) (DoubleLongUnsigned v) (DoubleLongUnsigned v)
  pub filter_back : (v : ℕ) → GivesBack rows m alarm_filter (DoubleLongUnsigned v) (DoubleLongUnsigned v)
  -- 'clearing the bits that are zero in the value': those that stood and are one in it stay
  pub errors_back : (v : ℕ) → v < 4294967296 → GivesBack rows m errors (DoubleLongUnsigned v) (DoubleLongUnsigned (bit_and m.errors.bits v))
  pub alarms_back : (v : ℕ) → v < 4294967296
      → GivesBack rows m alarms (DoubleLongUnsigned v) (DoubleLongUnsigned (bit_and m.alarms.register.bits v))
  -- 'read-write-denied if .. 01's table refuses': of a sound record a mode above 6, a negative threshold, a duration out of range, and nothing else
  pub mode_denied : (v : ℕ) → sound_meter rows m ≡ true → set_result rows m (disconnect_control 4) (Enum v) ≡ cond (leb v 6) Success ReadWriteDenied
  pub threshold_denied : (v : ℕ) → sound_meter rows m ≡ true
      → set_result rows m (limiter 4) (DoubleLong v) ≡ cond (ltb v 2147483648) Success ReadWriteDenied
  pub over_denied : (v : ℕ) → sound_meter rows m ≡ true
      → set_result rows m (limiter 6) (DoubleLongUnsigned v) ≡ cond (within 1 86400 v) Success ReadWriteDenied
  pub under_denied : (v : ℕ) → sound_meter rows m ≡ true
      → set_result rows m (limiter 7) (DoubleLongUnsigned v) ≡ cond (within 1 86400 v) Success ReadWriteDenied
  pub errors_set : (v : ℕ) → sound_meter rows m ≡ true → set_result rows m errors (DoubleLongUnsigned v) ≡ Success
  pub alarms_set : (v : ℕ) → sound_meter rows m ≡ true → set_result rows m alarms (DoubleLongUnsigned v) ≡ Success
  pub filter_set : (v : ℕ) → sound_meter rows m ≡ true → set_result rows m alarm_filter (DoubleLongUnsigned v) ≡ Success

-- of every record, by any event rows
abbrev pub AfterSet : Type 0
AfterSet = (rows : List EventRow) (m : Meter) → AfterSetOf rows m
