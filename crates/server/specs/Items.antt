-- Each attribute and method by its descriptor: what a GET reads, and what a SET or an ACTION comes to (document 02, A9).
use Rattle.std.specs.Prelude.{◌≡◌, Bool, true, false, ◌&&◌, ◌||◌, cond, List, [], ◌∷◌, ℕ, eqb, pos, replicate, Some, None}
use Rattle.base.specs.Bits.{inverse}
use Rattle.events.specs.Table.{EventRow}
use Rattle.calls.specs.declared.Call.TheVariants as call
use Rattle.calls.specs.Calls.{signed_of}
use Rattle.calls.specs.Laws.{bits_of}
use Rattle.requests.specs.declared.Data.TheVariants.{Boolean, DoubleLong, DoubleLongUnsigned, Integer, Enum}
use Rattle.requests.specs.declared.Descriptor.{Descriptor}
use Rattle.requests.specs.declared.Request.TheVariants.{Get}
use Rattle.responses.specs.declared.AccessResult.TheVariants.{ReadWriteDenied, TypeUnmatched}
use Rattle.responses.specs.declared.Response.{Response}
use Rattle.responses.specs.declared.Response.TheVariants.{GetData}
use Rattle.meter.specs.declared.Meter.{Meter}
use Rattle.server.specs.Objects.{logical_name, items, item_at}
use Rattle.server.specs.Access.{unchanged_with, called_on, access_on, responded_on}
use Rattle.server.specs.Service.{service_sound}

-- a descriptor
abbrev pub about : ℕ → ℕ → ℕ → Descriptor
about c n i = record { class = c; name = n; id = i }

-- 'class 70 at 0-0:96.3.10.255'
abbrev pub disconnect_control : ℕ → Descriptor
disconnect_control i = about 70 (logical_name 0 0 96 3 10 255) i

-- 'class 71 at 0-0:17.0.0.255'
abbrev pub limiter : ℕ → Descriptor
limiter i = about 71 (logical_name 0 0 17 0 0 255) i

-- 'attribute 2 of class 1 at 0-0:97.97.0.255 (errors), 0-0:97.98.0.255 (alarms) and 0-0:97.98.10.255 (alarm filter)'
abbrev pub errors : Descriptor
errors = about 1 (logical_name 0 0 97 97 0 255) 2

abbrev pub alarms : Descriptor
alarms = about 1 (logical_name 0 0 97 98 0 255) 2

abbrev pub alarm_filter : Descriptor
alarm_filter = about 1 (logical_name 0 0 97 98 10 255) 2

-- a descriptor that document 02 lists, of a method (true) or of an attribute (false)
abbrev pub listed : Bool → Descriptor → Bool
listed true d = eqb 70 d.class && (eqb (logical_name 0 0 96 3 10 255) d.name && (eqb 1 d.id || eqb 2 d.id))
listed false d =
    (eqb 70 d.class && (eqb (logical_name 0 0 96 3 10 255) d.name && (eqb 2 d.id || (eqb 3 d.id || eqb 4 d.id))))
    || ((eqb 71 d.class && (eqb (logical_name 0 0 17 0 0 255) d.name && (eqb 4 d.id || (eqb 6 d.id || eqb 7 d.id))))
    || (eqb 1 d.class
    && ((eqb (logical_name 0 0 97 97 0 255) d.name || (eqb (logical_name 0 0 97 98 0 255) d.name || eqb (logical_name 0 0 97 98 10 255) d.name))
    && eqb 2 d.id)))

-- the response to a GET
abbrev pub got : List EventRow → Meter → ℕ → Descriptor → Response
got rows m i d = (responded_on rows m (Get i d)).response

-- of a record
pub record ItemsOf (rows : List EventRow) (m : Meter) : Type 0 where
  -- '(attributes 2 boolean, 3 and 4 enum ..)'; document 01: 'supply flows only in 1'; 'A boolean true is written 1'
  pub get_output_state : (i : ℕ) → got rows m i (disconnect_control 2) ≡ GetData i (Boolean (cond (eqb m.control.state 1) 1 0))
  pub get_control_state : (i : ℕ) → got rows m i (disconnect_control 3) ≡ GetData i (Enum m.control.state)
  pub get_control_mode : (i : ℕ) → got rows m i (disconnect_control 4) ≡ GetData i (Enum m.control.mode)
  -- '(attributes 4 as double-long, 6 and 7 as double-long-unsigned)'; 4 is the normal threshold, whatever profile is active
  pub get_threshold : (i : ℕ) → got rows m i (limiter 4) ≡ GetData i (DoubleLong (bits_of m.limiter.threshold))
  pub get_over : (i : ℕ) → got rows m i (limiter 6) ≡ GetData i (DoubleLongUnsigned m.limiter.over)
  pub get_under : (i : ℕ) → got rows m i (limiter 7) ≡ GetData i (DoubleLongUnsigned m.limiter.under)
  pub get_errors : (i : ℕ) → got rows m i errors ≡ GetData i (DoubleLongUnsigned m.errors.bits)
  pub get_alarms : (i : ℕ) → got rows m i alarms ≡ GetData i (DoubleLongUnsigned m.alarms.register.bits)
  pub get_alarm_filter : (i : ℕ) → got rows m i alarm_filter ≡ GetData i (DoubleLongUnsigned m.alarms.register.filter)
  -- '.. only 4 writable ..': call 6
  pub set_output_state : (v : ℕ) → access_on rows m false (disconnect_control 2) (Some (Boolean v)) ≡ unchanged_with m ReadWriteDenied
  pub set_control_state : (v : ℕ) → access_on rows m false (disconnect_control 3) (Some (Enum v)) ≡ unchanged_with m ReadWriteDenied
  pub set_control_mode : (v : ℕ) → access_on rows m false (disconnect_control 4) (Some (Enum v)) ≡ called_on rows m (call.SetMode v)
  -- 'A SET in class 71 is call 7 with the other two kept'
  pub set_threshold : (v : ℕ) → access_on rows m false (limiter 4) (Some (DoubleLong v))
      ≡ called_on rows m (call.SetLimiter (signed_of v) m.limiter.over m.limiter.under)
  pub set_over : (v : ℕ) → access_on rows m false (limiter 6) (Some (DoubleLongUnsigned v))
      ≡ called_on rows m (call.SetLimiter m.limiter.threshold v m.limiter.under)
  pub set_under : (v : ℕ) → access_on rows m false (limiter 7) (Some (DoubleLongUnsigned v))
      ≡ called_on rows m (call.SetLimiter m.limiter.threshold m.limiter.over v)
  -- 'a SET of errors or alarms is call 13 or 12, clearing the bits that are zero in the value; a SET of the filter is call 10'
  pub set_errors : (v : ℕ) → access_on rows m false errors (Some (DoubleLongUnsigned v)) ≡ called_on rows m (call.ClearErrors (inverse v))
  pub set_alarms : (v : ℕ) → access_on rows m false alarms (Some (DoubleLongUnsigned v)) ≡ called_on rows m (call.ClearAlarms (inverse v))
  pub set_alarm_filter : (v : ℕ) → access_on rows m false alarm_filter (Some (DoubleLongUnsigned v)) ≡ called_on rows m (call.SetAlarmFilter v)
  -- '(.. methods 1, 2)'; 'a method takes an integer, its value ignored, and none at all is type-unmatched'
  pub disconnect : (v : ℕ) → access_on rows m true (disconnect_control 1) (Some (Integer v)) ≡ called_on rows m call.RemoteDisconnect
  pub reconnect : (v : ℕ) → access_on rows m true (disconnect_control 2) (Some (Integer v)) ≡ called_on rows m call.RemoteReconnect
  pub disconnect_alone : access_on rows m true (disconnect_control 1) None ≡ unchanged_with m TypeUnmatched
  pub reconnect_alone : access_on rows m true (disconnect_control 2) None ≡ unchanged_with m TypeUnmatched
  -- two GETs from bytes to bytes, the logical names among them: 'class 70 at 0-0:96.3.10.255 (attributes 2 boolean ..', where the switch is Connected, and
  -- 'class 71 at 0-0:17.0.0.255 (attributes 4 as double-long ..', where the threshold is 3,000 watts
  pub output_state_bytes : m.control.state ≡ 1
      → (service_sound rows m (192 ∷ 1 ∷ 193 ∷ 0 ∷ 70 ∷ 0 ∷ 0 ∷ 96 ∷ 3 ∷ 10 ∷ 255 ∷ 2 ∷ 0 ∷ []) (replicate 32 0)).bytes ≡ 196 ∷ 1 ∷ 193 ∷ 0 ∷ 3 ∷ 1 ∷ []
  pub threshold_bytes : m.limiter.threshold ≡ pos 3000
      → (service_sound rows m (192 ∷ 1 ∷ 193 ∷ 0 ∷ 71 ∷ 0 ∷ 0 ∷ 17 ∷ 0 ∷ 0 ∷ 255 ∷ 4 ∷ 0 ∷ []) (replicate 32 0)).bytes
      ≡ 196 ∷ 1 ∷ 193 ∷ 0 ∷ 5 ∷ 0 ∷ 0 ∷ 11 ∷ 184 ∷ []

-- of every record, by any event rows; and 'object-undefined for anything else': there is no other row
pub record Items : Type 0 where
  pub by_descriptor : (rows : List EventRow) (m : Meter) → ItemsOf rows m
  pub no_others : (method : Bool) (d : Descriptor) → listed method d ≡ false → item_at items method d ≡ None
  -- '0-0:96.3.10.255', '0-0:17.0.0.255', '0-0:97.97.0.255', '0-0:97.98.0.255' and '0-0:97.98.10.255': six bytes, the first one the highest
  pub names_numbered :
      logical_name 0 0 96 3 10 255 ∷ logical_name 0 0 17 0 0 255 ∷ logical_name 0 0 97 97 0 255 ∷ logical_name 0 0 97 98 0 255 ∷ logical_name 0 0 97 98 10 255 ∷ []
      ≡ 1610812159 ∷ 285212927 ∷ 1633747199 ∷ 1633812735 ∷ 1633815295 ∷ []
