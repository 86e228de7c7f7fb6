-- The attributes and methods that the centre may ask for, as rows (document 02, A9).
use Rattle.std.specs.Prelude.{Bool, true, false, ◌&&◌, cond, List, [], ◌∷◌, ℕ, ◌+◌, ◌*◌, eqb, Option, Some, None}
use Rattle.std.specs.Bool.{beq}
use Rattle.requests.specs.declared.Descriptor.{Descriptor}
use Rattle.server.specs.declared.Value.{Value}
use Rattle.server.specs.declared.Value.TheVariants as value
use Rattle.server.specs.declared.Operation.{Operation}
use Rattle.server.specs.declared.Operation.TheVariants as operation
use Rattle.server.specs.declared.Item.{Item}

-- a logical name a-b:c.d.e.f as a number of six bytes
abbrev pub logical_name : ℕ → ℕ → ℕ → ℕ → ℕ → ℕ → ℕ
logical_name a b c d e f = ((((a * 256 + b) * 256 + c) * 256 + d) * 256 + e) * 256 + f

-- an attribute: class-id, logical name, attribute-id, the tag of its type, what a GET reads, what a SET names
abbrev pub attribute : ℕ → ℕ → ℕ → ℕ → Value → Option Operation → Item
attribute c n i t v o = record { method = false; about = record { class = c; name = n; id = i }; tag = t; reads = Some v; names = o }

-- a method: class-id, logical name, method-id, what an ACTION names; 'a method takes an integer'
abbrev pub method_of : ℕ → ℕ → ℕ → Operation → Item
method_of c n i o = record { method = true; about = record { class = c; name = n; id = i }; tag = 15; reads = None; names = Some o }

-- 'class 70 at 0-0:96.3.10.255 (attributes 2 boolean, 3 and 4 enum, only 4 writable, methods 1, 2), class 71 at 0-0:17.0.0.255 (attributes 4 as double-long, 6
-- and 7 as double-long-unsigned) and attribute 2 of class 1 at 0-0:97.97.0.255 (errors), 0-0:97.98.0.255 (alarms) and 0-0:97.98.10.255 (alarm filter),
-- double-long-unsigned'. The tags: boolean 3, double-long 5, double-long-unsigned 6, enum 22
unfoldable pub items : List Item
items =
    attribute 70 (logical_name 0 0 96 3 10 255) 2 3 value.OutputState None
    ∷ attribute 70 (logical_name 0 0 96 3 10 255) 3 22 value.ControlState None
    ∷ attribute 70 (logical_name 0 0 96 3 10 255) 4 22 value.ControlMode (Some operation.SetMode)
    ∷ method_of 70 (logical_name 0 0 96 3 10 255) 1 operation.RemoteDisconnect
    ∷ method_of 70 (logical_name 0 0 96 3 10 255) 2 operation.RemoteReconnect
    ∷ attribute 71 (logical_name 0 0 17 0 0 255) 4 5 value.Threshold (Some operation.SetThreshold)
    ∷ attribute 71 (logical_name 0 0 17 0 0 255) 6 6 value.OverDuration (Some operation.SetOverDuration)
    ∷ attribute 71 (logical_name 0 0 17 0 0 255) 7 6 value.UnderDuration (Some operation.SetUnderDuration)
    ∷ attribute 1 (logical_name 0 0 97 97 0 255) 2 6 value.Errors (Some operation.ClearErrors)
    ∷ attribute 1 (logical_name 0 0 97 98 0 255) 2 6 value.Alarms (Some operation.ClearAlarms)
    ∷ attribute 1 (logical_name 0 0 97 98 10 255) 2 6 value.AlarmFilter (Some operation.SetAlarmFilter)
    ∷ []

-- a row is that of a descriptor, of an attribute or of a method
abbrev pub is_at : Item → Bool → Descriptor → Bool
is_at a m d = (beq a.method m && eqb a.about.class d.class) && (eqb a.about.name d.name && eqb a.about.id d.id)

-- the row of a descriptor
unfoldable pub item_at : List Item → Bool → Descriptor → Option Item
item_at [] m d = None
item_at (a ∷ rest) m d = cond (is_at a m d) (Some a) (item_at rest m d)
