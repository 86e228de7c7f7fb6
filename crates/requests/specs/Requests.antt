-- 'GET, SET and ACTION normal requests of the Green Book, unciphered, without selective access' (document 02, A9): their bytes, and the reading of bytes.
use Rattle.std.specs.Prelude.{Bool, ◌&&◌, cond, List, ◌++◌, ℕ, ◌<◌, eqb, ltb, length, Option, Some, None, Result, Ok, Err}
use Rattle.codec.specs.Format.{Format, num, ◌⊗◌}
use Rattle.requests.specs.declared.Data.{Data}
use Rattle.requests.specs.declared.Data.TheVariants.{Boolean, DoubleLong, DoubleLongUnsigned, Integer, Enum}
use Rattle.requests.specs.declared.Descriptor.{Descriptor}
use Rattle.requests.specs.declared.Request.{Request}
use Rattle.requests.specs.declared.Request.TheVariants.{Get, Set, Action}
use Rattle.requests.specs.declared.NotWhole.{NotWhole}

-- the thirteen bytes that every request begins with: its tag, 1 for a normal one, invoke-id-and-priority, class-id, logical name, attribute-id or
-- method-id, and the flag of the optional part
abbrev pub Head : Type 0
Head = ℕ × (ℕ × (ℕ × (ℕ × (ℕ × (ℕ × ℕ)))))

-- with the width of each
abbrev pub head_format : Format Head
head_format = num 1 ⊗ num 1 ⊗ num 1 ⊗ num 2 ⊗ num 6 ⊗ num 1 ⊗ num 1

-- a value of one byte behind its tag
abbrev pub short_format : Format (ℕ × ℕ)
short_format = num 1 ⊗ num 1

-- a value of four bytes behind its tag
abbrev pub long_format : Format (ℕ × ℕ)
long_format = num 1 ⊗ num 4

-- ---- the bytes of a request

-- the tag of a value's type
abbrev pub tag_of : Data → ℕ
tag_of (Boolean v) = 3
tag_of (DoubleLong v) = 5
tag_of (DoubleLongUnsigned v) = 6
tag_of (Integer v) = 15
tag_of (Enum v) = 22

-- 'Data is one boolean, enum, integer, double-long or double-long-unsigned': the tag of its type, and the value
abbrev pub data_bytes : Data → List ℕ
data_bytes (Boolean v) = short_format.enc (3, v)
data_bytes (DoubleLong v) = long_format.enc (5, v)
data_bytes (DoubleLongUnsigned v) = long_format.enc (6, v)
data_bytes (Integer v) = short_format.enc (15, v)
data_bytes (Enum v) = short_format.enc (22, v)

-- the head with this tag, invoke-id-and-priority, descriptor and flag
abbrev pub head_of : ℕ → ℕ → Descriptor → ℕ → Head
head_of tag i d flag = (tag, (1, (i, (d.class, (d.name, (d.id, flag))))))

-- its bytes
abbrev pub head_bytes : ℕ → ℕ → Descriptor → ℕ → List ℕ
head_bytes tag i d flag = head_format.enc (head_of tag i d flag)

-- get-request-normal C0 01, set-request-normal C1 01, action-request-normal C3 01: 'without selective access', so that the flag of a GET and a SET is 0; that of
-- an ACTION is 1 where a parameter follows
unfoldable pub request_bytes : Request → List ℕ
request_bytes (Get i d) = head_bytes 192 i d 0
request_bytes (Set i d x) = head_bytes 193 i d 0 ++ data_bytes x
request_bytes (Action i d None) = head_bytes 195 i d 0
request_bytes (Action i d (Some x)) = head_bytes 195 i d 1 ++ data_bytes x

-- ---- the reading of bytes

-- a value of one byte, by its tag
abbrev pub short_data : ℕ → ℕ → Option Data
short_data t v = cond (eqb t 3) (Some (Boolean v)) (cond (eqb t 15) (Some (Integer v)) (cond (eqb t 22) (Some (Enum v)) None))

-- a value of four bytes, by its tag
abbrev pub long_data : ℕ → ℕ → Option Data
long_data t v = cond (eqb t 5) (Some (DoubleLong v)) (cond (eqb t 6) (Some (DoubleLongUnsigned v)) None)

-- 'Data is one .., else 20': the value that is all of the bytes behind the head
unfoldable pub data_in : List ℕ → Option Data
data_in s =
    cond (eqb (length s) 15) (short_data (short_format.dec s 13).0 (short_format.dec s 13).1)
    (cond (eqb (length s) 18) (long_data (long_format.dec s 13).0 (long_format.dec s 13).1) None)

-- the descriptor of a head
abbrev pub descriptor_of : Head → Descriptor
descriptor_of h = record { class = h.1.1.1.0; name = h.1.1.1.1.0; id = h.1.1.1.1.1.0 }

-- and of bytes
unfoldable pub descriptor_in : List ℕ → Descriptor
descriptor_in s = descriptor_of (head_format.dec s 0)

-- what bytes are read as: a request, or '20, bytes that are no whole such request'
abbrev pub Parsed : Type 0
Parsed = Result Request NotWhole

abbrev pub not_whole : Parsed
not_whole = Err (record {})

-- a SET has a value
abbrev pub setting : ℕ → Descriptor → Option Data → Parsed
setting i d (Some x) = Ok (Set i d x)
setting i d None = not_whole

-- so has an ACTION whose flag says so
abbrev pub acting : ℕ → Descriptor → Option Data → Parsed
acting i d (Some x) = Ok (Action i d (Some x))
acting i d None = not_whole

-- by tag and flag, and whether nothing stands behind the flag: 'An optional-part flag other than 0 or 1, or an access selection present, is 20'
abbrev pub request_of : ℕ → ℕ → Bool → ℕ → Descriptor → Option Data → Parsed
request_of tag flag bare i d x =
    cond (eqb tag 192) (cond (bare && eqb flag 0) (Ok (Get i d)) not_whole)
    (cond (eqb tag 193) (cond (eqb flag 0) (setting i d x) not_whole)
    (cond (eqb tag 195) (cond (eqb flag 0 && bare) (Ok (Action i d None)) (cond (eqb flag 1) (acting i d x) not_whole))
    not_whole))

-- '20, bytes that are no whole such request'
unfoldable pub request_in : List ℕ → Parsed
request_in s =
    cond (ltb (length s) 13) not_whole
    (cond (eqb (head_format.dec s 0).1.0 1)
    (request_of (head_format.dec s 0).0 (head_format.dec s 0).1.1.1.1.1.1 (eqb (length s) 13) (head_format.dec s 0).1.1.0 (descriptor_in s) (data_in s))
    not_whole)

-- ---- the numbers are values of their types

-- of a value
abbrev pub DataInRange : Data → Type 0
DataInRange (Boolean v) = v < 256
DataInRange (DoubleLong v) = v < 4294967296
DataInRange (DoubleLongUnsigned v) = v < 4294967296
DataInRange (Integer v) = v < 256
DataInRange (Enum v) = v < 256

-- of a descriptor: a class-id of two bytes, a logical name of six
abbrev pub DescriptorInRange : Descriptor → Type 0
DescriptorInRange d = (d.class < 65536) × ((d.name < 281474976710656) × (d.id < 256))

-- of a request
abbrev pub RequestInRange : Request → Type 0
RequestInRange (Get i d) = (i < 256) × DescriptorInRange d
RequestInRange (Set i d x) = (i < 256) × (DescriptorInRange d × DataInRange x)
RequestInRange (Action i d None) = (i < 256) × DescriptorInRange d
RequestInRange (Action i d (Some x)) = (i < 256) × (DescriptorInRange d × DataInRange x)
