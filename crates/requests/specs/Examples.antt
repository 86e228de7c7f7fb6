-- Requests computed, by the Green Book's encoding, and bytes one step from a request.
use Rattle.std.specs.Prelude.{◌≡◌, List, [], ◌∷◌, ◌++◌, ℕ, Some, None, Ok}
use Rattle.requests.specs.declared.Data.TheVariants.{Boolean, DoubleLong, DoubleLongUnsigned, Integer, Enum}
use Rattle.requests.specs.declared.Descriptor.{Descriptor}
use Rattle.requests.specs.declared.Request.TheVariants.{Get, Set, Action}
use Rattle.requests.specs.Requests.{not_whole, request_in}

-- a head on attribute or method 4 of class 70 at 0-0:96.3.10.255, with invoke-id-and-priority C1: this tag, the byte behind it and the flag
abbrev pub head : ℕ → ℕ → ℕ → List ℕ
head tag choice flag = tag ∷ choice ∷ 193 ∷ 0 ∷ 70 ∷ 0 ∷ 0 ∷ 96 ∷ 3 ∷ 10 ∷ 255 ∷ 4 ∷ flag ∷ []

-- what it is about: 96 · 256³ + 3 · 256² + 10 · 256 + 255 is 1,610,812,159
abbrev pub about : Descriptor
about = record { class = 70; name = 1610812159; id = 4 }

-- the examples
pub record Examples : Type 0 where
  -- C0 01, C1 01 and C3 01
  pub get : request_in (head 192 1 0) ≡ Ok (Get 193 about)
  pub set : request_in (head 193 1 0 ++ (22 ∷ 5 ∷ [])) ≡ Ok (Set 193 about (Enum 5))
  pub action : request_in (head 195 1 1 ++ (15 ∷ 0 ∷ [])) ≡ Ok (Action 193 about (Some (Integer 0)))
  -- an ACTION may have no parameter
  pub no_parameter : request_in (head 195 1 0) ≡ Ok (Action 193 about None)
  -- the other types
  pub boolean : request_in (head 193 1 0 ++ (3 ∷ 255 ∷ [])) ≡ Ok (Set 193 about (Boolean 255))
  pub double_long : request_in (head 193 1 0 ++ (5 ∷ 255 ∷ 255 ∷ 255 ∷ 254 ∷ [])) ≡ Ok (Set 193 about (DoubleLong 4294967294))
  pub double_long_unsigned : request_in (head 193 1 0 ++ (6 ∷ 0 ∷ 1 ∷ 81 ∷ 128 ∷ [])) ≡ Ok (Set 193 about (DoubleLongUnsigned 86400))
  -- no byte; a head without its last byte
  pub nothing : request_in [] ≡ not_whole
  pub cut_head : request_in (192 ∷ 1 ∷ 193 ∷ 0 ∷ 70 ∷ 0 ∷ 0 ∷ 96 ∷ 3 ∷ 10 ∷ 255 ∷ 4 ∷ []) ≡ not_whole
  -- another tag, and a request that is not a normal one
  pub other_tag : request_in (head 194 1 0) ≡ not_whole
  pub with_list : request_in (head 192 3 0) ≡ not_whole
  -- 'An optional-part flag other than 0 or 1, or an access selection present, is 20'
  pub get_selection : request_in (head 192 1 1) ≡ not_whole
  pub set_selection : request_in (head 193 1 1 ++ (22 ∷ 5 ∷ [])) ≡ not_whole
  pub action_flag : request_in (head 195 1 2 ++ (15 ∷ 0 ∷ [])) ≡ not_whole
  -- a byte behind a request
  pub get_longer : request_in (head 192 1 0 ++ (0 ∷ [])) ≡ not_whole
  pub set_longer : request_in (head 193 1 0 ++ (22 ∷ 5 ∷ 0 ∷ [])) ≡ not_whole
  pub action_longer : request_in (head 195 1 0 ++ (15 ∷ 0 ∷ [])) ≡ not_whole
  -- no value, or a cut one
  pub set_nothing : request_in (head 193 1 0) ≡ not_whole
  pub set_cut : request_in (head 193 1 0 ++ (6 ∷ 0 ∷ 1 ∷ 81 ∷ [])) ≡ not_whole
  pub action_nothing : request_in (head 195 1 1) ≡ not_whole
  -- 'Data is one boolean, enum, integer, double-long or double-long-unsigned, else 20': unsigned, and a tag that stands with the other width
  pub other_type : request_in (head 193 1 0 ++ (17 ∷ 5 ∷ [])) ≡ not_whole
  pub other_width : request_in (head 193 1 0 ++ (6 ∷ 5 ∷ [])) ≡ not_whole
