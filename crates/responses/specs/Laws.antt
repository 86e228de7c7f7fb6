-- What holds of the bytes of a response: what a reader wants beside the definitions.
use Rattle.std.specs.Prelude.{◌≡◌, [], ◌∷◌, ℕ, ◌≤◌, length}
use Rattle.requests.specs.declared.Data.TheVariants.{Boolean, DoubleLong, DoubleLongUnsigned, Integer, Enum}
use Rattle.responses.specs.declared.AccessResult.TheVariants.{Success, ReadWriteDenied, ObjectUndefined, TypeUnmatched}
use Rattle.responses.specs.declared.Response.{Response}
use Rattle.responses.specs.declared.Response.TheVariants.{GetData, GetResult, SetResult, ActionResult}
use Rattle.responses.specs.Responses.{response_bytes}

-- how many bytes a response has
abbrev pub size_of : Response → ℕ
size_of (GetData i (Boolean v)) = 6
size_of (GetData i (DoubleLong v)) = 9
size_of (GetData i (DoubleLongUnsigned v)) = 9
size_of (GetData i (Integer v)) = 6
size_of (GetData i (Enum v)) = 6
size_of (GetResult i r) = 5
size_of (SetResult i r) = 4
size_of (ActionResult i r) = 5

-- of every response
pub record Laws : Type 0 where
  -- its length, at most nine bytes
  pub sizes : (r : Response) → length (response_bytes r) ≡ size_of r
  pub at_most_nine : (r : Response) → size_of r ≤ 9
  -- responses computed: a GET of Connected, of a threshold of 3,000, of an unknown object; a SET that is denied, an ACTION that succeeds
  pub connected : response_bytes (GetData 193 (Boolean 1)) ≡ 196 ∷ 1 ∷ 193 ∷ 0 ∷ 3 ∷ 1 ∷ []
  pub watts : response_bytes (GetData 193 (DoubleLong 3000)) ≡ 196 ∷ 1 ∷ 193 ∷ 0 ∷ 5 ∷ 0 ∷ 0 ∷ 11 ∷ 184 ∷ []
  pub unknown : response_bytes (GetResult 193 ObjectUndefined) ≡ 196 ∷ 1 ∷ 193 ∷ 1 ∷ 4 ∷ []
  pub denied : response_bytes (SetResult 193 ReadWriteDenied) ≡ 197 ∷ 1 ∷ 193 ∷ 3 ∷ []
  pub unmatched : response_bytes (SetResult 193 TypeUnmatched) ≡ 197 ∷ 1 ∷ 193 ∷ 12 ∷ []
  pub acted : response_bytes (ActionResult 193 Success) ≡ 199 ∷ 1 ∷ 193 ∷ 0 ∷ 0 ∷ []
  -- a SET that succeeds; 'any action answer carries no return data': an ACTION that is denied, of an unknown object, with a value of another type
  pub set_done : response_bytes (SetResult 193 Success) ≡ 197 ∷ 1 ∷ 193 ∷ 0 ∷ []
  pub action_denied : response_bytes (ActionResult 193 ReadWriteDenied) ≡ 199 ∷ 1 ∷ 193 ∷ 3 ∷ 0 ∷ []
  pub action_unknown : response_bytes (ActionResult 193 ObjectUndefined) ≡ 199 ∷ 1 ∷ 193 ∷ 4 ∷ 0 ∷ []
  pub action_unmatched : response_bytes (ActionResult 193 TypeUnmatched) ≡ 199 ∷ 1 ∷ 193 ∷ 12 ∷ 0 ∷ []
