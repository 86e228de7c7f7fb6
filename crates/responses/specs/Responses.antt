-- The bytes of a response (document 02, A9: 'Each whole request is answered ..').
use Rattle.std.specs.Prelude.{Bool, true, false, List, ◌++◌, ℕ}
use Rattle.codec.specs.BigEndian.{be}
use Rattle.codec.specs.Format.{Format, num, ◌⊗◌}
use Rattle.requests.specs.Requests.{data_bytes}
use Rattle.responses.specs.declared.AccessResult.{AccessResult}
use Rattle.responses.specs.declared.AccessResult.TheVariants.{Success, ReadWriteDenied, ObjectUndefined, TypeUnmatched}
use Rattle.responses.specs.declared.Response.{Response}
use Rattle.responses.specs.declared.Response.TheVariants.{GetData, GetResult, SetResult, ActionResult}

-- the numbers that data-access-result and action-result of the Green Book share
abbrev pub result_number : AccessResult → ℕ
result_number Success = 0
result_number ReadWriteDenied = 3
result_number ObjectUndefined = 4
result_number TypeUnmatched = 12

-- only a success carries a call out
abbrev pub is_success : AccessResult → Bool
is_success Success = true
is_success ReadWriteDenied = false
is_success ObjectUndefined = false
is_success TypeUnmatched = false

-- the four bytes that every response begins with: its tag, 1 for a normal one, the request's invoke-id-and-priority, and a choice or a result
abbrev pub front_format : Format (ℕ × (ℕ × (ℕ × ℕ)))
front_format = num 1 ⊗ num 1 ⊗ num 1 ⊗ num 1

-- their bytes
abbrev pub front : ℕ → ℕ → ℕ → List ℕ
front tag i fourth = front_format.enc (tag, (1, (i, fourth)))

-- get-response-normal C4 01 with data, choice 0, or a data-access-result, choice 1; set-response-normal C5 01; action-response-normal C7 01: 'any action answer
-- carries no return data'
unfoldable pub response_bytes : Response → List ℕ
response_bytes (GetData i x) = front 196 i 0 ++ data_bytes x
response_bytes (GetResult i r) = front 196 i 1 ++ be 1 (result_number r)
response_bytes (SetResult i r) = front 197 i (result_number r)
response_bytes (ActionResult i r) = front 199 i (result_number r) ++ be 1 0
