-- What holds of the reading of requests: what a reader wants beside the definitions.
use Rattle.std.specs.Prelude.{◌≡◌, List, ℕ, Ok}
use Rattle.codec.specs.Lawful.{Bytes}
use Rattle.requests.specs.declared.Request.{Request}
use Rattle.requests.specs.Requests.{request_bytes, request_in, RequestInRange}

-- of every request, and of any bytes: reading and writing are inverse, so that a request has one encoding, and nothing stands behind it
pub record Laws : Type 0 where
  -- what is written is read back
  pub read_written : (r : Request) → RequestInRange r → request_in (request_bytes r) ≡ Ok r
  -- bytes that are read as a request are its bytes, and no others
  pub written_read : (s : List ℕ) (r : Request) → Bytes s → request_in s ≡ Ok r → request_bytes r ≡ s
  -- and its numbers are values of their types
  pub read_in_range : (s : List ℕ) (r : Request) → Bytes s → request_in s ≡ Ok r → RequestInRange r
