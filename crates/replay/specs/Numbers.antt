-- Answers for a caller that takes numbers and bytes: what comes behind an answer, and what became of a list, as a number. They hold of any meter.
use Rattle.std.specs.Prelude.{ℕ, ◌≡◌, List, [], ◌∷◌, map, ◌↔◌, Ok, Err}
use Rattle.calls.specs.declared.Answer.{Answer}
use Rattle.calls.specs.declared.Answer.TheVariants as answer
use Rattle.replay.specs.declared.ReplayError.{ReplayError}
use Rattle.replay.specs.declared.ReplayError.TheVariants.{Empty, Bad, Short, Refused}
use Rattle.replay.specs.Replay.{Replayed, replay_answer}

-- the number of a refusal, else that of what follows: 'Place, in order'
abbrev pub number_or : Answer → ℕ → ℕ
number_or answer.Accepted n = n
number_or (answer.Refused r) n = r

-- what an acceptance leads to, else what a refusal leaves
abbrev pub if_accepted : {A : Type 0} → Answer → A → A → A
if_accepted answer.Accepted after before = after
if_accepted (answer.Refused r) after before = before

-- why its page is not written as a number: 'Empty input', `bad` and `short` above every refusal
abbrev pub error_number : ReplayError → ℕ
error_number Empty = 100
error_number Bad = 101
error_number Short = 102
error_number (Refused n) = n

-- what became of a list as a number: 0 where its page is written
abbrev pub replay_number : Replayed → ℕ
replay_number (Ok u) = 0
replay_number (Err e) = error_number e

-- what those numbers tell of an input, by what became of it with a buffer
pub record NumbersTell (answer_of : List ℕ → List ℕ → Replayed) : Type 0 where
  -- 'refusal or 0': 0 exactly where the page is written
  pub zero_written : (s out : List ℕ) → (replay_number (answer_of s out) ≡ 0) ↔ (answer_of s out ≡ Ok tt)
  pub refusal_number : (s out : List ℕ) (n : ℕ) → answer_of s out ≡ Err (Refused n) → replay_number (answer_of s out) ≡ n
  -- 'Empty input', `bad` and `short`
  pub others : map replay_number (Err Empty ∷ Err Bad ∷ Err Short ∷ []) ≡ 100 ∷ 101 ∷ 102 ∷ []

-- of a list of the one-phase meter
abbrev pub ReplayNumbers : Type 0
ReplayNumbers = NumbersTell replay_answer
