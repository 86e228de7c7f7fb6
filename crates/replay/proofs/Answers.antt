-- What becomes of an input, of records and a page of any length.
use mathlib.Core.Path.{◌≡◌, refl}
use mathlib.Core.Bool.{Bool, true, false, cond}
use mathlib.Core.List.{List, ◌++◌}
use Prim.Native.Nat.{ℕ}
use native.Mathlib.Omega.{arith}
use lib.ListN.{drop}
use Rattle.calls.specs.declared.Answer.{Answer}
use Rattle.calls.specs.declared.Answer.TheVariants as answer
use Rattle.std.specs.Prelude.{Ok, Err}
use Rattle.replay.specs.declared.ReplayError.{ReplayError}
use Rattle.replay.specs.declared.ReplayError.TheVariants.{Empty, Bad, Short, Refused}
use Rattle.replay.specs.Replay.{Replayed, unless_refused, buffer_after}

-- an input that is taken begins with an accepted fresh
pub started : (empty short fresh : Bool) (a : Answer) (end : Replayed)
    → cond empty (Err Empty) (cond short (Err Short) (cond fresh (unless_refused a end) (Err Bad))) ≡ Ok tt → a ≡ answer.Accepted
started true short fresh a end e = let z : ◌≡◌ {A = ℕ} 0 1 = cc in absurd (omega arith)
started false true fresh a end e = let z : ◌≡◌ {A = ℕ} 0 1 = cc in absurd (omega arith)
started false false true answer.Accepted end e = refl
started false false true (answer.Refused n) end e = let z : ◌≡◌ {A = ℕ} 0 1 = cc in absurd (omega arith)
started false false false a end e = let z : ◌≡◌ {A = ℕ} 0 1 = cc in absurd (omega arith)

-- the writer, given a sound record, answers and leaves what becomes of the input: by whether the page fits
pub writer_end : (fits : Bool) → unless_refused (cond fits answer.Accepted (answer.Refused 8)) (Ok tt) ≡ cond fits (Ok tt) (Err (Refused 8))
writer_end true = refl
writer_end false = refl

pub buffer_end : (fits : Bool) (n : ℕ) (page out : List ℕ) → cond fits (page ++ drop n out) out ≡ buffer_after n (cond fits (Ok tt) (Err (Refused 8))) page out
buffer_end true n page out = refl
buffer_end false n page out = refl

-- an answer that lets the run go on accepts; one that does not ends it with its refusal, whatever would follow
pub accepts : (a : Answer) (u : Unit {0}) → unless_refused a (Ok tt) ≡ Ok u → a ≡ answer.Accepted
accepts answer.Accepted u e = refl
accepts (answer.Refused n) u e = let z : ◌≡◌ {A = ℕ} 0 1 = cc in absurd (omega arith)

pub refuses : (a : Answer) (x : ReplayError) (end : Replayed) → unless_refused a (Ok tt) ≡ Err x → unless_refused a end ≡ Err x
refuses answer.Accepted x end e = let z : ◌≡◌ {A = ℕ} 0 1 = cc in absurd (omega arith)
refuses (answer.Refused n) x end e = e
