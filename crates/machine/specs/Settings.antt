-- What a limiter setting is answered, of fresh and of call 7.
use Rattle.std.specs.Prelude.{ℕ, ◌&&◌, cond, List, ℤ, pos}
use Rattle.std.specs.Int.Signed.{le_z}
use Rattle.base.specs.Tests.{every}
use Rattle.limiter.specs.Limiter.{is_duration}
use Rattle.calls.specs.declared.Answer.{Answer}
use Rattle.calls.specs.declared.Answer.TheVariants.{Accepted, Refused}

-- 'fresh, call 7 | 4 | threshold negative', 'fresh, call 7 | 5 | Over or Under out of range', in this order
unfoldable pub limits_answer : List ℤ → ℕ → ℕ → Answer
unfolding every
limits_answer ts o u = cond (every (le_z (pos 0)) ts) (cond (is_duration o && is_duration u) Accepted (Refused 5)) (Refused 4)
