-- The answer that the account's rule of refusals gives: the same of every meter.
use Rattle.calls.specs.declared.Answer.{Answer}
use Rattle.calls.specs.declared.Answer.TheVariants.{Accepted, Refused}
use Rattle.history.specs.Effects.{Reading, refused, accepted}

-- '.. a call's refusal follows from its numbers and the mode last accepted'
abbrev pub answer_of : Reading → Answer
answer_of (refused n) = Refused n
answer_of (accepted e) = Accepted
