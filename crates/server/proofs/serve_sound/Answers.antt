use mathlib.Core.Path.{◌∙◌, sym}
use Rattle.server.proofs.Services.{not_served, short_sound, not_whole, answered}
use Rattle.server.proofs.serve_sound.Goals as goal

pub returns-then-out-lt-ANSWER_SIZE : goal.returns-then-out-lt-ANSWER_SIZE
returns-then-out-lt-ANSWER_SIZE c =
    not_served _ 21 _ _ _ (short_sound _ _ _ _ c.if-out-lt-ANSWER_SIZE.true) c.refused.ensures

pub returns-in_default : goal.returns-in_default
returns-in_default c =
    not_served _ 20 _ _ _ (not_whole _ _ _ _ c.if-out-lt-ANSWER_SIZE.false _ (sym c.parse.ensures.value ∙ c.in_default.is)) c.refused-in_default.ensures

pub returns : goal.returns
returns c =
    answered _ _ _ _ c.if-out-lt-ANSWER_SIZE.false _ _ c.parse.ensures.value c.in-Ok.is _ c.respond-responded.ensures _ _
    c.put_response-length.ensures.value.0 c.put_response-length.ensures.value.1
