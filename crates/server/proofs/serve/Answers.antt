use Rattle.server.specs.Laws.{Laws}
use Rattle.server.specs.Items.{Items}
use Rattle.server.specs.AfterSet.{AfterSet}
use Rattle.server.specs.History.{RequestsCounted}
use Rattle.server.proofs.Items.{items_laws}
use Rattle.server.proofs.AfterSet.{after_set}
use Rattle.server.proofs.Kept.{laws}
use Rattle.server.proofs.History.{requests_counted}
use mathlib.Core.Path.{◌∙◌, sym}
use Rattle.server.proofs.Services.{not_served, short, unsound, of_sound, served_alike}
use Rattle.server.proofs.serve.Goals as goal

promises : Laws × (Items × (AfterSet × RequestsCounted))
promises = (laws, (items_laws, (after_set, requests_counted)))

pub returns-then-out-lt-ANSWER_SIZE : goal.returns-then-out-lt-ANSWER_SIZE
returns-then-out-lt-ANSWER_SIZE c =
    record {
      value = not_served _ 21 _ _ _ (short _ _ _ _ c.if-out-lt-ANSWER_SIZE.true) c.refused.ensures;
      laws = promises.0;
      items = promises.1.0;
      after_set = promises.1.1.0;
      requests_counted = promises.1.1.1;
    }

pub returns-then-not-sound : goal.returns-then-not-sound
returns-then-not-sound c =
    record {
      value = not_served _ 12 _ _ _ (unsound _ _ _ _ c.if-out-lt-ANSWER_SIZE.false (sym c.sound.ensures.value ∙ c.if-not-sound.true))
          c.refused-then-not-sound.ensures;
      laws = promises.0;
      items = promises.1.0;
      after_set = promises.1.1.0;
      requests_counted = promises.1.1.1;
    }

pub returns : goal.returns
returns c =
    record {
      value = served_alike _ _ _ _ _
          (of_sound _ _ _ _ c.if-out-lt-ANSWER_SIZE.false (sym c.sound.ensures.value ∙ c.if-not-sound.false)) c.serve_sound.ensures;
      laws = promises.0;
      items = promises.1.0;
      after_set = promises.1.1.0;
      requests_counted = promises.1.1.1;
    }
