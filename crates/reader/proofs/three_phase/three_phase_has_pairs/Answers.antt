use mathlib.Core.Bool.{and-true, and_assoc}
use Rattle.phases_page.specs.Layout.{three_phase_has_pairs}
use Rattle.reader.proofs.three_phase.three_phase_has_pairs.Goals as goal

pub returns : goal.returns
unfolding three_phase_has_pairs
returns c =
    rw (c.is_pair-8.ensures, c.is_pair-7.ensures, c.is_pair-6.ensures, c.is_pair-5.ensures)
    (rw (c.is_pair-4.ensures, c.is_pair-3.ensures, c.is_pair-2.ensures)
    (rw c.is_pair.ensures (simp (and_assoc, and-true))))
