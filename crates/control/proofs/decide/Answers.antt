use native.Mathlib.Omega.{arith}
use Rattle.control.proofs.Answers.{answered, answers}
use Rattle.control.proofs.decide.Goals as goal
use Rattle.control.proofs.decide.Goals.{in-5-1, in_default+else-mode-lt1-2+then-mode-lt3}

pub returns-in-0-clause-value : goal.returns-in-0-clause-value
unfolding answered
returns-in-0-clause-value c = search answers

pub returns-in_default-state-clause-value : goal.returns-in_default-state-clause-value
unfolding answered
returns-in_default-state-clause-value c = search answers

pub returns-in_default-mode-clause-value : goal.returns-in_default-mode-clause-value
unfolding answered
returns-in_default-mode-clause-value c = search answers

pub returns-in-RemoteDisconnect-clause-value : goal.returns-in-RemoteDisconnect-clause-value
unfolding answered
returns-in-RemoteDisconnect-clause-value c = search answers

pub returns-in-ManualReconnect-clause-value : goal.returns-in-ManualReconnect-clause-value
unfolding answered
returns-in-ManualReconnect-clause-value c = search answers

pub returns-in_default-mode-2 : goal.returns-in_default-mode-2
unfolding answered
returns-in_default-mode-2 c = absurd (omega arith)

pub returns-in_default-mode-2-2-clause-value : goal.returns-in_default-mode-2-2-clause-value
unfolding answered
returns-in_default-mode-2-2-clause-value c = search answers

pub returns-in-1-clause-value : goal.returns-in-1-clause-value
unfolding answered
returns-in-1-clause-value c = elim c.in-1-1.branch [ in-5-1 w ↦ search answers | in_default+else-mode-lt1-2+then-mode-lt3 w ↦ search answers ]

pub returns-in-LocalDisconnect-clause-value : goal.returns-in-LocalDisconnect-clause-value
unfolding answered
returns-in-LocalDisconnect-clause-value c = search answers

pub returns-in-5-to-6-clause-value : goal.returns-in-5-to-6-clause-value
unfolding answered
returns-in-5-to-6-clause-value c = search answers

pub returns-in_default-mode-3-clause-value : goal.returns-in_default-mode-3-clause-value
unfolding answered
returns-in_default-mode-3-clause-value c = search answers

pub returns-in_default-mode-3-2-clause-value : goal.returns-in_default-mode-3-2-clause-value
unfolding answered
returns-in_default-mode-3-2-clause-value c = search answers

pub returns-in_default-clause-value : goal.returns-in_default-clause-value
unfolding answered
returns-in_default-clause-value c = search answers

pub returns-in_default-2-clause-value : goal.returns-in_default-2-clause-value
unfolding answered
returns-in_default-2-clause-value c = search answers
