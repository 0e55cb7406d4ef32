use Rattle.vsd_itable.proofs.SelectLaws.{declared-upward, exact-answers, missing-unanswered, selected-where, selection-only}
use Rattle.vsd_itable.proofs.AbstractLaws.{none-abstract}
use Rattle.vsd_itable.proofs.laws.selection_law.Goals as goal

pub returns-clause-one : goal.returns-clause-one
returns-clause-one c = selection-only

pub returns-clause-upward : goal.returns-clause-upward
returns-clause-upward c = declared-upward

pub returns-clause-exact : goal.returns-clause-exact
returns-clause-exact c = exact-answers

pub returns-clause-missing : goal.returns-clause-missing
returns-clause-missing c = missing-unanswered

pub returns-clause-selected : goal.returns-clause-selected
returns-clause-selected c = selected-where

pub returns-clause-concrete : goal.returns-clause-concrete
returns-clause-concrete c = λ d depths lawful h. none-abstract d depths lawful h
