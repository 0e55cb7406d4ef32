use Rattle.std.proofs.Common.{ℕ, List, length, subst}
use Rattle.vsd_itable.specs.Filling.{AreTargetsTo}
use Rattle.vsd_itable.specs.Tables.{AreTables}
use Rattle.vsd_itable.specs.Value.{Value}
use Rattle.vsd_itable.proofs.TableLaws.{tables-are}
use Rattle.vsd_itable.proofs.tables.Tables.build.Goals as goal
use Rattle.vsd_itable.proofs.tables.Tables.build.Goals.{In_ok-targets}

abbrev value : In_ok-targets → Value
value c = record { closed = c.args.closed; tokens = c.args.tokens.items; methods = c.in_ok-numbers.numbers.methods.items; targets = c.in_ok-targets.targets; matrix = c.args.variances.matrix }

right : (c : In_ok-targets) → AreTables (value c)
right c =
    let targets = subst (λ (l : List (ℕ × ℕ)). AreTargetsTo c.args.closed l c.in_ok-numbers.numbers.methods.items (length c.args.closed.types) c.in_ok-targets.targets.entries.items) c.as_slice.ensures.value c.in_ok-targets.ensures in
    tables-are (value c) c.requires.tokens c.in_ok-numbers.ensures.listed targets c.requires.variances

pub invariant_of-result : goal.invariant_of-result
invariant_of-result c = (c.requires.together, c.requires.variances, right c)

pub returns-clause-tables : goal.returns-clause-tables
returns-clause-tables c = right (goal.at.returns-clause-tables c).In_ok-targets
