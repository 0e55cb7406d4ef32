-- No parameter before this place has the name of an earlier one.
use Rattle.std.proofs.Common.{◌≡◌, ℕ, ◌<◌, Some}
use Rattle.std.specs.List.{slice_get}
use Rattle.vsd_ast.specs.declared.declarations.Param.{Param}
use Rattle.vsd_lawful.specs.Twice.{Repeats, SameParam}
use Rattle.vsd_lawful.proofs.duplicates.has_repeat.Given as goal

abbrev pub invariant-loop-place : goal.invariant-loop-place
invariant-loop-place l =
    (k : ℕ) (p : Param) → k < l.place → slice_get l.params k ≡ Some p → ¬ Repeats SameParam l.params k p
