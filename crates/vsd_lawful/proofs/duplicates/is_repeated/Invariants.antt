-- No parameter so far has the name.
use Rattle.std.proofs.Common.{◌≡◌, ℕ, ◌<◌, Some}
use Rattle.std.specs.List.{slice_get}
use Rattle.vsd_ast.specs.declared.declarations.Param.{Param}
use Rattle.vsd_lawful.proofs.duplicates.is_repeated.Given as goal

abbrev pub invariant-loop-earlier : goal.invariant-loop-earlier
invariant-loop-earlier l =
    (k : ℕ) (q : Param) → k < l.earlier → slice_get l.params k ≡ Some q → ¬ (q.name ≡ l.param.name)
