-- No method so far is abstract.
use Rattle.std.proofs.Common.{◌≡◌, ℕ, ◌<◌, Some, false}
use Rattle.std.specs.List.{slice_get}
use Rattle.vsd_ast.specs.declared.declarations.Method.{Method}
use Rattle.vsd_roots.proofs.abstracts.declares_abstract.Given as goal

abbrev pub invariant-loop-method : goal.invariant-loop-method
invariant-loop-method l = (i : ℕ) (m : Method) → i < l.method-index → slice_get l.method-items i ≡ Some m → m.is_abstract ≡ false
