-- The overrides so far.
use Rattle.std.proofs.Common.{◌≡◌, ℕ, ◌<◌, length, take}
use Rattle.vsd_types.specs.Types.{type_at}
use Rattle.vsd_methods.specs.Givens.{answer_of}
use Rattle.vsd_methods.specs.Methods.{first_given, gives}
use Rattle.vsd_methods.proofs.overriding.overrides_of.Given as goal

abbrev pub invariant-loop-o : goal.invariant-loop-o
invariant-loop-o l = (i m : ℕ) → i < length l.closed.types → first_given (gives l.closed.decls.list (type_at l.closed.types i) m (type_at l.closed.types l.t)) (take l.o-index l.overrides) ≡ first_given (λ g. answer_of g i m) l.found
