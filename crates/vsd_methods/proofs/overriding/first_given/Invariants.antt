-- None of the overrides before this one gives anything.
use Rattle.std.proofs.Common.{◌≡◌, drop}
use Rattle.vsd_methods.specs.Givens.{answer_of}
use Rattle.vsd_methods.specs.Methods.{first_given}
use Rattle.vsd_methods.proofs.overriding.first_given.Given as goal

abbrev pub invariant-loop-k : goal.invariant-loop-k
invariant-loop-k l = first_given (λ g. answer_of g l.i l.m) l.given ≡ first_given (λ g. answer_of g l.i l.m) (drop l.k l.given)
