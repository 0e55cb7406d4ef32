-- The overrides before this one give nothing for a method of the interface.
use Rattle.std.proofs.Common.{◌≡◌, ℕ, drop}
use Rattle.vsd_methods.specs.Givens.{answer_of}
use Rattle.vsd_methods.specs.Methods.{first_given}
use Rattle.vsd_slots.proofs.marking.is_given.Given as goal

abbrev pub invariant-loop-k : goal.invariant-loop-k
invariant-loop-k l = (m : ℕ) → first_given (λ g. answer_of g l.i m) l.given ≡ first_given (λ g. answer_of g l.i m) (drop l.k l.given)
