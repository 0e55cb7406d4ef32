-- None of the methods before this place is the one that is asked for.
use Rattle.vsd_ways.specs.Found.{SomeBefore}
use Rattle.vsd_overrides.specs.Matched.{IsNamed}
use Rattle.vsd_overrides.proofs.matched.named_method.Given as goal

abbrev pub invariant-loop-i : goal.invariant-loop-i
invariant-loop-i l = SomeBefore (IsNamed l.name l.signature) l.i l.methods → ⊥
