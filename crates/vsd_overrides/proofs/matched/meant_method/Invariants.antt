-- None of the methods before this place is the one that is asked for.
use Rattle.vsd_ways.specs.Found.{SomeBefore}
use Rattle.vsd_overrides.specs.Matched.{IsMeant}
use Rattle.vsd_overrides.proofs.matched.meant_method.Given as goal

abbrev pub invariant-loop-i : goal.invariant-loop-i
invariant-loop-i l = SomeBefore (IsMeant l.o l.args l.implementing) l.i l.methods → ⊥
