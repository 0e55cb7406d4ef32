use Rattle.std.proofs.Common.{◌≡◌, map, take}
use Rattle.vsd_compat.specs.Generics.{generic_of}
use Rattle.vsd_compat.proofs.generics.generics_of.Given as goal

abbrev pub invariant-loop-t : goal.invariant-loop-t
invariant-loop-t l = l.made.items ≡ map (generic_of l.closed.decls.list) (take l.t l.closed.types)
