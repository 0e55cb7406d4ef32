-- The classes below this level are scanned.
use Rattle.std.proofs.Common.{◌*◌}
use Rattle.std.specs.HashSet.{contains}
use Rattle.vsd_roots.specs.Bodies.{ScansTo, place_eq}
use Rattle.vsd_roots.proofs.abstracts.has_abstract_below.Given as goal

abbrev pub invariant-loop-level : goal.invariant-loop-level
invariant-loop-level l = ScansTo l.h.decls.now l.chain (l.level * 256) (contains place_eq l.seen) l.found
