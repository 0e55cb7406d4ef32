-- The methods from this one on are scanned.
use Rattle.std.proofs.Common.{◌+◌, ◌-◌, ◌*◌}
use Rattle.std.specs.HashSet.{contains}
use Rattle.vsd_roots.specs.Bodies.{ScansTo, place_eq}
use Rattle.vsd_roots.proofs.abstracts.scan_class.Given as goal

abbrev pub invariant-loop-method : goal.invariant-loop-method
invariant-loop-method l = ScansTo l.h.decls.now l.chain (l.level * 256 + (256 - l.method)) (contains place_eq l.seen) l.found
