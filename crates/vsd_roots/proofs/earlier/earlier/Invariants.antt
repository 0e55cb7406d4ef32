-- The declarations before this one have their rows.
use Rattle.vsd_roots.specs.Methods.{TabulatesFirst}
use Rattle.vsd_roots.specs.Order.{IsEarlier}
use Rattle.vsd_roots.proofs.earlier.earlier.Given as goal

abbrev pub invariant-loop-at : goal.invariant-loop-at
invariant-loop-at l = TabulatesFirst l.h.decls.now (IsEarlier l.h.decls.now l.h.depths.now) l.at l.rows
