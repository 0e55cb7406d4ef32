-- The declarations before this one have their rows.
use Rattle.vsd_roots.specs.Methods.{TabulatesFirst}
use Rattle.vsd_roots.specs.Slots.{IsOverridden}
use Rattle.vsd_roots.proofs.overriding.overridden.Given as goal

abbrev pub invariant-loop-at : goal.invariant-loop-at
invariant-loop-at l = TabulatesFirst l.h.decls.now (IsOverridden l.h.decls.now) l.at l.rows
