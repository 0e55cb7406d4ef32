use Rattle.std.proofs.Common.{◌≡◌, take}
use Rattle.vsd_types.specs.Closing.{plain_types}
use Rattle.vsd_types.proofs.closing.plain_types.Given as goal

abbrev pub invariant-loop-decl : goal.invariant-loop-decl
invariant-loop-decl l = l.made ≡ plain_types (take l.decl-index l.decls)
