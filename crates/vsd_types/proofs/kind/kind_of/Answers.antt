use Rattle.std.proofs.Common.{IsSome, refl}
use Rattle.vsd_ast.specs.Lookup.{declared}
use Rattle.vsd_check.specs.Checked.{decls_of}
use Rattle.vsd_types.proofs.Declared.{place_of-within}
use Rattle.vsd_types.proofs.kind.kind_of.Goals as goal

pub declaration-requires : goal.declaration-requires
declaration-requires c =
    let ds = (decls_of c.args.checked.now).list in
    let some : IsSome (declared ds c.in-Named.name) = rw c.declaration-decl.ensures.declared refl in
    place_of-within ds c.in-Named.name some
