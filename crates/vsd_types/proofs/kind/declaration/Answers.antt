use Rattle.std.proofs.Common.{arith, length}
use Rattle.vsd_ast.specs.WellFormed.{IsDeclaration}
use Rattle.vsd_check.specs.Checked.{decls_of}
use Rattle.vsd_types.proofs.Declared.{place_of-within, declared-place, declared-All}
use Rattle.vsd_types.proofs.kind.declaration.Goals as goal

pub declaration-requires : goal.declaration-requires
declaration-requires c = place_of-within (decls_of c.args.checked.now).list c.args.name c.requires

pub returns-clause-declared : goal.returns-clause-declared
returns-clause-declared c =
    let e = declared-place (decls_of c.args.checked.now).list c.args.name c.index-as_slice-from.result (place_of-within (decls_of c.args.checked.now).list c.args.name c.requires) in
    grind (arith, e, c.index-as_slice-from.is)

pub returns-clause-written : goal.returns-clause-written
returns-clause-written c =
    let ds = (decls_of c.args.checked.now).list in
    let e = declared-place ds c.args.name c.index-as_slice-from.result (place_of-within ds c.args.name c.requires) in
    declared-All (IsDeclaration (length (decls_of c.args.checked.now).names)) ds c.args.name c.index-as_slice-from.result c.declaration.ensures.well_formed.each (grind (arith, e, c.index-as_slice-from.is))
