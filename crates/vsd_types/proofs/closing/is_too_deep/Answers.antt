use Rattle.std.proofs.Common.{◌≤◌, length, subst, sym}
use Rattle.vsd_ast.specs.declared.declarations.Decls.{Decls}
use Rattle.vsd_check.specs.Checked.{decls_of}
use Rattle.vsd_terms.specs.Text.{names_of}
use Rattle.vsd_types.proofs.LawfulLemmas.{lawful-named}
use Rattle.vsd_types.proofs.closing.is_too_deep.Goals as goal

pub print-requires-clause-named : goal.print-requires-clause-named
print-requires-clause-named c =
    let d = decls_of c.args.checked.now in
    subst (λ (x : Decls). names_of c.args.t.now ≤ length x.names) (sym c.decls.ensures.decls) (lawful-named d.list (length d.names) c.decls.ensures.well_formed.each c.args.t.now c.requires.lawful)
