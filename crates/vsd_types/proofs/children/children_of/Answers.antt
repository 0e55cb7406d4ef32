use Rattle.std.proofs.Common.{◌≡◌, true, sym, ◌∙◌}
use Rattle.vsd_terms.specs.declared.term.Term.TheVariants.{Named}
use Rattle.vsd_ast.specs.Lookup.{is_lawful}
use Rattle.vsd_check.specs.Checked.{decls_of}
use Rattle.vsd_types.proofs.Declared.{length-named_of, lawful-params, written_base-fits, written-fits}
use Rattle.vsd_types.proofs.children.children_of.Goals as goal

pub push_base-requires : goal.push_base-requires
push_base-requires c =
    let ds = (decls_of c.args.checked.now).list in
    let lawful : is_lawful ds (Named c.in-Named.name c.in-Named.args) ≡ true = rw c.in-Named.is at c.requires.lawful in
    written_base-fits _ _ _ c.declaration-decl.result.now.base c.declaration-decl.ensures.written.base (lawful-params ds c.in-Named.name c.in-Named.args c.declaration-decl.result.now lawful c.declaration-decl.ensures.declared)

pub push_interfaces-requires : goal.push_interfaces-requires
push_interfaces-requires c =
    let ds = (decls_of c.args.checked.now).list in
    let lawful : is_lawful ds (Named c.in-Named.name c.in-Named.args) ≡ true = rw c.in-Named.is at c.requires.lawful in
    written-fits _ _ _ c.declaration-decl.result.now.interfaces c.declaration-decl.ensures.written.interfaces (lawful-params ds c.in-Named.name c.in-Named.args c.declaration-decl.result.now lawful c.declaration-decl.ensures.declared)

pub returns-in_ok-push_copies-in-Named-clause-interfaces :
    goal.returns-in_ok-push_copies-in-Named-clause-interfaces
returns-in_ok-push_copies-in-Named-clause-interfaces c =
    c.len.ensures ∙ sym (length-named_of (decls_of c.args.checked.now).list c.args.t.now c.in-Named.name c.in-Named.args c.declaration-decl.result.now c.in-Named.is c.declaration-decl.ensures.declared)
