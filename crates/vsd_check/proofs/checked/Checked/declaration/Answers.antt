use Rattle.std.proofs.Common.{ℕ, ◌<◌, List, length, sym, ap, subst}
use Rattle.vsd_ast.specs.declared.declarations.Decls.{Decls}
use Rattle.vsd_check.specs.Checked.{decls_of}
use Rattle.vsd_check.specs.Value.{Value}
use Rattle.vsd_lawful.specs.Index.{IsIndex}
use Rattle.vsd_check.proofs.TableLemmas.{name_within, place_told}
use Rattle.vsd_check.proofs.checked.Checked.declaration.Goals as goal
use Rattle.vsd_check.proofs.checked.Checked.declaration.Goals.{After-as_slice}

-- the table is that of the declarations that are seen
index : (c : After-as_slice) → IsIndex (decls_of c.args.self.now).list c.as_slice.result.now
index c =
    let seen = subst (λ (d : Decls). IsIndex d.list c.self.inside.places) (ap (λ (v : Value). v.decls) c.self.view_is) c.self.invariant.2 in
    subst (λ (ps : List ℕ). IsIndex (decls_of c.args.self.now).list ps) (sym c.as_slice.ensures) seen

pub bounds-as_slice-name : goal.bounds-as_slice-name
bounds-as_slice-name c = name_within (decls_of c.args.self.now).list c.as_slice.result.now c.args.name (index (goal.at.bounds-as_slice-name c).After-as_slice) c.requires

pub returns-clause-place : goal.returns-clause-place
returns-clause-place c = place_told (decls_of c.args.self.now).list c.as_slice.result.now c.args.name (index (goal.at.returns-clause-place c).After-as_slice) c.requires

pub returns-clause-within : goal.returns-clause-within
returns-clause-within c =
    let told = place_told (decls_of c.args.self.now).list c.as_slice.result.now c.args.name (index (goal.at.returns-clause-within c).After-as_slice) c.requires in
    subst (λ (n : ℕ). n < length (decls_of c.args.self.now).list) (sym told) c.requires
