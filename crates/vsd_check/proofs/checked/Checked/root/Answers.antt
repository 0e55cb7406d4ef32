use Rattle.std.proofs.Common.{◌≡◌, List, Option, Some, None, IsSome, sym, ap, subst, refl}
use Rattle.std.specs.Option.{IsSomeAnd}
use Rattle.vsd_ast.specs.declared.declarations.Decls.{Decls}
use Rattle.vsd_roots.specs.Methods.{Tabulates, entry}
use Rattle.vsd_roots.specs.Slots.{IsRoot}
use Rattle.vsd_roots.specs.declared.place.Place.{Place}
use Rattle.vsd_check.specs.Checked.{decls_of}
use Rattle.vsd_check.specs.Value.{Value}
use Rattle.vsd_check.proofs.checked.Checked.root.Goals as goal
use Rattle.vsd_check.proofs.checked.Checked.root.Goals.{After-as_slice}

-- the method that is asked for
asked : After-as_slice → Place
asked c = record { decl = c.args.decl; method = c.args.method }

-- it has an entry, which is its root
told : (c : After-as_slice) → IsSomeAnd (entry c.as_slice.result.now (asked c)) (IsRoot (decls_of c.args.self.now).list (asked c))
unfolding asked
told c =
    let seen = subst (λ (d : Decls). Tabulates d.list (IsRoot d.list) c.self.inside.roots) (ap (λ (v : Value). v.decls) c.self.view_is) c.self.invariant.3 in
    let table = subst (λ (rows : List (List Place)). Tabulates (decls_of c.args.self.now).list (IsRoot (decls_of c.args.self.now).list) rows) (sym c.as_slice.ensures) seen in
    table.each (asked c) c.requires.0 c.requires.1

some_entry : (o : Option Place) (P : Place → Type 0) → IsSomeAnd o P → IsSome o
some_entry o P w = elim o as (λ p. IsSomeAnd p P → IsSome p) [ None ↦ λ v. absurd v | Some x ↦ λ v. refl ] w

entry_is : (o : Option Place) (x : Place) (P : Place → Type 0) → o ≡ Some x → IsSomeAnd o P → P x
entry_is o x P is w = subst (λ (p : Option Place). IsSomeAnd p P) is w

pub entry_of-root-requires : goal.entry_of-root-requires
unfolding asked
entry_of-root-requires c =
    let a = (goal.at.entry_of-root-requires c).After-as_slice in
    some_entry (entry c.as_slice.result.now (asked a)) (IsRoot (decls_of c.args.self.now).list (asked a)) (told a)

pub returns-clause-root : goal.returns-clause-root
unfolding asked
returns-clause-root c =
    let a = (goal.at.returns-clause-root c).After-as_slice in
    entry_is (entry c.as_slice.result.now (asked a)) c.entry_of-root.result (IsRoot (decls_of c.args.self.now).list (asked a)) c.entry_of-root.ensures (told a)
