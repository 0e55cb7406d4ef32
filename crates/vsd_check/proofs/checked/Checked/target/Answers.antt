use Rattle.std.proofs.Common.{◌≡◌, ◌<◌, List, [], length, get_or, Option, Some, None, inl, inr, sym, ap, ◌∙◌, subst, arith}
use Rattle.std.specs.List.{slice_get}
use Rattle.std.proofs.lemmas.List.{get_or_default}
use Rattle.std.proofs.lemmas.Option.{slice_get_cases, slice_get_within}
use Rattle.vsd_ast.specs.declared.declarations.Decl.{Decl}
use Rattle.vsd_ast.specs.declared.declarations.Decls.{Decls}
use Rattle.vsd_ast.specs.declared.declarations.Override.{Override}
use Rattle.vsd_overrides.specs.Targets.{AreTargets, ImplementsNothing, IsTarget, TabulatesTargets}
use Rattle.vsd_overrides.specs.declared.target.Target.{Target}
use Rattle.vsd_overrides.proofs.MeaningLemmas.{entry_at}
use Rattle.vsd_check.specs.Checked.{decls_of}
use Rattle.vsd_check.specs.Conditions.{AreLawful}
use Rattle.vsd_check.specs.Value.{Value}
use Rattle.vsd_check.proofs.SettledLaws.{lawful_target}
use Rattle.vsd_check.proofs.checked.Checked.target.Goals as goal
use Rattle.vsd_check.proofs.checked.Checked.target.Goals.{After-as_slice-2}

-- the row of the declaration
told : (c : After-as_slice-2) (x : Decl) → slice_get (decls_of c.args.self.now).list c.args.decl ≡ Some x → AreTargets (decls_of c.args.self.now).list c.args.decl x c.as_slice-2.result.now
told c x here =
    let ds = (decls_of c.args.self.now).list in
    let none : List (Option Target) = [] in
    let table = c.as_slice.result.now in
    let seen = subst (λ (d : Decls). TabulatesTargets d.list c.self.inside.targets) (ap (λ (v : Value). v.decls) c.self.view_is) c.self.invariant.4 in
    let all : TabulatesTargets ds table = subst (λ (rows : List (List (Option Target))). TabulatesTargets ds rows) (sym c.as_slice.ensures) seen in
    let inside : c.args.decl < length table = omega (arith, slice_get_within ds c.args.decl x here, all.rows) in
    let row : c.as_slice-2.result.now ≡ get_or table c.args.decl none = c.as_slice-2.ensures ∙ c.index-as_slice-decl.is ∙ get_or_default table c.args.decl c.index-as_slice-decl.result none inside in
    subst (λ (r : List (Option Target)). AreTargets ds c.args.decl x r) (sym row) (all.each c.args.decl x here)

-- what is found of an override
found : (c : After-as_slice-2) (x : Decl) (o : Override) → slice_get (decls_of c.args.self.now).list c.args.decl ≡ Some x → slice_get x.overrides c.args.place ≡ Some o → IsTarget (decls_of c.args.self.now).list c.args.decl x o (get_or c.as_slice-2.result.now c.args.place None)
found c x o here there =
    let none : Option Target = None in
    entry_at (IsTarget (decls_of c.args.self.now).list c.args.decl x o) c.as_slice-2.result.now c.args.place none ((told c x here).each c.args.place o there)

pub bounds : goal.bounds
bounds c =
    let a = (goal.at.bounds c).After-as_slice-2 in
    let w = c.requires in
    omega (arith, (told a w.0 w.1.0).long, w.1.1)

pub unreachable-requires : goal.unreachable-requires
unreachable-requires c =
    let a = (goal.at.unreachable-requires c).After-as_slice-2 in
    let w = c.requires in
    let x = w.0 in
    let ds = (decls_of c.args.self.now).list in
    let none : Option Target = None in
    let gone : get_or c.as_slice-2.result.now c.args.place none ≡ none = c.in-None.is in
    let lawful : AreLawful (decls_of c.args.self.now) = subst AreLawful (ap (λ (v : Value). v.decls) c.self.view_is) c.self.invariant.5 in
    elim (slice_get_cases x.overrides c.args.place).1 [
      | inl o ↦ (
          let nothing : ImplementsNothing ds c.args.decl x o.0 = subst (IsTarget ds c.args.decl x o.0) gone (found a x o.0 w.1.0 o.2) in
          lawful_target (decls_of c.args.self.now) lawful c.args.decl x c.args.place o.0 w.1.0 o.2 nothing
          )
      | inr past ↦ omega (arith, past.0, w.1.1)
    ]

pub returns-clause-target : goal.returns-clause-target
returns-clause-target c x o here there =
    let a = (goal.at.returns-clause-target c).After-as_slice-2 in
    let none : Option Target = None in
    let some : get_or c.as_slice-2.result.now c.args.place none ≡ Some c.in-Some.target = c.in-Some.is in
    subst (IsTarget (decls_of c.args.self.now).list c.args.decl x o) some (found a x o here there)
