use Rattle.std.proofs.Common.{◌≡◌, Bool, true, false, not, List, None, Some, Option, get_or, is_none, is_some, refl, ap, ◌∙◌, sym, subst, arith}
use Rattle.std.specs.List.{slice_get}
use Rattle.std.proofs.lemmas.Option.{slice_get-get_or}
use Rattle.vsd_ast.specs.declared.declarations.Override.{Override}
use Rattle.vsd_least.specs.Least.{AtSome, IsLeast}
use Rattle.vsd_least.proofs.LeastLaws.{IsLeast-end, IsLeast-next, IsLeast-shown}
use Rattle.vsd_overrides.specs.Conditions.{UnknownAt}
use Rattle.vsd_overrides.specs.Targets.{ImplementsNothing, IsTarget}
use Rattle.vsd_overrides.specs.declared.target.Target.{Target}
use Rattle.vsd_overrides.proofs.KeyLemmas.{nothing-Decides}
use Rattle.vsd_overrides.proofs.MeaningLemmas.{entry_at}
use Rattle.vsd_overrides.proofs.conditions.unknown_override.Goals as goal

-- what isn't there is missing
none_is : (o : Option Target) (r : Bool) → is_some o ≡ not r → r ≡ is_none o
none_is None true e = refl
none_is None false e = absurd cc
none_is (Some t) true e = absurd cc
none_is (Some t) false e = refl

pub loop-i-preserved : goal.loop-i-preserved
loop-i-preserved c =
    let ds = c.args.decls.now in
    let x = c.args.decl.now in
    let all = c.as_slice-overrides.result.now in
    let row = c.args.row.now in
    let i = c.loop-i.i in
    let o : Override = get_or all i c.index-overrides-i.result in
    let here = slice_get-get_or all i c.index-overrides-i.result (omega arith) in
    let there = ap (λ (l : List Override). slice_get l i) (sym c.as_slice-overrides.ensures) ∙ here in
    let none : Option Target = None in
    let target : IsTarget ds c.args.place x o (get_or row i none) = entry_at (IsTarget ds c.args.place x o) row i none (c.requires.each i o there) in
    let told = nothing-Decides ds c.args.place x o (get_or row i none) target in
    let is = none_is (get_or row i none) c.is_none.result c.is_none.ensures in
    IsLeast-next all (UnknownAt ds c.args.place x) i o c.loop-i.found c.shown.result c.earlier-found.result c.earlier-found.ensures here c.loop-i.invariant
    (IsLeast-shown (ImplementsNothing ds c.args.place x o) c.is_none.result o.line c.shown.result c.shown.ensures
    (λ h. told.0 (sym is ∙ h), λ n. is ∙ told.1 n))

pub returns : goal.returns
returns c =
    let Q = UnknownAt c.args.decls.now c.args.place c.args.decl.now in
    let P : List Override → Type 0 = λ l. IsLeast (AtSome l Q) c.loop-i.found in
    subst P c.as_slice-overrides.ensures (IsLeast-end c.as_slice-overrides.result.now Q c.loop-i.i c.loop-i.found (omega arith) c.loop-i.invariant)
