use Rattle.std.proofs.Common.{◌≡◌, List, subst}
use Rattle.vsd_least.proofs.LeastLaws.{IsLeast-earlier, IsLeast-shown}
use Rattle.vsd_least.specs.Least.{AtSome, IsLeast}
use Rattle.vsd_ast.specs.declared.declarations.Method.{Method}
use Rattle.vsd_lawful.specs.Twice.{IsTwice, RepeatsMethod}
use Rattle.vsd_lawful.proofs.duplicates.twice.Goals as goal

pub returns : goal.returns
returns c =
    let x = c.args.decl.now in
    let at_class = IsTwice c.args.names.now c.args.scope.now.list.now c.args.place x in
    let F = λ (methods : List Method). IsLeast (AtSome methods (RepeatsMethod methods)) c.in_ok-at_methods.at_methods in
    IsLeast-earlier (λ n. at_class × (n ≡ x.line)) (AtSome x.methods (RepeatsMethod x.methods)) c.shown-at_class.result c.in_ok-at_methods.at_methods c.earlier.result c.earlier.ensures
    (IsLeast-shown at_class c.is_twice.result x.line c.shown-at_class.result c.shown-at_class.ensures c.is_twice.ensures)
    (subst F c.as_slice.ensures c.in_ok-at_methods.ensures)
