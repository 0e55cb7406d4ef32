use Rattle.std.proofs.Common.{◌≡◌, ◌<◌, length, List, Some, sym, ap, ◌∙◌, subst, arith}
use Rattle.std.specs.List.{slice_get}
use Rattle.std.proofs.lemmas.Option.{slice_get-get_or}
use Rattle.vsd_ast.specs.Lookup.{head_of}
use Rattle.vsd_ast.specs.declared.declarations.Located.{Located}
use Rattle.vsd_least.specs.Least.{IsLeast, AtSome}
use Rattle.vsd_least.proofs.LeastLaws.{IsLeast-next, IsLeast-shown, IsLeast-end}
use Rattle.vsd_hierarchy.specs.Kinds.{IsBadInterface, IsNoInterface}
use Rattle.vsd_hierarchy.proofs.kinds.bad_interface.Goals as goal

pub loop-interface-preserved : goal.loop-interface-preserved
loop-interface-preserved c =
    let ds = c.args.scope.now.list.now in
    let xs = c.as_slice-interface-items.result.now in
    let i = c.loop-interface.interface-index in
    let x = c.interface-item.result in
    let within : i < length xs = omega arith in
    let there : slice_get xs i ≡ Some x = slice_get-get_or xs i x within ∙ ap Some (sym c.interface-item.is) in
    IsLeast-next xs (IsBadInterface ds) i x c.loop-interface.found c.shown.result c.earlier-found.result c.earlier-found.ensures there c.loop-interface.invariant
    (IsLeast-shown (IsNoInterface ds (head_of x.term)) c.is_no_interface.result x.line c.shown.result c.shown.ensures c.is_no_interface.ensures)

pub returns : goal.returns
returns c =
    let ds = c.args.scope.now.list.now in
    let xs = c.as_slice-interface-items.result.now in
    let all = IsLeast-end xs (IsBadInterface ds) c.loop-interface.interface-index c.loop-interface.found (omega arith) c.loop-interface.invariant in
    subst (λ (is : List Located). IsLeast (AtSome is (IsBadInterface ds)) c.loop-interface.found) c.as_slice-interface-items.ensures all
