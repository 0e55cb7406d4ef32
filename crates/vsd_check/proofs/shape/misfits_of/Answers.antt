use Rattle.std.proofs.Common.{◌≡◌, ◌<◌, List, length, Some, sym, ap, ◌∙◌, subst, arith}
use Rattle.std.specs.List.{slice_get}
use Rattle.std.proofs.lemmas.Option.{slice_get-get_or}
use Rattle.vsd_ast.specs.declared.declarations.Decl.{Decl}
use Rattle.vsd_least.specs.Least.{IsLeast, AtSome}
use Rattle.vsd_least.proofs.LeastLaws.{IsLeast-next, IsLeast-end}
use Rattle.vsd_hierarchy.specs.Kinds.{ShowsBadBase, ShowsBadInterface}
use Rattle.vsd_check.proofs.shape.misfits_of.Goals as goal

pub loop-decl-preserved : goal.loop-decl-preserved
loop-decl-preserved c =
    let ds = c.args.scope.now.list.now in
    let i = c.loop-decl.decl-index in
    let x = c.decl-item.result in
    let within : i < length ds = omega arith in
    let there : slice_get ds i ≡ Some x = slice_get-get_or ds i x within ∙ ap Some (sym c.decl-item.is) in
    let inv = c.loop-decl.invariant in
    record {
      base = IsLeast-next ds (λ _. ShowsBadBase ds) i x c.loop-decl.found.base c.bad_base-base_here.result c.earlier-base.result c.earlier-base.ensures there inv.base c.bad_base-base_here.ensures;
      interface = IsLeast-next ds (λ _. ShowsBadInterface ds) i x c.loop-decl.found.interface c.bad_interface-interface_here.result c.earlier-interface.result c.earlier-interface.ensures there inv.interface c.bad_interface-interface_here.ensures;
    }

pub returns-clause-base : goal.returns-clause-base
returns-clause-base c =
    let ds = c.args.scope.now.list.now in
    subst (λ (xs : List Decl). IsLeast (AtSome xs (λ _. ShowsBadBase xs)) c.loop-decl.found.base) c.requires
    (IsLeast-end ds (λ _. ShowsBadBase ds) c.loop-decl.decl-index c.loop-decl.found.base (omega arith) c.loop-decl.invariant.base)

pub returns-clause-interface : goal.returns-clause-interface
returns-clause-interface c =
    let ds = c.args.scope.now.list.now in
    subst (λ (xs : List Decl). IsLeast (AtSome xs (λ _. ShowsBadInterface xs)) c.loop-decl.found.interface) c.requires
    (IsLeast-end ds (λ _. ShowsBadInterface ds) c.loop-decl.decl-index c.loop-decl.found.interface (omega arith) c.loop-decl.invariant.interface)
