use Rattle.std.proofs.Common.{◌⊎◌, List, subst}
use Rattle.vsd_least.specs.Least.{IsLeast, AtSome}
use Rattle.vsd_least.proofs.LeastLaws.{IsLeast-earlier}
use Rattle.vsd_ast.specs.declared.declarations.Located.{Located}
use Rattle.vsd_ast.specs.declared.declarations.Method.{Method}
use Rattle.vsd_ast.specs.declared.declarations.Override.{Override}
use Rattle.vsd_lawful.specs.Types.{BaseNames, InterfaceNames, MethodNames, OverrideNames, IsUnknown, IsMiscounted}
use Rattle.vsd_lawful.proofs.named.types.Goals as goal

pub returns-clause-unknown : goal.returns-clause-unknown
returns-clause-unknown c =
    let P = IsUnknown c.args.scope.now.list.now in
    let x = c.args.decl.now in
    let methods = subst (λ (ms : List Method). IsLeast (AtSome ms (MethodNames P)) c.of_methods.result.unknown) c.as_slice.ensures c.of_methods.ensures.unknown in
    let overrides = subst (λ (os : List Override). IsLeast (AtSome os (OverrideNames P)) c.of_overrides.result.unknown) c.as_slice-2.ensures c.of_overrides.ensures.unknown in
    let interfaces = subst (λ (is : List Located). IsLeast (AtSome is (InterfaceNames P)) c.of_interfaces-interfaces.result.unknown) c.as_slice-3.ensures c.of_interfaces-interfaces.ensures.unknown in
    let members = IsLeast-earlier (AtSome x.methods (MethodNames P)) (AtSome x.overrides (OverrideNames P)) c.of_methods.result.unknown c.of_overrides.result.unknown c.first-members.result.unknown c.first-members.ensures.unknown methods overrides in
    let below = IsLeast-earlier (AtSome x.interfaces (InterfaceNames P)) (λ n. AtSome x.methods (MethodNames P) n ⊎ AtSome x.overrides (OverrideNames P) n) c.of_interfaces-interfaces.result.unknown c.first-members.result.unknown c.first.result.unknown c.first.ensures.unknown interfaces members in
    IsLeast-earlier (BaseNames P x.base) _ c.of_base.result.unknown c.first.result.unknown c.first-2.result.unknown c.first-2.ensures.unknown c.of_base.ensures.unknown below

pub returns-clause-arity : goal.returns-clause-arity
returns-clause-arity c =
    let P = IsMiscounted c.args.scope.now.list.now in
    let x = c.args.decl.now in
    let methods = subst (λ (ms : List Method). IsLeast (AtSome ms (MethodNames P)) c.of_methods.result.arity) c.as_slice.ensures c.of_methods.ensures.arity in
    let overrides = subst (λ (os : List Override). IsLeast (AtSome os (OverrideNames P)) c.of_overrides.result.arity) c.as_slice-2.ensures c.of_overrides.ensures.arity in
    let interfaces = subst (λ (is : List Located). IsLeast (AtSome is (InterfaceNames P)) c.of_interfaces-interfaces.result.arity) c.as_slice-3.ensures c.of_interfaces-interfaces.ensures.arity in
    let members = IsLeast-earlier (AtSome x.methods (MethodNames P)) (AtSome x.overrides (OverrideNames P)) c.of_methods.result.arity c.of_overrides.result.arity c.first-members.result.arity c.first-members.ensures.arity methods overrides in
    let below = IsLeast-earlier (AtSome x.interfaces (InterfaceNames P)) (λ n. AtSome x.methods (MethodNames P) n ⊎ AtSome x.overrides (OverrideNames P) n) c.of_interfaces-interfaces.result.arity c.first-members.result.arity c.first.result.arity c.first.ensures.arity interfaces members in
    IsLeast-earlier (BaseNames P x.base) _ c.of_base.result.arity c.first.result.arity c.first-2.result.arity c.first-2.ensures.arity c.of_base.ensures.arity below
