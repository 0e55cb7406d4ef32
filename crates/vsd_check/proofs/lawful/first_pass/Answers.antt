use Rattle.std.proofs.Common.{◌≡◌, ◌<◌, List, length, Some, sym, ap, ◌∙◌, subst, arith}
use Rattle.std.specs.List.{slice_get}
use Rattle.std.proofs.lemmas.Option.{slice_get-get_or}
use Rattle.vsd_ast.specs.declared.declarations.Decl.{Decl}
use Rattle.vsd_least.specs.Least.{IsLeast, AtSome}
use Rattle.vsd_least.proofs.LeastLaws.{IsLeast-next, IsLeast-end}
use Rattle.vsd_lawful.specs.Twice.{ShowsTwice}
use Rattle.vsd_lawful.specs.Types.{ShowsUnknown, ShowsArity}
use Rattle.vsd_lawful.specs.Variant.{ShowsVariantClass}
use Rattle.vsd_check.proofs.lawful.first_pass.Goals as goal

pub loop-place-preserved : goal.loop-place-preserved
loop-place-preserved c =
    let ds = c.args.scope.now.list.now in
    let i = c.loop-place.place in
    let x = c.decl-item.result in
    let within : i < length ds = omega arith in
    let there : slice_get ds i ≡ Some x = slice_get-get_or ds i x within ∙ ap Some (sym c.decl-item.is) in
    let inv = c.loop-place.invariant in
    record {
      twice = IsLeast-next ds (ShowsTwice c.args.decls.now.names ds) i x c.loop-place.found.twice c.in_ok-twice_here.twice_here c.earlier-twice.result c.earlier-twice.ensures there inv.twice c.in_ok-twice_here.ensures;
      unknown = IsLeast-next ds (λ _. ShowsUnknown ds) i x c.loop-place.found.unknown c.types-lines.result.unknown c.earlier-unknown.result c.earlier-unknown.ensures there inv.unknown c.types-lines.ensures.unknown;
      arity = IsLeast-next ds (λ _. ShowsArity ds) i x c.loop-place.found.arity c.types-lines.result.arity c.earlier-arity.result c.earlier-arity.ensures there inv.arity c.types-lines.ensures.arity;
      variant = IsLeast-next ds (λ _. ShowsVariantClass) i x c.loop-place.found.variant c.variant_class-variant_here.result c.earlier-variant.result c.earlier-variant.ensures there inv.variant c.variant_class-variant_here.ensures;
    }

pub returns-clause-twice : goal.returns-clause-twice
returns-clause-twice c =
    let ds = c.args.scope.now.list.now in
    let names = c.args.decls.now.names in
    subst (λ (xs : List Decl). IsLeast (AtSome xs (ShowsTwice names xs)) c.loop-place.found.twice) c.requires.scope
    (IsLeast-end ds (ShowsTwice names ds) c.loop-place.place c.loop-place.found.twice (omega arith) c.loop-place.invariant.twice)

pub returns-clause-unknown : goal.returns-clause-unknown
returns-clause-unknown c =
    let ds = c.args.scope.now.list.now in
    subst (λ (xs : List Decl). IsLeast (AtSome xs (λ _. ShowsUnknown xs)) c.loop-place.found.unknown) c.requires.scope
    (IsLeast-end ds (λ _. ShowsUnknown ds) c.loop-place.place c.loop-place.found.unknown (omega arith) c.loop-place.invariant.unknown)

pub returns-clause-arity : goal.returns-clause-arity
returns-clause-arity c =
    let ds = c.args.scope.now.list.now in
    subst (λ (xs : List Decl). IsLeast (AtSome xs (λ _. ShowsArity xs)) c.loop-place.found.arity) c.requires.scope
    (IsLeast-end ds (λ _. ShowsArity ds) c.loop-place.place c.loop-place.found.arity (omega arith) c.loop-place.invariant.arity)

pub returns-clause-variant : goal.returns-clause-variant
returns-clause-variant c =
    let ds = c.args.scope.now.list.now in
    subst (λ (xs : List Decl). IsLeast (AtSome xs (λ _. ShowsVariantClass)) c.loop-place.found.variant) c.requires.scope
    (IsLeast-end ds (λ _. ShowsVariantClass) c.loop-place.place c.loop-place.found.variant (omega arith) c.loop-place.invariant.variant)
