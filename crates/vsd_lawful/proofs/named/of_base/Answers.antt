use Rattle.std.proofs.Common.{[], ◌∷◌, Option, sym, subst}
use Rattle.vsd_least.specs.Least.{IsLeast}
use Rattle.vsd_least.proofs.LeastLaws.{IsLeast-shown}
use Rattle.vsd_ast.specs.declared.declarations.Located.{Located}
use Rattle.vsd_lawful.specs.Tests.{is_unknown, is_miscounted}
use Rattle.vsd_lawful.specs.Types.{BaseNames, Names, IsUnknown, IsMiscounted}
use Rattle.vsd_lawful.proofs.TypeLemmas.{one_named-Decides, is_unknown-Decides, is_miscounted-Decides, decides_as}
use Rattle.vsd_lawful.proofs.named.of_base.Goals as goal

pub returns-in-Some-clause-unknown : goal.returns-in-Some-clause-unknown
returns-in-Some-clause-unknown c =
    let ds = c.args.scope.now.list.now in
    let b = c.in-Some.base in
    let least = IsLeast-shown (Names (IsUnknown ds) (b.term ∷ [])) c.of_term.result.unknown b.line c.at.result.unknown c.at.ensures.unknown
    (decides_as (Names (IsUnknown ds) (b.term ∷ [])) c.of_term.result.unknown _ c.of_term.ensures.unknown (one_named-Decides (is_unknown ds) (IsUnknown ds) (is_unknown-Decides ds) b.term)) in
    subst (λ (base : Option Located). IsLeast (BaseNames (IsUnknown ds) base) c.at.result.unknown) (sym c.in-Some.is) least

pub returns-in-Some-clause-arity : goal.returns-in-Some-clause-arity
returns-in-Some-clause-arity c =
    let ds = c.args.scope.now.list.now in
    let b = c.in-Some.base in
    let least = IsLeast-shown (Names (IsMiscounted ds) (b.term ∷ [])) c.of_term.result.arity b.line c.at.result.arity c.at.ensures.arity
    (decides_as (Names (IsMiscounted ds) (b.term ∷ [])) c.of_term.result.arity _ c.of_term.ensures.arity (one_named-Decides (is_miscounted ds) (IsMiscounted ds) (is_miscounted-Decides ds) b.term)) in
    subst (λ (base : Option Located). IsLeast (BaseNames (IsMiscounted ds) base) c.at.result.arity) (sym c.in-Some.is) least
