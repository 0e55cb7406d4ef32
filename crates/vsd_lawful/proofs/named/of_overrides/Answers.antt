use Rattle.std.proofs.Common.{◌≡◌, ◌<◌, length, Some, sym, ap, ◌∙◌, arith}
use Rattle.std.specs.List.{slice_get}
use Rattle.std.proofs.lemmas.Option.{slice_get-get_or}
use Rattle.vsd_least.proofs.LeastLaws.{IsLeast-next, IsLeast-shown, IsLeast-end}
use Rattle.vsd_lawful.specs.Tests.{is_unknown, is_miscounted}
use Rattle.vsd_lawful.specs.Types.{OverrideNames, Names, IsUnknown, IsMiscounted, override_terms}
use Rattle.vsd_lawful.proofs.TypeLemmas.{any_named-Decides, is_unknown-Decides, is_miscounted-Decides, decides_as}
use Rattle.vsd_lawful.proofs.named.of_overrides.Goals as goal

pub loop-given-preserved : goal.loop-given-preserved
loop-given-preserved c =
    let ds = c.args.scope.now.list.now in
    let xs = c.args.overrides.now in
    let i = c.loop-given.given-index in
    let x = c.given-item.result in
    let within : i < length xs = omega arith in
    let there : slice_get xs i ≡ Some x = slice_get-get_or xs i x within ∙ ap Some (sym c.given-item.is) in
    record {
      unknown = IsLeast-next xs (OverrideNames (IsUnknown ds)) i x c.loop-given.lines.unknown c.at.result.unknown c.first-lines.result.unknown c.first-lines.ensures.unknown there c.loop-given.invariant.unknown
          (IsLeast-shown (Names (IsUnknown ds) (override_terms x)) c.of_override.result.unknown x.line c.at.result.unknown c.at.ensures.unknown
          (decides_as (Names (IsUnknown ds) (override_terms x)) c.of_override.result.unknown _ c.of_override.ensures.unknown (any_named-Decides (is_unknown ds) (IsUnknown ds) (is_unknown-Decides ds) (override_terms x))));
      arity = IsLeast-next xs (OverrideNames (IsMiscounted ds)) i x c.loop-given.lines.arity c.at.result.arity c.first-lines.result.arity c.first-lines.ensures.arity there c.loop-given.invariant.arity
          (IsLeast-shown (Names (IsMiscounted ds) (override_terms x)) c.of_override.result.arity x.line c.at.result.arity c.at.ensures.arity
          (decides_as (Names (IsMiscounted ds) (override_terms x)) c.of_override.result.arity _ c.of_override.ensures.arity (any_named-Decides (is_miscounted ds) (IsMiscounted ds) (is_miscounted-Decides ds) (override_terms x))));
    }

pub returns-clause-unknown : goal.returns-clause-unknown
returns-clause-unknown c = IsLeast-end c.args.overrides.now (OverrideNames (IsUnknown c.args.scope.now.list.now)) c.loop-given.given-index c.loop-given.lines.unknown (omega arith) c.loop-given.invariant.unknown

pub returns-clause-arity : goal.returns-clause-arity
returns-clause-arity c = IsLeast-end c.args.overrides.now (OverrideNames (IsMiscounted c.args.scope.now.list.now)) c.loop-given.given-index c.loop-given.lines.arity (omega arith) c.loop-given.invariant.arity
