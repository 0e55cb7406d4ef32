use Rattle.std.proofs.Common.{◌≡◌, ◌<◌, length, Some, sym, ap, ◌∙◌, arith}
use Rattle.std.specs.List.{slice_get}
use Rattle.std.proofs.lemmas.Option.{slice_get-get_or}
use Rattle.vsd_least.proofs.LeastLaws.{IsLeast-next, IsLeast-shown, IsLeast-end}
use Rattle.vsd_lawful.specs.Tests.{is_unknown, is_miscounted}
use Rattle.vsd_lawful.specs.Types.{MethodNames, Names, IsUnknown, IsMiscounted, signature_terms}
use Rattle.vsd_lawful.proofs.TypeLemmas.{any_named-Decides, is_unknown-Decides, is_miscounted-Decides, decides_as}
use Rattle.vsd_lawful.proofs.named.of_methods.Goals as goal

pub loop-method-preserved : goal.loop-method-preserved
loop-method-preserved c =
    let ds = c.args.scope.now.list.now in
    let xs = c.args.methods.now in
    let i = c.loop-method.method-index in
    let x = c.method-item.result in
    let within : i < length xs = omega arith in
    let there : slice_get xs i ≡ Some x = slice_get-get_or xs i x within ∙ ap Some (sym c.method-item.is) in
    record {
      unknown = IsLeast-next xs (MethodNames (IsUnknown ds)) i x c.loop-method.lines.unknown c.at.result.unknown c.first-lines.result.unknown c.first-lines.ensures.unknown there c.loop-method.invariant.unknown
          (IsLeast-shown (Names (IsUnknown ds) (signature_terms x.signature)) c.of_signature.result.unknown x.line c.at.result.unknown c.at.ensures.unknown
          (decides_as (Names (IsUnknown ds) (signature_terms x.signature)) c.of_signature.result.unknown _ c.of_signature.ensures.unknown (any_named-Decides (is_unknown ds) (IsUnknown ds) (is_unknown-Decides ds) (signature_terms x.signature))));
      arity = IsLeast-next xs (MethodNames (IsMiscounted ds)) i x c.loop-method.lines.arity c.at.result.arity c.first-lines.result.arity c.first-lines.ensures.arity there c.loop-method.invariant.arity
          (IsLeast-shown (Names (IsMiscounted ds) (signature_terms x.signature)) c.of_signature.result.arity x.line c.at.result.arity c.at.ensures.arity
          (decides_as (Names (IsMiscounted ds) (signature_terms x.signature)) c.of_signature.result.arity _ c.of_signature.ensures.arity (any_named-Decides (is_miscounted ds) (IsMiscounted ds) (is_miscounted-Decides ds) (signature_terms x.signature))));
    }

pub returns-clause-unknown : goal.returns-clause-unknown
returns-clause-unknown c = IsLeast-end c.args.methods.now (MethodNames (IsUnknown c.args.scope.now.list.now)) c.loop-method.method-index c.loop-method.lines.unknown (omega arith) c.loop-method.invariant.unknown

pub returns-clause-arity : goal.returns-clause-arity
returns-clause-arity c = IsLeast-end c.args.methods.now (MethodNames (IsMiscounted c.args.scope.now.list.now)) c.loop-method.method-index c.loop-method.lines.arity (omega arith) c.loop-method.invariant.arity
