use Rattle.std.proofs.Common.{◌≡◌, ◌<◌, [], ◌∷◌, length, Some, sym, ap, ◌∙◌, arith}
use Rattle.std.specs.List.{slice_get}
use Rattle.std.proofs.lemmas.Option.{slice_get-get_or}
use Rattle.vsd_least.proofs.LeastLaws.{IsLeast-next, IsLeast-shown, IsLeast-end}
use Rattle.vsd_lawful.specs.Tests.{is_unknown, is_miscounted}
use Rattle.vsd_lawful.specs.Types.{InterfaceNames, Names, IsUnknown, IsMiscounted}
use Rattle.vsd_lawful.proofs.TypeLemmas.{one_named-Decides, is_unknown-Decides, is_miscounted-Decides, decides_as}
use Rattle.vsd_lawful.proofs.named.of_interfaces.Goals as goal

pub loop-interface-preserved : goal.loop-interface-preserved
loop-interface-preserved c =
    let ds = c.args.scope.now.list.now in
    let xs = c.args.interfaces.now in
    let i = c.loop-interface.interface-index in
    let x = c.interface-item.result in
    let within : i < length xs = omega arith in
    let there : slice_get xs i ≡ Some x = slice_get-get_or xs i x within ∙ ap Some (sym c.interface-item.is) in
    record {
      unknown = IsLeast-next xs (InterfaceNames (IsUnknown ds)) i x c.loop-interface.lines.unknown c.at.result.unknown c.first-lines.result.unknown c.first-lines.ensures.unknown there c.loop-interface.invariant.unknown
          (IsLeast-shown (Names (IsUnknown ds) (x.term ∷ [])) c.of_term.result.unknown x.line c.at.result.unknown c.at.ensures.unknown
          (decides_as (Names (IsUnknown ds) (x.term ∷ [])) c.of_term.result.unknown _ c.of_term.ensures.unknown (one_named-Decides (is_unknown ds) (IsUnknown ds) (is_unknown-Decides ds) x.term)));
      arity = IsLeast-next xs (InterfaceNames (IsMiscounted ds)) i x c.loop-interface.lines.arity c.at.result.arity c.first-lines.result.arity c.first-lines.ensures.arity there c.loop-interface.invariant.arity
          (IsLeast-shown (Names (IsMiscounted ds) (x.term ∷ [])) c.of_term.result.arity x.line c.at.result.arity c.at.ensures.arity
          (decides_as (Names (IsMiscounted ds) (x.term ∷ [])) c.of_term.result.arity _ c.of_term.ensures.arity (one_named-Decides (is_miscounted ds) (IsMiscounted ds) (is_miscounted-Decides ds) x.term)));
    }

pub returns-clause-unknown : goal.returns-clause-unknown
returns-clause-unknown c = IsLeast-end c.args.interfaces.now (InterfaceNames (IsUnknown c.args.scope.now.list.now)) c.loop-interface.interface-index c.loop-interface.lines.unknown (omega arith) c.loop-interface.invariant.unknown

pub returns-clause-arity : goal.returns-clause-arity
returns-clause-arity c = IsLeast-end c.args.interfaces.now (InterfaceNames (IsMiscounted c.args.scope.now.list.now)) c.loop-interface.interface-index c.loop-interface.lines.arity (omega arith) c.loop-interface.invariant.arity
