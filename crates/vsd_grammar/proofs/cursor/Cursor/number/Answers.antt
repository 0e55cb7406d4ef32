use Rattle.std.proofs.Common.{◌≡◌, Some, subst}
use Rattle.std.specs.List.{slice_get}
use Rattle.vsd_terms.specs.Names.{AreNames}
use Rattle.vsd_grammar.proofs.Numbers.{number_known}
use Rattle.vsd_grammar.proofs.cursor.Cursor.number.Goals as goal

pub returns-in-Some : goal.returns-in-Some
returns-in-Some c =
    let good = subst (λ j. AreNames j.state.names) c.self.view_is c.in-Some.ensures.names in
    let found = subst (λ j. slice_get j.state.names c.in-Some.number ≡ Some c.args.name.now) c.self.view_is c.in-Some.ensures.found in
    number_known c.args.self.now c.args.name.now c.in-Some.number good found
