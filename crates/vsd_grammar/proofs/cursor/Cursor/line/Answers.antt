use Rattle.std.proofs.Common.{◌∙◌, sym, Some, None, ap}
use Rattle.std.specs.Option.{option_copied}
use Rattle.vsd_grammar.proofs.Places.{line_from}
use Rattle.vsd_grammar.proofs.cursor.Cursor.line.Goals as goal

pub returns-in-None : goal.returns-in-None
returns-in-None c = line_from c.args.self.now c.self.inside None c.self.view_is (sym c.at.ensures ∙ ap option_copied c.in-None.is)

pub returns-in-Some : goal.returns-in-Some
returns-in-Some c = line_from c.args.self.now c.self.inside (Some c.in-Some.token.now) c.self.view_is (sym c.at.ensures ∙ ap option_copied c.in-Some.is)
