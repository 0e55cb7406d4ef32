use Rattle.std.proofs.Common.{◌∙◌, sym, Some, None, ap}
use Rattle.std.specs.Option.{option_copied}
use Rattle.vsd_grammar.proofs.Places.{class_in_list}
use Rattle.vsd_grammar.proofs.cursor.class_in.Goals as goal

pub returns-in-None : goal.returns-in-None
returns-in-None c = class_in_list c.args.text.now c.args.tokens.now c.args.index None (sym c.at.ensures ∙ ap option_copied c.in-None.is)

pub returns-in-Some : goal.returns-in-Some
returns-in-Some c = c.class_by.ensures
    ∙ class_in_list c.args.text.now c.args.tokens.now c.args.index (Some c.in-Some.token.now) (sym c.at.ensures ∙ ap option_copied c.in-Some.is)
