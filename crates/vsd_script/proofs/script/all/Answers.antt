use Rattle.std.proofs.Common.{suc, subst}
use Rattle.vsd_ast.specs.declared.scripts.Script.{Script}
use Rattle.vsd_grammar.specs.Grammar.{run, turns, Outcome}
use Rattle.vsd_grammar.specs.Input.{Input, is_end, left}
use Rattle.vsd_grammar.specs.Productions.{Reads}
use Rattle.vsd_script.specs.Productions.{script, statement}
use Rattle.vsd_script.proofs.script.all.Goals as goal

pub returns : goal.returns
unfolding script
returns c =
    let step : Script → Input → Outcome Script = λ s. run Script (statement c.args.types.now.decls.now s) in
    subst (λ (s : Script). Reads (turns (λ q u. is_end q) step (suc (left c.args.cursor.now)) s c.args.cursor.now) c.until.result c.until.new.cursor) c.empty.ensures
    (c.until.ensures (λ q s. is_end q) step (λ x s y p. p.1) (λ old s r new p. p))
