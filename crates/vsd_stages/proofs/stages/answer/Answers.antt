use Rattle.std.proofs.Common.{Err, sym, subst}
use Rattle.vsd_stages.specs.Settling.{Settles}
use Rattle.vsd_stages.specs.Stages.{Ends}
use Rattle.vsd_stages.proofs.Lexing.{lex_gives, lex_stops}
use Rattle.vsd_stages.proofs.stages.answer.Goals as goal

pub returns-in-Ok : goal.returns-in-Ok
returns-in-Ok c = lex_gives c.args.text.now c.in-Ok.tokens.items c.in-Ok.ensures.exact c.declared.result (rw c.deref.ensures.value at c.declared.ensures)

pub returns-in-Err : goal.returns-in-Err
returns-in-Err c = subst (λ stopped. Settles (Ends c.args.text.now) (Err stopped)) (sym c.stopped_lex.ensures) (lex_stops c.args.text.now c.in-Err.error c.in-Err.ensures.exact)
