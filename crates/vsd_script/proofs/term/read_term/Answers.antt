use Rattle.std.proofs.Common.{◌∙◌}
use Rattle.vsd_script.specs.Productions.{term_at}
use Rattle.vsd_script.specs.Answers.{anything}
use Rattle.vsd_script.proofs.Deciding.{decides_term_at}
use Rattle.vsd_script.proofs.Terms.{term_root, term_after}
use Rattle.vsd_script.proofs.Told.{stops_with, what_is_found, nothing_else, nothing_allowed, is_dead}
use Rattle.vsd_script.proofs.term.read_term.Goals as goal

pub returns-in-Ok-clause-exact : goal.returns-in-Ok-clause-exact
returns-in-Ok-clause-exact c = c.in-Ok.ensures

pub returns-in-Ok-clause-found : goal.returns-in-Ok-clause-found
returns-in-Ok-clause-found c = let w = c.in-Ok.ensures in (w.0, what_is_found (term_at c.args.decls.now) (decides_term_at c.args.decls.now anything) _ w.0 c.in-Ok.term w.1)

pub returns-in-Ok-clause-only : goal.returns-in-Ok-clause-only
returns-in-Ok-clause-only c = let w = c.in-Ok.ensures in nothing_else (term_at c.args.decls.now) (decides_term_at c.args.decls.now anything) _ w.0 c.in-Ok.term w.1

pub returns-in-Err-clause-exact : goal.returns-in-Err-clause-exact
returns-in-Err-clause-exact c = let w = c.in-Err.ensures in (c.in-Err.stop, c.told.ensures, stops_with _ c.in-Err.stop w.0 w.1)

pub returns-in-Err-clause-only : goal.returns-in-Err-clause-only
returns-in-Err-clause-only c = λ y k d.
    let w = c.in-Err.ensures in
    c.told.ensures ∙ nothing_allowed (term_at c.args.decls.now) (decides_term_at c.args.decls.now anything) _ w.0 c.args.tokens.now c.in-Err.stop w.1 y k d

pub returns-in-Ok-clause-dead : goal.returns-in-Ok-clause-dead
returns-in-Ok-clause-dead c = is_dead (term_at c.args.decls.now) (decides_term_at c.args.decls.now anything) _

pub returns-in-Err-clause-dead : goal.returns-in-Err-clause-dead
returns-in-Err-clause-dead c = is_dead (term_at c.args.decls.now) (decides_term_at c.args.decls.now anything) _

pub returns-in-Ok-clause-root : goal.returns-in-Ok-clause-root
returns-in-Ok-clause-root c =
    let w = c.in-Ok.ensures in
    term_root c.args.decls.now _ c.in-Ok.term w.0 (what_is_found (term_at c.args.decls.now) (decides_term_at c.args.decls.now anything) _ w.0 c.in-Ok.term w.1)

pub returns-in-Ok-clause-after : goal.returns-in-Ok-clause-after
returns-in-Ok-clause-after c =
    let w = c.in-Ok.ensures in
    term_after c.args.decls.now c.args.text.now c.args.tokens.now c.args.at c.requires.inside c.in-Ok.term w.0 w.1
