use Rattle.std.proofs.Common.{◌∙◌}
use Rattle.vsd_script.specs.Productions.{script}
use Rattle.vsd_script.specs.Answers.{anything}
use Rattle.vsd_script.proofs.Deciding.{decides_script}
use Rattle.vsd_script.proofs.Keeping.{script_formed, script_names, script_calls, script_roots, script_slots}
use Rattle.vsd_script.proofs.Told.{stops_with, what_is_found, nothing_else, nothing_allowed, is_dead}
use Rattle.vsd_script.proofs.script.read_script.Goals as goal

pub returns-in-Ok-clause-exact : goal.returns-in-Ok-clause-exact
returns-in-Ok-clause-exact c = c.in-Ok.ensures

pub returns-in-Ok-clause-found : goal.returns-in-Ok-clause-found
returns-in-Ok-clause-found c = let w = c.in-Ok.ensures in (w.0, what_is_found (script c.args.decls.now) (decides_script c.args.decls.now anything) _ w.0 c.in-Ok.script w.1)

pub returns-in-Ok-clause-only : goal.returns-in-Ok-clause-only
returns-in-Ok-clause-only c = let w = c.in-Ok.ensures in nothing_else (script c.args.decls.now) (decides_script c.args.decls.now anything) _ w.0 c.in-Ok.script w.1

pub returns-in-Err-clause-exact : goal.returns-in-Err-clause-exact
returns-in-Err-clause-exact c = let w = c.in-Err.ensures in (c.in-Err.stop, c.told.ensures, stops_with _ c.in-Err.stop w.0 w.1)

pub returns-in-Err-clause-only : goal.returns-in-Err-clause-only
returns-in-Err-clause-only c = λ y k d.
    let w = c.in-Err.ensures in
    c.told.ensures ∙ nothing_allowed (script c.args.decls.now) (decides_script c.args.decls.now anything) _ w.0 c.args.tokens.now c.in-Err.stop w.1 y k d

pub returns-in-Ok-clause-dead : goal.returns-in-Ok-clause-dead
returns-in-Ok-clause-dead c = is_dead (script c.args.decls.now) (decides_script c.args.decls.now anything) _

pub returns-in-Err-clause-dead : goal.returns-in-Err-clause-dead
returns-in-Err-clause-dead c = is_dead (script c.args.decls.now) (decides_script c.args.decls.now anything) _

pub returns-in-Ok-clause-formed : goal.returns-in-Ok-clause-formed
returns-in-Ok-clause-formed c =
    let w = c.in-Ok.ensures in
    script_formed c.args.decls.now c.requires.formed _ c.in-Ok.script w.0 (what_is_found (script c.args.decls.now) (decides_script c.args.decls.now anything) _ w.0 c.in-Ok.script w.1)

pub returns-in-Ok-clause-roots : goal.returns-in-Ok-clause-roots
returns-in-Ok-clause-roots c =
    let w = c.in-Ok.ensures in
    script_roots c.args.decls.now c.requires.formed _ c.in-Ok.script w.0 (what_is_found (script c.args.decls.now) (decides_script c.args.decls.now anything) _ w.0 c.in-Ok.script w.1)

pub returns-in-Ok-clause-slots : goal.returns-in-Ok-clause-slots
returns-in-Ok-clause-slots c =
    let w = c.in-Ok.ensures in
    script_slots c.args.decls.now c.requires.formed _ c.in-Ok.script w.0 (what_is_found (script c.args.decls.now) (decides_script c.args.decls.now anything) _ w.0 c.in-Ok.script w.1)

pub returns-in-Ok-clause-names : goal.returns-in-Ok-clause-names
returns-in-Ok-clause-names c =
    let w = c.in-Ok.ensures in
    script_names c.args.decls.now c.requires.formed _ c.in-Ok.script w.0 (what_is_found (script c.args.decls.now) (decides_script c.args.decls.now anything) _ w.0 c.in-Ok.script w.1)

pub returns-in-Ok-clause-calls : goal.returns-in-Ok-clause-calls
returns-in-Ok-clause-calls c =
    let w = c.in-Ok.ensures in
    script_calls c.args.decls.now c.requires.formed _ c.in-Ok.script w.0 (what_is_found (script c.args.decls.now) (decides_script c.args.decls.now anything) _ w.0 c.in-Ok.script w.1)
