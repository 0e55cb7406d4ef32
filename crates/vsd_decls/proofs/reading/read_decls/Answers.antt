use Rattle.std.proofs.Common.{rules, ◌≤◌, length, sym, subst, ◌∙◌}
use Rattle.vsd_ast.specs.declared.declarations.Decls.{Decls}
use Rattle.vsd_decls.specs.Declarations.{beginning, AreDeclarations, decls_of}
use Rattle.vsd_ast.specs.WellFormed.{AreWellFormed}
use Rattle.vsd_decls.proofs.WellFormed.{are_well_formed}
use Rattle.vsd_decls.proofs.Answering.{decl_cause, are_declarations, rest_inside, only_read, none_derived, none_refused, only_refusal, is_dead}
use Rattle.vsd_decls.proofs.reading.read_decls.Goals as goal

pub returns-in-Ok-clause-found : goal.returns-in-Ok-clause-found
returns-in-Ok-clause-found c = subst (AreDeclarations c.args.text.now c.args.tokens.now) (sym c.decls_of.ensures) (are_declarations c.args.text.now c.args.tokens.now c.in-Ok.list c.declarations.new.cursor (search rules))

pub returns-in-Ok-clause-formed : goal.returns-in-Ok-clause-formed
returns-in-Ok-clause-formed c = subst AreWellFormed (sym c.decls_of.ensures) (are_well_formed c.args.text.now c.args.tokens.now (decls_of c.declarations.new.cursor c.in-Ok.list)
    (are_declarations c.args.text.now c.args.tokens.now c.in-Ok.list c.declarations.new.cursor (search rules)))

pub returns-in-Ok-clause-rest : goal.returns-in-Ok-clause-rest
returns-in-Ok-clause-rest c = subst (λ (d : Decls). d.rest ≤ length c.args.tokens.now) (sym c.decls_of.ensures) (rest_inside c.args.text.now c.args.tokens.now c.in-Ok.list c.declarations.new.cursor (search rules))

pub returns-in-Ok-clause-only : goal.returns-in-Ok-clause-only
returns-in-Ok-clause-only c = λ d a. only_read c.args.text.now c.args.tokens.now c.in-Ok.list c.declarations.new.cursor (search rules) d a ∙ sym c.decls_of.ensures

pub returns-in-Err-Memory-clause-dead : goal.returns-in-Err-Memory-clause-dead
returns-in-Err-Memory-clause-dead c = is_dead c.args.text.now c.args.tokens.now

pub error_of-requires : goal.error_of-requires
error_of-requires c =
    let cause = decl_cause (beginning c.args.text.now c.args.tokens.now) c.in-Err-Refused.refused (search rules) in
    let same = c.in-Err-Refused.refused-is in
    cc

pub returns-clause-only : goal.returns-clause-only
returns-clause-only c = λ d a. absurd (none_derived c.args.text.now c.args.tokens.now c.in-Err-Refused.refused (search rules) d a)

pub returns-clause-dead : goal.returns-clause-dead
returns-clause-dead c = is_dead c.args.text.now c.args.tokens.now

pub returns-in-Ok-clause-whenever : goal.returns-in-Ok-clause-whenever
returns-in-Ok-clause-whenever c = λ shown f. none_refused c.args.text.now c.args.tokens.now c.in-Ok.list c.declarations.new.cursor (search rules) shown f

pub returns-clause-whenever : goal.returns-clause-whenever
returns-clause-whenever c = λ shown f. let e = only_refusal c.args.text.now c.args.tokens.now c.in-Err-Refused.refused (search rules) shown f in search rules
