use Rattle.std.proofs.Common.{List, subst}
use Rattle.vsd_ast.specs.declared.declarations.Decl.{Decl}
use Rattle.vsd_hierarchy.specs.Cycles.{ShowsCycle}
use Rattle.vsd_least.specs.Least.{IsLeast, AtSome}
use Rattle.vsd_check.proofs.PassLaws.{second_first}
use Rattle.vsd_check.proofs.settling.second_shown.Goals as goal

pub returns : goal.returns
returns c =
    let found = c.misfits_of-found.result in
    let cycle = subst (λ (ds : List Decl). IsLeast (AtSome ds (ShowsCycle ds)) c.in_ok-line.line) c.requires.scope c.in_ok-line.ensures in
    second_first c.args.decls.now c.in_ok-line.line found.base found.interface c.sooner-cycle.result c.sooner-base.result c.sooner.result
    c.sooner-cycle.ensures c.sooner-base.ensures c.sooner.ensures
    cycle c.misfits_of-found.ensures.base c.misfits_of-found.ensures.interface
