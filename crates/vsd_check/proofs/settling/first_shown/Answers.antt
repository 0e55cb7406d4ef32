use Rattle.vsd_check.proofs.PassLaws.{first_first}
use Rattle.vsd_check.proofs.settling.first_shown.Goals as goal

pub returns : goal.returns
returns c =
    let found = c.in_ok-found.found in
    first_first c.args.decls.now found.twice found.unknown found.arity found.variant c.sooner-twice.result c.sooner-unknown.result c.sooner-arity.result c.sooner.result
    c.sooner-twice.ensures c.sooner-unknown.ensures c.sooner-arity.ensures c.sooner.ensures
    c.in_ok-found.ensures.twice c.in_ok-found.ensures.unknown c.in_ok-found.ensures.arity c.in_ok-found.ensures.variant
