use Rattle.vsd_check.proofs.PassLaws.{third_first}
use Rattle.vsd_check.proofs.overriding.third_shown.Goals as goal

pub returns : goal.returns
returns c =
    let found = c.overriding_of-found.result in
    let overrides = c.in_ok-overrides.overrides in
    third_first c.args.decls.now found.misplaced found.last found.left overrides.unknown overrides.repeated c.sooner-misplaced.result c.sooner-last.result c.sooner-left.result c.sooner-unknown.result c.sooner.result
    c.sooner-misplaced.ensures c.sooner-last.ensures c.sooner-left.ensures c.sooner-unknown.ensures c.sooner.ensures
    c.overriding_of-found.ensures.misplaced c.overriding_of-found.ensures.last c.overriding_of-found.ensures.left c.in_ok-overrides.ensures.unknown c.in_ok-overrides.ensures.repeated
