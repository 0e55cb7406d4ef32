use Rattle.vsd_stages.proofs.Building.{build_gives}
use Rattle.vsd_stages.proofs.stages.prepared.Goals as goal

pub returns-in-Ok : goal.returns-in-Ok
returns-in-Ok c =
    build_gives c.args.tables.now.closed.decls c.args.script c.args.tables.now.closed.types c.requires.whole c.in-Ok.prepared c.in-Ok.ensures.writable c.in-Ok.ensures.answers
