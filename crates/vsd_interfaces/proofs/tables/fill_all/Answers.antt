use Rattle.std.proofs.Common.{arith}
use Rattle.vsd_check.specs.Checked.{depths_of}
use Rattle.vsd_interfaces.proofs.RowLaws.{rows-end}
use Rattle.vsd_interfaces.proofs.tables.fill_all.Goals as goal

pub returns : goal.returns
returns c =
    let ranks = c.args.ranks.now in
    let all = c.count-rank-end.ensures ranks c.in_ok-layers.ensures in
    rows-end c.args.closed.now (depths_of c.args.checked.now) ranks c.requires.ranks.count c.loop-rank.rank c.loop-rank.table.reached c.loop-rank.table.maps (λ t within. omega (arith, all t within)) c.loop-rank.invariant
