use Rattle.std.proofs.Common.{arith}
use Rattle.vsd_roots.specs.Order.{IsEarlier}
use Rattle.vsd_roots.proofs.TableLemmas.{first-end, first-push}
use Rattle.vsd_roots.proofs.earlier.earlier.Goals as goal

pub loop-at-preserved : goal.loop-at-preserved
loop-at-preserved c =
    let h = c.args.h.now in
    let ds = h.decls.now in
    first-push ds (IsEarlier ds h.depths.now) c.loop-at.at c.loop-at.rows c.push.new.self c.in_ok-row.row c.in_ok-push.ensures.ok c.in_ok-row.ensures c.loop-at.invariant

pub returns : goal.returns
returns c =
    let h = c.args.h.now in
    first-end h.decls.now (IsEarlier h.decls.now h.depths.now) c.loop-at.at c.loop-at.rows (omega arith) c.loop-at.invariant
