use Rattle.std.proofs.Common.{arith}
use Rattle.vsd_roots.specs.Slots.{IsOverridden}
use Rattle.vsd_roots.proofs.TableLemmas.{first-end, first-push}
use Rattle.vsd_roots.proofs.overriding.overridden.Goals as goal

pub loop-at-preserved : goal.loop-at-preserved
loop-at-preserved c =
    let ds = c.args.h.now.decls.now in
    first-push ds (IsOverridden ds) c.loop-at.at c.loop-at.rows c.push.new.self c.in_ok-row.row c.in_ok-push.ensures.ok c.in_ok-row.ensures c.loop-at.invariant

pub returns : goal.returns
returns c =
    let ds = c.args.h.now.decls.now in
    first-end ds (IsOverridden ds) c.loop-at.at c.loop-at.rows (omega arith) c.loop-at.invariant
