use Rattle.std.proofs.Common.{◌≡◌, ℕ, ◌+◌, ◌<◌, length, ap, subst, arith}
use Rattle.vsd_check.specs.Checked.{depths_of}
use Rattle.vsd_layers.specs.Layers.{IsNextAt, or_end}
use Rattle.vsd_layers.proofs.LayerLemmas.{in_layer}
use Rattle.vsd_interfaces.specs.Tables.{AreRowsTo}
use Rattle.vsd_interfaces.proofs.RowLaws.{rows-fill, rows-next, rows-skip}
use Rattle.vsd_interfaces.proofs.tables.fill_rank.Goals as goal

pub loop-next-init : goal.loop-next-init
loop-next-init c =
    let ranks = c.args.ranks.now in
    let next = c.first-next.result in
    let are : IsNextAt ranks c.args.rank 0 next = c.first-next.ensures ranks c.requires.layers in
    record {
      comes = (0, are);
      filled = rows-skip c.args.closed.now (depths_of c.args.checked.now) ranks c.requires.ranks.count c.args.rank 0 next c.args.table.now.reached c.args.table.now.maps are c.requires.before;
    }

pub fill-requires-clause-within : goal.fill-requires-clause-within
fill-requires-clause-within c =
    let was = c.loop-next.invariant in
    let here = in_layer c.args.ranks.now c.args.rank was.comes.0 c.in-Some.t c.loop-next.next c.in-Some.is was.comes.1 in
    omega (arith, here.0, c.requires.ranks.count)

pub loop-next-preserved : goal.loop-next-preserved
loop-next-preserved c =
    let closed = c.args.closed.now in
    let depths = depths_of c.args.checked.now in
    let ranks = c.args.ranks.now in
    let rank = c.args.rank in
    let t = c.in-Some.t in
    let next = c.after-next.result in
    let was = c.loop-next.invariant in
    let old = c.loop-next.table in
    let new = c.fill.new.table in
    let reach : or_end c.loop-next.next ≡ t = ap or_end c.in-Some.is in
    let here = in_layer ranks rank was.comes.0 t c.loop-next.next c.in-Some.is was.comes.1 in
    let inside : t < length closed.types = omega (arith, here.0, c.requires.ranks.count) in
    let follows : IsNextAt ranks rank (t + 1) next = subst (λ (r : ℕ). IsNextAt ranks r (t + 1) next) here.1 (c.after-next.ensures ranks c.requires.layers here.0) in
    let before = subst (λ (n : ℕ). AreRowsTo closed depths ranks rank n old.reached old.maps) reach was.filled in
    let put = rows-fill closed depths c.requires.distinct c.requires.hierarchy ranks c.requires.ranks rank t old.reached old.maps new.reached new.maps here.1 inside before c.in_ok-fill.ensures in
    record {
      comes = (t + 1, follows);
      filled = rows-skip closed depths ranks c.requires.ranks.count rank (t + 1) next new.reached new.maps follows put;
    }

pub returns : goal.returns
returns c =
    let closed = c.args.closed.now in
    let depths = depths_of c.args.checked.now in
    let ranks = c.args.ranks.now in
    let table = c.loop-next.table in
    let last = subst (λ (n : ℕ). AreRowsTo closed depths ranks c.args.rank n table.reached table.maps) (ap or_end c.in_default.is) c.loop-next.invariant.filled in
    rows-next closed depths ranks c.args.rank 1024 table.reached table.maps c.requires.few last
