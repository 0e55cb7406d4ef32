use Rattle.std.proofs.Common.{◌≡◌, List, length, get_or, refl, sym, subst, All, arith, rules, false}
use Rattle.std.proofs.lemmas.Option.{slice_get-get_or, slice_get_read}
use Rattle.vsd_ast.specs.declared.declarations.Located.{Located}
use Rattle.vsd_ways.specs.Known.{owners_in, Way}
use Rattle.vsd_ways.specs.Ways.{IsReady}
use Rattle.vsd_ways.proofs.TableLemmas.{ways_skip, ways_put, ways_ready, ways_whole}
use Rattle.vsd_ways.proofs.requiring.all_ways.Goals as goal

pub loop-i-preserved-then-not-h-at : goal.loop-i-preserved-then-not-h-at
loop-i-preserved-then-not-h-at c =
    let ds = c.args.h.now.decls.now in
    let order = c.args.order.now in
    let n = get_or order c.loop-i.i 0 in
    let at = slice_get-get_or order c.loop-i.i 0 c.loop-i-test.true in
    let here = slice_get_read ds (length ds) n c.index-h-at.result refl (c.requires.order.within c.loop-i.i n at) c.index-h-at.is in
    let class : c.index-h-at.result.is_interface ≡ false = search rules in
    ways_skip ds (owners_in c.args.owners.now) order c.loop-i.i n c.index-h-at.result c.loop-i.table at here class c.loop-i.invariant

pub ways_of-requires-clause-within : goal.ways_of-requires-clause-within
ways_of-requires-clause-within c =
    let order = c.args.order.now in
    c.requires.order.within c.loop-i.i (get_or order c.loop-i.i 0) (slice_get-get_or order c.loop-i.i 0 c.loop-i-test.true)

pub set-requires : goal.set-requires
set-requires c =
    let order = c.args.order.now in
    let within = c.requires.order.within c.loop-i.i (get_or order c.loop-i.i 0) (slice_get-get_or order c.loop-i.i 0 c.loop-i-test.true) in
    omega (arith, within, c.loop-i.invariant.count)

pub loop-i-preserved : goal.loop-i-preserved
loop-i-preserved c =
    let h = c.args.h.now in
    let ds = h.decls.now in
    let order = c.args.order.now in
    let owners = owners_in c.args.owners.now in
    let n = get_or order c.loop-i.i 0 in
    let x = c.index-h-at.result in
    let at = slice_get-get_or order c.loop-i.i 0 c.loop-i-test.true in
    let here = slice_get_read ds (length ds) n x refl (c.requires.order.within c.loop-i.i n at) c.index-h-at.is in
    let ready = ways_ready ds owners order h.places.now h.depths.now c.requires.settled c.requires.order c.loop-i.i n x c.loop-i.table at here c.loop-i.invariant in
    let ready_here = subst (λ (table : List (List Way)). All (λ (t : Located). IsReady ds owners table t.term) x.interfaces) (sym c.as_slice.ensures) ready in
    ways_put ds owners order c.loop-i.i n x c.loop-i.table c.set.new.self c.in_ok-ways.ways at here (c.in_ok-ways.ensures x here ready_here) c.set.ensures c.loop-i.invariant

pub returns : goal.returns
returns c =
    let h = c.args.h.now in
    ways_whole h.decls.now (owners_in c.args.owners.now) c.args.order.now h.places.now h.depths.now c.requires.settled c.requires.order c.loop-i.i c.loop-i.table (omega arith) c.loop-i.invariant
