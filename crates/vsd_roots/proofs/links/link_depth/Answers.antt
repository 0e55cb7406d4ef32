use Rattle.std.proofs.Common.{◌≡◌, ℕ, ◌+◌, ◌*◌, ◌≤◌, sym, ap, subst, arith}
use Rattle.std.specs.HashMap.{get}
use Rattle.vsd_layers.specs.Layers.{IsNextAt, or_end}
use Rattle.vsd_layers.proofs.LayerLemmas.{in_layer, no_lower}
use Rattle.vsd_roots.specs.Order.{rank, same_name, AreLatest, IsLink, TabulatesBelow}
use Rattle.vsd_roots.proofs.LayerLemmas.{below-layer, layer_gap}
use Rattle.vsd_roots.proofs.LinkLemmas.{latest-skip_ranks}
use Rattle.vsd_roots.proofs.TableLemmas.{below-skip}
use Rattle.vsd_roots.proofs.links.link_depth.Goals as goal

pub loop-next-init : goal.loop-next-init
loop-next-init c =
    let h = c.args.h.now in
    let ds = h.decls.now in
    let depths = h.depths.now in
    let depth = c.args.depth in
    let few = c.requires.settled.few in
    let long = c.requires.settled.hierarchy.deep.count in
    let next = c.first-next.result in
    let are : IsNextAt depths depth 0 next = c.first-next.ensures depths c.requires.layers in
    let gap = layer_gap ds depths depth 0 next few long are in
    record {
      comes = (0, are);
      latest = latest-skip_ranks ds h.places.now depths c.requires.settled (get same_name c.args.latest.now) (1024 * depth + 0) (1024 * depth + or_end next) (omega arith) gap (subst (λ (n : ℕ). AreLatest ds depths n (get same_name c.args.latest.now)) (omega arith) c.requires.before);
      filled = below-skip ds depths (IsLink ds depths) c.args.rows.now (1024 * depth + 0) (1024 * depth + or_end next) gap (subst (λ (n : ℕ). TabulatesBelow ds depths n (IsLink ds depths) c.args.rows.now) (omega arith) c.requires.filled);
    }

pub loop-next-preserved : goal.loop-next-preserved
loop-next-preserved c =
    let h = c.args.h.now in
    let ds = h.decls.now in
    let depths = h.depths.now in
    let depth = c.args.depth in
    let few = c.requires.settled.few in
    let long = c.requires.settled.hierarchy.deep.count in
    let at = c.in-Some.at in
    let next = c.after-next.result in
    let was = c.loop-next.invariant in
    let reach : or_end c.loop-next.next ≡ at = ap or_end c.in-Some.is in
    let here = in_layer depths depth was.comes.0 at c.loop-next.next c.in-Some.is was.comes.1 in
    let follows : IsNextAt depths depth (at + 1) next = subst (λ (d : ℕ). IsNextAt depths d (at + 1) next) here.1 (c.after-next.ensures depths c.requires.layers here.0) in
    let before = subst (λ (n : ℕ). TabulatesBelow ds depths (1024 * depth + n) (IsLink ds depths) c.loop-next.rows) reach was.filled in
    let ranked : rank depths at ≡ 1024 * depth + at = omega (arith, here.1) in
    let further : at + 1 ≤ or_end next = no_lower depths depth (at + 1) next (omega (arith, here.0)) follows in
    let put : AreLatest ds depths ((1024 * depth + (at + 1)) * 256) (get same_name c.link_row.new.latest) = subst (λ (n : ℕ). AreLatest ds depths n (get same_name c.link_row.new.latest)) (let next_rank : (rank depths at + 1) * 256 ≡ (1024 * depth + (at + 1)) * 256 = omega arith in next_rank) c.in_ok-row.ensures.after in
    record {
      comes = (at + 1, follows);
      latest = latest-skip_ranks ds h.places.now depths c.requires.settled (get same_name c.link_row.new.latest) (1024 * depth + (at + 1)) (1024 * depth + or_end next) (omega arith) (layer_gap ds depths depth (at + 1) next few long follows) put;
      filled = subst (λ l. TabulatesBelow ds depths (1024 * depth + or_end next) (IsLink ds depths) l) (sym c.set.ensures) (below-layer ds depths (IsLink ds depths) c.loop-next.rows depth at next c.in_ok-row.row few long here follows c.in_ok-row.ensures.row before);
    }
