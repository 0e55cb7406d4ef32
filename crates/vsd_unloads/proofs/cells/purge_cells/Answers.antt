use Rattle.std.proofs.Common.{◌≡◌, ◌+◌, ◌<◌, ℕ, zero, suc, sym, subst, arith}
use Rattle.vsd_rule.specs.declared.sizes.Sizes.{Sizes}
use Rattle.vsd_table.specs.Seating.{view_of, key_of}
use Rattle.vsd_rows.proofs.Leaving.{goes_on}
use Rattle.vsd_unloads.proofs.PartsMade.{cells_on, cells_end}
use Rattle.vsd_unloads.proofs.cells.purge_cells.Goals as goal

pub purge_cell-requires-clause-site : goal.purge_cell-requires-clause-site
purge_cell-requires-clause-site c = subst (λ (s : Sizes). c.loop-site.site < s.sites) c.sizes-site-end.ensures.known c.loop-site-test.true

pub purge_cell-requires-clause-pinned : goal.purge_cell-requires-clause-pinned
purge_cell-requires-clause-pinned c = subst (λ (n : ℕ). 0 < n) (sym c.loop-site.invariant.goes.pinned) c.requires.pinned

pub loop-site-preserved : goal.loop-site-preserved
loop-site-preserved c =
    let site = c.loop-site.site in
    let inv = c.loop-site.invariant in
    record {
      seat = c.purge_cell.ensures.seat;
      leads = λ rest sum new a makes. inv.leads (suc rest) (omega arith) new a (cells_on c.args.h rest site _ _ new a c.purge_cell.ensures.trail makes);
      goes = goes_on (view_of c.args.hand.now.seated) (view_of c.loop-site.hand.seated) (view_of c.purge_cell.new.hand.seated) inv.goes c.purge_cell.ensures.goes;
    }

pub returns-clause-trail : goal.returns-clause-trail
returns-clause-trail c =
    let k = key_of c.args.table.now in
    let site = c.loop-site.site in
    let all : c.sizes-site-end.result ≡ k.sizes = c.sizes-site-end.ensures.known in
    let end : site ≡ k.sizes.sites = subst (λ (s : Sizes). site ≡ s.sites) all (omega arith) in
    let sum : site + zero ≡ k.sizes.sites = omega arith in
    c.loop-site.invariant.leads zero sum _ _ (cells_end c.args.h site _)
