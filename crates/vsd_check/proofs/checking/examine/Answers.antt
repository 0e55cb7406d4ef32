use Rattle.vsd_check.proofs.SettledLaws.{lawful_by_passes}
use Rattle.vsd_check.proofs.TableLemmas.{IsSettled-tables}
use Rattle.vsd_check.proofs.checking.examine.Goals as goal

pub methods_of-requires-clause-settled : goal.methods_of-requires-clause-settled
methods_of-requires-clause-settled c =
    IsSettled-tables c.args.decls.now c.requires c.as_slice-list.result.now c.deref-2.result.now c.deref-3.result.now c.in_ok-places.places.items c.in_ok-depths.depths.items
    c.as_slice-list.ensures c.deref-2.ensures.value c.deref-3.ensures.value c.in_ok-places.ensures.count c.in_ok-places.ensures.index c.in_ok-depths.ensures.hierarchy

pub returns-clause-lawful : goal.returns-clause-lawful
returns-clause-lawful c = lawful_by_passes c.args.decls.now c.in_ok-depths.ensures.first c.in_ok-depths.ensures.second c.in_ok-methods.ensures.third
