use Rattle.std.proofs.Common.{Bool, subst}
use Rattle.vsd_slots.specs.Entries.{IsHaving}
use Rattle.vsd_slots.proofs.ColumnLaws.{stepped-column, unchanged-steps}
use Rattle.vsd_slots.proofs.changing.change.Goals as goal

pub returns-then-is_bare : goal.returns-then-is_bare
returns-then-is_bare c =
    let s = c.args.closed.now in
    let t = c.args.t in
    let i = c.args.i in
    let above = c.args.column.now in
    let having = subst (λ (has : Bool). IsHaving s t i has) c.if-not-has.true c.has_itself-has.ensures in
    stepped-column s t i above above c.requires.above (unchanged-steps s t i above c.requires.interface c.requires.above (c.is_bare.ensures c.if-is_bare.true) having)
