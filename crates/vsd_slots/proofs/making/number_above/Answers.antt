use Rattle.std.proofs.Common.{ℕ, List, subst}
use Rattle.vsd_slots.specs.Rows.{IsMade}
use Rattle.vsd_slots.proofs.FillLaws.{made-number}
use Rattle.vsd_slots.proofs.NumberLaws.{keeps-same}
use Rattle.vsd_slots.proofs.making.number_above.Goals as goal

pub returns-in-Some-clause-number : goal.returns-in-Some-clause-number
returns-in-Some-clause-number c =
    let s = c.args.closed.now in
    let maps = c.args.parts.now.table.maps in
    let rows = c.args.rows.now in
    let made : IsMade maps rows c.args.base c.args.i c.in-Some.number = subst (λ (l : List (List ℕ)). IsMade l rows c.args.base c.args.i c.in-Some.number) c.as_slice.ensures c.in-Some.ensures in
    made-number s maps c.args.columns.now rows c.args.base c.args.i c.in-Some.number c.requires.right c.requires.within made

pub returns-in-Some-clause-keeps : goal.returns-in-Some-clause-keeps
returns-in-Some-clause-keeps c = keeps-same c.args.columns.now
