use Rattle.vsd_slots.proofs.FillLaws.{fills-set}
use Rattle.vsd_slots.proofs.NumberLaws.{right-kept}
use Rattle.vsd_slots.proofs.filling.make.Goals as goal

pub returns-clause-fills : goal.returns-clause-fills
returns-clause-fills c =
    let s = c.args.closed.now in
    let maps = c.args.parts.now.table.maps in
    let old = c.args.rows.now in
    let columns = c.row.new.columns in
    let right = right-kept old.columns columns c.in_ok-made.ensures.keeps s maps old.numbers c.requires.right in
    fills-set s maps columns c.args.t old.numbers c.set.new.self c.in_ok-made.made right c.requires.class c.in_ok-made.ensures.row c.set.ensures
