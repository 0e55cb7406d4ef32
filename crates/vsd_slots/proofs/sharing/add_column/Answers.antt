use Rattle.std.proofs.Common.{Some}
use Rattle.vsd_types.specs.Types.{type_at}
use Rattle.vsd_slots.specs.Columns.{IsColumn}
use Rattle.vsd_slots.proofs.NumberLaws.{keeps-more, number-gained}
use Rattle.vsd_slots.proofs.sharing.add_column.Goals as goal

pub returns-clause-number : goal.returns-clause-number
returns-clause-number c =
    let s = c.args.closed.now in
    let P = IsColumn s (Some (type_at s.types c.args.t)) c.args.i in
    number-gained P c.args.columns.now c.column.new.found c.count-number.result c.in_ok-column.ensures c.count-number.ensures

pub returns-clause-keeps : goal.returns-clause-keeps
returns-clause-keeps c = keeps-more c.args.columns.now c.column.new.found c.in_ok-column.ensures.list c.in_ok-column.ensures.is
