use Rattle.std.proofs.Common.{sym, subst}
use Rattle.vsd_table.specs.Seating.{IsNew}
use Rattle.vsd_core.proofs.NewCallers.{new_caller}
use Rattle.vsd_core.proofs.caller.Caller.new.Goals as goal

pub returns-clause-caller : goal.returns-clause-caller
returns-clause-caller c = new_caller c.args.table.now _ (subst (IsNew c.args.table.now) (sym c.new-hand.ensures.seat) c.requires)
