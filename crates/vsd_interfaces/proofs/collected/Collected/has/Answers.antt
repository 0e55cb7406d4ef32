use Rattle.std.proofs.Common.{sym}
use Rattle.vsd_interfaces.proofs.NumberLaws.{stands-any}
use Rattle.vsd_interfaces.proofs.collected.Collected.has.Goals as goal

pub returns-in-Some : goal.returns-in-Some
returns-in-Some c = sym (stands-any _ _ _ c.in-Some.ensures)

pub returns-in-None : goal.returns-in-None
returns-in-None c = sym c.in-None.ensures
