use Rattle.vsd_slots.proofs.DecidingLaws.{base-decides, declared-above, name-next, override-wins}
use Rattle.vsd_slots.proofs.SlotLaws.{implementation-unique}
use Rattle.vsd_interfaces.proofs.UniqueLaws.{lineage-unique}
use Rattle.vsd_slots.proofs.laws.implementation_law.Goals as goal

pub returns-clause-overriding : goal.returns-clause-overriding
returns-clause-overriding c = override-wins

pub returns-clause-by_name : goal.returns-clause-by_name
returns-clause-by_name c = name-next

pub returns-clause-by_base : goal.returns-clause-by_base
returns-clause-by_base c = base-decides

pub returns-clause-declared_above : goal.returns-clause-declared_above
returns-clause-declared_above c = declared-above

pub returns-clause-lineage : goal.returns-clause-lineage
returns-clause-lineage c = lineage-unique

pub returns-clause-unique : goal.returns-clause-unique
returns-clause-unique c = implementation-unique
