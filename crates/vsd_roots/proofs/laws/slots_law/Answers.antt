use Rattle.vsd_roots.proofs.BodyLaws.{body_only}
use Rattle.vsd_roots.proofs.RootLaws.{one_root, root_only}
use Rattle.vsd_roots.proofs.laws.slots_law.Goals as goal

pub returns-clause-one_root : goal.returns-clause-one_root
returns-clause-one_root c ds p r s a b = root_only ds p r s a b

pub returns-clause-shared_root : goal.returns-clause-shared_root
returns-clause-shared_root c ds p q r s a b = one_root ds p q r s a b

pub returns-clause-one_body : goal.returns-clause-one_body
returns-clause-one_body c ds chain root k l p q a b = body_only ds chain root k l p q a b
