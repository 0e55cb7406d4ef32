use Rattle.vsd_compat.proofs.Orderly.{orderly}
use Rattle.vsd_compat.proofs.Transitivity.{transitive}
use Rattle.vsd_compat.proofs.laws.compatibility_is_transitive.Goals as goal

pub returns : goal.returns
returns c d lawful t u w closed_t closed_u closed_w first second =
    transitive d.list (orderly d lawful) t u w closed_t.lawful closed_u.lawful closed_w.lawful first second
