use Rattle.std.proofs.Common.{Some, sym, ap, ◌∙◌}
use Rattle.std.proofs.lemmas.List.{take_rest}
use Rattle.vsd_outside.proofs.Giving.{give_front}
use Rattle.vsd_outside.proofs.memory_sources.SureSourceSource.read.Goals as goal

pub returns-clause-bytes : goal.returns-clause-bytes
returns-clause-bytes c =
    ap Some (sym c.self.view_is ∙ give_front _ _ _ _ (rw (take_rest, c.deref.ensures.value) at c.copy_front-n.ensures.front))
