use Rattle.std.proofs.Common.{Some, sym, ap, ◌∙◌, arith}
use Rattle.std.proofs.lemmas.List.{take_rest}
use Rattle.vsd_outside.proofs.Giving.{give_front_of}
use Rattle.vsd_outside.proofs.memory_sources.MemorySourceSource.read.Goals as goal

pub returns-clause-bytes : goal.returns-clause-bytes
returns-clause-bytes c =
    ap Some (ap (λ s. s.left) (sym c.self.view_is) ∙ give_front_of _ _ _ _ _ (omega arith) (rw (take_rest, c.deref-2.ensures.value) at c.copy_front-n.ensures.front))
