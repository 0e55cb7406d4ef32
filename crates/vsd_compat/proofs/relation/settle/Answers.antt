use Rattle.vsd_compat.proofs.relation.settle.Goals as goal

pub returns-clause-sound : goal.returns-clause-sound
returns-clause-sound c = λ sound. c.relate_all-by_variance.ensures.sound (c.absorb_interfaces-by_interfaces.ensures.sound (c.absorb_base-by_base.ensures.sound sound))
