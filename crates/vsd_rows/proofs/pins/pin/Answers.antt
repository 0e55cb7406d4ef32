use Rattle.std.proofs.Common.{ℕ}
use Rattle.vsd_rule.specs.declared.step.Act.TheVariants.{Pin}
use Rattle.vsd_trails.specs.RowTrails.{making, pinning}
use Rattle.vsd_rows.proofs.Makes.{reads, joined}
use Rattle.vsd_rows.proofs.StepsMade.{epoch_made, pin_made}
use Rattle.vsd_rows.proofs.pins.pin.Goals as goal

pub returns-clause-trail : goal.returns-clause-trail
unfolding pinning
returns-clause-trail c =
    joined (λ (epoch : ℕ). making (Pin epoch)) (reads (λ (word : ℕ). word) (epoch_made _ _ _ _ c.epoch-epoch.ensures.step))
    (reads (λ (word : ℕ). tt) (pin_made _ _ _ c.pin.ensures.step))
