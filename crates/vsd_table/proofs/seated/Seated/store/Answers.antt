use Rattle.std.proofs.Common.{subst}
use Rattle.vsd_rule.specs.declared.key.Key.{Key}
use Rattle.vsd_table.specs.StepKind.{Learns}
use Rattle.vsd_table.specs.Seating.{view_of}
use Rattle.vsd_table.proofs.seated.Seated.store.Goals as goal

-- the seat knows the table's sizes
pub returns-clause-learns : goal.returns-clause-learns
returns-clause-learns g c = subst (λ (k : Key). Learns g.K.StepKind.kind k.sizes c.args.index c.args.word 0 (view_of c.args.self.now) c.args.word c.store.new.seat.me.0) c.requires.seat.key c.store.ensures.2.3
