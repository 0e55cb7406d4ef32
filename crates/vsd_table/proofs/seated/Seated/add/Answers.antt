use Rattle.std.proofs.Common.{subst}
use Rattle.vsd_rule.specs.declared.key.Key.{Key}
use Rattle.vsd_table.specs.StepKind.{Learns}
use Rattle.vsd_table.specs.Seating.{view_of}
use Rattle.vsd_table.proofs.seated.Seated.add.Goals as goal

-- the seat knows the table's sizes
pub returns-clause-learns : goal.returns-clause-learns
returns-clause-learns g c = subst (λ (k : Key). Learns g.K.StepKind.kind k.sizes c.args.index c.args.more 0 (view_of c.args.self.now) c.fetch_add.result c.fetch_add.new.seat.me.0) c.requires.seat.key c.fetch_add.ensures.2.3
