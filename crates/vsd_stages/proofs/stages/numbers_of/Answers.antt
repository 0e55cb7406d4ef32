use Rattle.std.proofs.Common.{Contains, sym, subst}
use Rattle.vsd_stages.proofs.stages.numbers_of.Goals as goal

pub number_of-requires : goal.number_of-requires
number_of-requires c =
    subst (Contains c.args.closed.now.types) (sym c.term-item.is) (c.requires c.loop-term.term-index c.term-item.result c.loop-term-test.true)
