use Rattle.std.proofs.Common.{◌∙◌, sym, arith}
use Rattle.vsd_methods.specs.Methods.{offers_at}
use Rattle.vsd_methods.proofs.SearchLaws.{position-found, position-further, position-none}
use Rattle.vsd_methods.proofs.offering.offered_from.Goals as goal

pub loop-i-preserved : goal.loop-i-preserved
loop-i-preserved c =
    c.loop-i.invariant ∙ position-further c.args.methods.now c.loop-i.i c.index-methods-i.result c.loop-i-test.true c.index-methods-i.is (offers_at c.args.interface_args.now c.args.m.now c.args.args.now) (sym c.offers.ensures ∙ c.if-offers.false)

pub returns-then-offers : goal.returns-then-offers
returns-then-offers c =
    sym (c.loop-i.invariant ∙ position-found c.args.methods.now c.loop-i.i c.index-methods-i.result c.loop-i-test.true c.index-methods-i.is (offers_at c.args.interface_args.now c.args.m.now c.args.args.now) (sym c.offers.ensures ∙ c.if-offers.true))

pub returns : goal.returns
returns c = sym (c.loop-i.invariant ∙ position-none (offers_at c.args.interface_args.now c.args.m.now c.args.args.now) c.args.methods.now c.loop-i.i (omega arith))
