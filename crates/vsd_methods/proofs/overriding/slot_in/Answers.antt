use Rattle.std.proofs.Common.{◌∙◌, Some, sym, arith}
use Rattle.vsd_methods.specs.Methods.{is_meant}
use Rattle.vsd_methods.proofs.SearchLaws.{position-found, position-further, position-none}
use Rattle.vsd_methods.proofs.overriding.slot_in.Goals as goal

pub loop-i-preserved : goal.loop-i-preserved
loop-i-preserved c =
    c.loop-i.invariant ∙ position-further c.args.methods.now c.loop-i.i c.index-methods-i.result c.loop-i-test.true c.index-methods-i.is (is_meant c.args.o.now c.args.owner_args.now (Some c.args.given.now)) (sym c.is_meant.ensures ∙ c.if-is_meant.false)

pub returns-then-is_meant : goal.returns-then-is_meant
returns-then-is_meant c =
    sym (c.loop-i.invariant ∙ position-found c.args.methods.now c.loop-i.i c.index-methods-i.result c.loop-i-test.true c.index-methods-i.is (is_meant c.args.o.now c.args.owner_args.now (Some c.args.given.now)) (sym c.is_meant.ensures ∙ c.if-is_meant.true))

pub returns : goal.returns
returns c = sym (c.loop-i.invariant ∙ position-none (is_meant c.args.o.now c.args.owner_args.now (Some c.args.given.now)) c.args.methods.now c.loop-i.i (omega arith))
