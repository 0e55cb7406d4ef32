use Rattle.std.proofs.Common.{refl, ◌∙◌}
use Rattle.vsd_methods.specs.Givens.{answer_of}
use Rattle.vsd_slots.proofs.MarkLaws.{given-end, given-passed}
use Rattle.vsd_slots.proofs.marking.is_given.Goals as goal

pub loop-k-preserved : goal.loop-k-preserved
loop-k-preserved c = λ m.
    c.loop-k.invariant m ∙ given-passed (λ g. answer_of g c.args.i m) c.args.given.now c.loop-k.k _ c.loop-k-test.true refl (c.is_for.ensures c.if-is_for.false m)

pub returns : goal.returns
returns c = λ no m. c.loop-k.invariant m ∙ given-end (λ g. answer_of g c.args.i m) c.args.given.now c.loop-k.k c.loop-k-test.false
