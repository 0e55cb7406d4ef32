use Rattle.std.proofs.Common.{rules}
use Rattle.vsd_grammar.specs.Grammar.{run}
use Rattle.vsd_grammar.specs.Input.{same_class}
use Rattle.vsd_lanes.specs.Productions.{closing, one_more, op, more}
use Rattle.vsd_lanes.proofs.repeats.more.Goals as goal

pub returns : goal.returns
unfolding more
returns g c = λ e room h.
    c.until.ensures (λ q b. same_class closing q) (λ b. run _ (one_more (op e room) b)) (λ x s y p. p.1) (λ old b r new p. search rules)
