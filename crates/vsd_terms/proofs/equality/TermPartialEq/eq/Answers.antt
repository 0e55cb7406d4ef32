use Rattle.std.specs.Bool.{one_answer}
use Rattle.vsd_terms.specs.Equality.{term_eq, term_eq-Decides}
use Rattle.vsd_terms.proofs.equality.TermPartialEq.eq.Goals as goal

pub returns-clause-test : goal.returns-clause-test
returns-clause-test c =
    let a = c.args.self.now in
    let b = c.args.other.now in
    one_answer c.same.result (term_eq a b) c.same.ensures (term_eq-Decides a b)
