use Rattle.vsd_lawful.specs.Tests.{is_unknown, is_miscounted}
use Rattle.vsd_lawful.specs.Types.{long_form_terms, implementer_terms}
use Rattle.vsd_lawful.proofs.TypeLemmas.{any_named_append}
use Rattle.vsd_lawful.proofs.faults.of_override.Goals as goal

pub returns-clause-unknown : goal.returns-clause-unknown
returns-clause-unknown c =
    let both = any_named_append (is_unknown c.args.scope.now.list.now) (long_form_terms c.args.o.now.signature) (implementer_terms c.args.o.now.body) in
    cc

pub returns-clause-arity : goal.returns-clause-arity
returns-clause-arity c =
    let both = any_named_append (is_miscounted c.args.scope.now.list.now) (long_form_terms c.args.o.now.signature) (implementer_terms c.args.o.now.body) in
    cc
