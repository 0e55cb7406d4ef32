use Rattle.std.proofs.lemmas.List.Sorted.{All-permutation}
use Rattle.vsd_overrides.specs.Known.{IsNumbered}
use Rattle.vsd_overrides.proofs.NumberedLemmas.{has-sorted}
use Rattle.vsd_overrides.proofs.numbered.by_owners.Goals as goal

pub returns-clause-numbers : goal.returns-clause-numbers
returns-clause-numbers c count within =
    All-permutation (IsNumbered count c.number_all.new.owners.keys) c.in_ok-all.all.items c.sort_by_key.new.self.items
    c.sort_by_key.ensures.permutation (c.in_ok-all.ensures.numbers count within)

pub returns-clause-each : goal.returns-clause-each
returns-clause-each c q holds =
    has-sorted c.in_ok-all.all.items c.sort_by_key.new.self.items q c.sort_by_key.ensures.permutation
    (c.in_ok-all.ensures.each q holds)
