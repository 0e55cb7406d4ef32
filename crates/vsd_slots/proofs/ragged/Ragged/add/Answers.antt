use Rattle.std.proofs.Common.{List, [], ap, ◌∙◌}
use Rattle.vsd_slots.specs.Ragged.{with_more}
use Rattle.vsd_slots.specs.declared.entries.Entry.{Entry}
use Rattle.vsd_slots.proofs.RaggedLaws.{more-last}
use Rattle.vsd_slots.proofs.ragged.Ragged.add.Goals as goal

pub returns-clause-list : goal.returns-clause-list
returns-clause-list c =
    let list = c.args.list.now in
    c.in_ok-extend.ensures ∙ ap (λ (ls : List (List Entry)). with_more ls list) c.in_ok-begin.ensures ∙ more-last c.args.self.now [] list
