use Rattle.std.proofs.Common.{◌≡◌, [], map, take}
use Rattle.vsd_ast.specs.declared.scripts.Lane.{Lane}
use Rattle.vsd_answers.specs.Answers.{answers_after, world}
use Rattle.vsd_answers.proofs.answering.answer_lanes.Given as goal

abbrev pub invariant-loop-lane : goal.invariant-loop-lane
invariant-loop-lane g l =
    map (λ lane. lane.items) l.answers.items
    ≡ map (λ (lane : Lane). answers_after l.hosts l.types (world (g.R.Resolver.types l.resolver) (g.R.Resolver.tokens l.resolver) (g.R.Resolver.sel l.resolver) (g.R.Resolver.cmp l.resolver)) l.tokens [] lane.ops) (take l.lane-index l.lane-items)
