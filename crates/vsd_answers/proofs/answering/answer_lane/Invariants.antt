use Rattle.std.proofs.Common.{◌≡◌, [], ◌++◌, length, take, drop}
use Rattle.vsd_answers.specs.Answers.{answers_after, world}
use Rattle.vsd_answers.proofs.Lanes.{AreKept}
use Rattle.vsd_answers.proofs.answering.answer_lane.Given as goal

abbrev pub invariant-loop-op : goal.invariant-loop-op
invariant-loop-op g l = record {
  kept : AreKept (length l.tokens) (length l.hosts) l.types (take l.op-index l.op-items) (drop l.op-index l.op-items) l.held (length l.lane.names);
  answers : l.answers.items ++ answers_after l.hosts l.types (world (g.R.Resolver.types l.resolver) (g.R.Resolver.tokens l.resolver) (g.R.Resolver.sel l.resolver) (g.R.Resolver.cmp l.resolver)) l.tokens (take l.op-index l.op-items) (drop l.op-index l.op-items)
      ≡ answers_after l.hosts l.types (world (g.R.Resolver.types l.resolver) (g.R.Resolver.tokens l.resolver) (g.R.Resolver.sel l.resolver) (g.R.Resolver.cmp l.resolver)) l.tokens [] l.op-items;
}
