-- Each call looks at fewer places that aren't seen. The targets so far are seen.
use Rattle.std.proofs.Common.{◌≡◌, ℕ, ◌+◌, ◌*◌, suc, true, take, Contains}
use Rattle.vsd_graph.specs.Graph.{Walk}
use Rattle.vsd_graph.specs.Seen.{Marks, is_seen, unseen_count}
use Rattle.vsd_graph.proofs.reaching.+see.Given as goal

abbrev pub decreases-see : goal.decreases-see
decreases-see l = 2 * unseen_count l.seen.now.items

abbrev pub decreases-follow : goal.decreases-follow
decreases-follow l = 2 * unseen_count l.seen.now.items + 1

abbrev pub invariant-follow-loop-next : goal.invariant-follow-loop-next
invariant-follow-loop-next l = record {
  marks : Marks l.graph l.fn.seen.items l.seen.items (λ i. (k : ℕ) × Walk l.graph (suc k) l.at i);
  so_far : (j : ℕ) → Contains (take l.next-index l.next-items) j → is_seen l.seen.items j ≡ true;
}
