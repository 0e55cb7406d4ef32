-- Each call looks at fewer places that aren't seen. The targets so far have levels, of which the greatest is kept.
use Rattle.std.proofs.Common.{◌≡◌, ℕ, ◌+◌, ◌*◌, map, take, slice_set, Contains}
use Rattle.vsd_terms.specs.Size.{greatest}
use Rattle.vsd_graph.specs.Marks.{AreSound, Extends, HasLevel, level_at, mark_at, unseen}
use Rattle.vsd_graph.specs.declared.levels.Mark.TheVariants.{Open}
use Rattle.vsd_graph.proofs.levels.+settle.Given as goal

abbrev pub decreases-settle : goal.decreases-settle
decreases-settle l = 2 * unseen l.marks.now.items + 1

abbrev pub decreases-visit : goal.decreases-visit
decreases-visit l = 2 * unseen l.marks.now.items

abbrev pub invariant-visit-loop-next : goal.invariant-visit-loop-next
invariant-visit-loop-next l = record {
  open_here : mark_at l.marks.items l.at ≡ Open;
  sound : AreSound l.graph l.marks.items;
  extends : Extends (slice_set l.fn.marks.items l.at Open) l.marks.items;
  done : (j : ℕ) → Contains (take l.next-index l.next-items) j → HasLevel l.marks.items j;
  most : l.most ≡ greatest (map (level_at l.marks.items) (take l.next-index l.next-items));
}
