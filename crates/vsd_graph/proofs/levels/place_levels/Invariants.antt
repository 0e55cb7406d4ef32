-- The places so far have levels, and none is on the way.
use Rattle.std.proofs.Common.{◌≡◌, ℕ, ◌<◌}
use Rattle.vsd_graph.specs.declared.levels.Mark.TheVariants.{Open}
use Rattle.vsd_graph.specs.Marks.{AreSound, HasLevel, mark_at}
use Rattle.vsd_graph.proofs.levels.place_levels.Given as goal

abbrev pub invariant-loop-at : goal.invariant-loop-at
invariant-loop-at l = record {
  sound : AreSound l.graph l.marks.items;
  none_open : (i : ℕ) → ¬ (mark_at l.marks.items i ≡ Open);
  done : (i : ℕ) → i < l.at → HasLevel l.marks.items i;
}
