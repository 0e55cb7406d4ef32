-- Marked are those that were, and those of the ways before this place that the arguments meet.
use Rattle.std.proofs.Common.{ℕ, ◌↔◌, ◌⊎◌, map}
use Rattle.vsd_lift.specs.Chain.{envs_of}
use Rattle.vsd_lift.specs.Lift.{lift}
use Rattle.vsd_ways.specs.Found.{SomeBefore}
use Rattle.vsd_ways.specs.Known.{IsMarked, Serves}
use Rattle.vsd_ways.proofs.having.mark_met.Given as goal

abbrev pub invariant-loop-i : goal.invariant-loop-i
invariant-loop-i l = (o : ℕ) → IsMarked l.found o ↔ (IsMarked l.fn.found o ⊎ SomeBefore (Serves o (map (lift (envs_of l.decls l.chain) l.level) l.args)) l.i l.ways)
