-- The term that stands now lifts to what the first one lifts to.
use Rattle.std.proofs.Common.{◌≡◌, ◌≤◌, length}
use Rattle.vsd_lift.specs.Chain.{envs_of}
use Rattle.vsd_lift.specs.Lift.{lift, Fits}
use Rattle.vsd_lift.proofs.standing.resolve.Given as goal

abbrev pub invariant-loop-at : goal.invariant-loop-at
invariant-loop-at l = record {
  same : lift (envs_of l.decls l.chain) l.at l.standing ≡ lift (envs_of l.decls l.chain) l.level l.term;
  within : l.at ≤ length l.chain;
  fits : Fits (envs_of l.decls l.chain) l.at l.standing;
}

abbrev pub decreases-loop-at : goal.decreases-loop-at
decreases-loop-at l = l.at
