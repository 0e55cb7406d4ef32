-- The terms before this place are the inherited ones, one by one, and the parameters of the others have arguments.
use Rattle.std.proofs.Common.{◌≡◌, length, map, take, drop}
use Rattle.vsd_lift.specs.Chain.{envs_of}
use Rattle.vsd_lift.specs.Lift.{lift, AllFit}
use Rattle.vsd_lift.proofs.equality_up.+same_up.Given as goal

abbrev pub invariant-all_same_up-loop-i : goal.invariant-all_same_up-loop-i
invariant-all_same_up-loop-i l = record {
  long : length l.xs ≡ length l.ys;
  before : take l.i l.xs ≡ take l.i (map (lift (envs_of l.decls l.chain) l.level) l.ys);
  fit : AllFit (envs_of l.decls l.chain) l.level (drop l.i l.ys);
}
