use Rattle.vsd_lanes.proofs.Meant.{lane_means, lane_ops}
use Rattle.vsd_lanes.proofs.Refusing.{refuses_the_first}
use Rattle.vsd_lanes.proofs.laws.lanes_mean_their_items.Goals as goal

pub returns-clause-made : goal.returns-clause-made
returns-clause-made c = lane_means

pub returns-clause-ops : goal.returns-clause-ops
returns-clause-ops c = lane_ops

pub returns-clause-first : goal.returns-clause-first
returns-clause-first c = refuses_the_first
