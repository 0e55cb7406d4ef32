use Rattle.vsd_lanes.proofs.Deciding.{decides_lane}
use Rattle.vsd_lanes.proofs.laws.lanes_are_decided.Goals as goal

pub returns : goal.returns
returns c = decides_lane
