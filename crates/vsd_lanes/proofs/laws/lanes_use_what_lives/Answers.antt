use Rattle.vsd_lanes.proofs.AllowedLemmas.{lane_allowed, lane_fits}
use Rattle.vsd_lanes.proofs.RangeLemmas.{lane_names, lane_adds}
use Rattle.vsd_lanes.proofs.laws.lanes_use_what_lives.Goals as goal

pub returns-clause-live : goal.returns-clause-live
returns-clause-live c = lane_allowed

pub returns-clause-few : goal.returns-clause-few
returns-clause-few c = lane_fits

pub returns-clause-names : goal.returns-clause-names
returns-clause-names c = lane_names

pub returns-clause-roots : goal.returns-clause-roots
returns-clause-roots c = lane_adds
