use Rattle.vsd_lanes.proofs.RangeLemmas.{lane_apart, lane_no_hosts}
use Rattle.vsd_lanes.proofs.ObjectLemmas.{lane_calls}
use Rattle.vsd_lanes.proofs.laws.lanes_call_concrete_objects.Goals as goal

pub returns-clause-apart : goal.returns-clause-apart
returns-clause-apart c = lane_apart

pub returns-clause-hosts : goal.returns-clause-hosts
returns-clause-hosts c = lane_no_hosts

pub returns-clause-calls : goal.returns-clause-calls
returns-clause-calls c = lane_calls
