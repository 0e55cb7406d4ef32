use Rattle.vsd_lanes.proofs.VariableLemmas.{put_last}
use Rattle.vsd_lanes.proofs.variables.Variables.append.Goals as goal

pub returns : goal.returns
returns c = put_last c.args.name.now c.self.inside.set.keys c.insert.new.self.keys c.in_ok-key.key c.args.self.now c.self.view_is c.requires c.in_ok-key.ensures.items c.in_ok-insert.ensures.keys
