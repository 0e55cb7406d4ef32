use Rattle.vsd_trails.proofs.Hits.{hit_parts, parts_hit}
use Rattle.vsd_trails.proofs.operations.hits_exactly.Goals as goal

pub returns : goal.returns
returns c source target version s w again = (hit_parts source target version s w again, parts_hit source target version s w again)
