-- It is none of those before this place.
use Rattle.std.proofs.Common.{◌≡◌, map, drop}
use Rattle.vsd_ast.specs.declared.scripts.Host.{Host}
use Rattle.vsd_lanes.specs.Setting.{place_from, host_in}
use Rattle.vsd_lanes.proofs.lookup.host_in.Given as goal

abbrev pub invariant-loop-place : goal.invariant-loop-place
invariant-loop-place l = host_in l.hosts l.name ≡ place_from l.place (map (λ (x : Host). x.name) (drop l.place l.hosts)) l.name
