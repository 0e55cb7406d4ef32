-- It is none of those before this place.
use Rattle.std.proofs.Common.{◌≡◌, map, drop}
use Rattle.vsd_ast.specs.declared.scripts.Site.{Site}
use Rattle.vsd_lanes.specs.Setting.{place_from, site_in}
use Rattle.vsd_lanes.proofs.lookup.site_in.Given as goal

abbrev pub invariant-loop-place : goal.invariant-loop-place
invariant-loop-place l = site_in l.sites l.name ≡ place_from l.place (map (λ (x : Site). x.name) (drop l.place l.sites)) l.name
