-- Which names a script gives, and what its calls are made on.
use Rattle.std.specs.Prelude.{ℕ, ◌≤◌, List, length, map, take, All}
use Rattle.vsd_ast.specs.declared.declarations.Decls.{Decls}
use Rattle.vsd_ast.specs.declared.scripts.Host.{Host}
use Rattle.vsd_ast.specs.declared.scripts.Lane.{Lane}
use Rattle.vsd_ast.specs.declared.scripts.Script.{Script}
use Rattle.vsd_ast.specs.declared.scripts.Site.{Site}
use Rattle.vsd_ast.specs.Scripts.{IsLane}
use Rattle.vsd_lanes.specs.Naming.{AreApart, IsNoHost, host_names}
use Rattle.vsd_lanes.specs.Objects.{CallsConcrete}

abbrev pub site_names : List Site → List (List ℕ)
site_names sites = map (λ (s : Site). s.name) sites

-- The variables of a lane have names of their own. So many hosts stand before the lane: its operations name no others, and
-- none of its variables has the name of one of them.
pub record NamesItsOwn (roots sites : ℕ) (hosts : List Host) (lane : Lane) : Type 0 where
  pub apart : AreApart lane.names
  pub before : ℕ
  pub within : before ≤ length hosts
  pub knows : IsLane roots sites before lane
  pub no_host : All (IsNoHost (take before hosts)) lane.names

-- Sites have names of their own, and so have hosts, and the variables of a lane.
pub record HasOwnNames (s : Script) : Type 0 where
  pub sites : AreApart (site_names s.sites)
  pub hosts : AreApart (host_names s.hosts)
  pub lanes : All (NamesItsOwn (length s.roots) (length s.sites) s.hosts) s.lanes

-- Each call of the script is made on an object of a class that isn't abstract.
abbrev pub CallsOnlyConcrete : Decls → Script → Type 0
CallsOnlyConcrete d s = All (λ (lane : Lane). CallsConcrete d.list s.roots s.hosts lane.ops) s.lanes
