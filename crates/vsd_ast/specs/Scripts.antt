-- What the grammar and its limits make of scripts: numbers in range, lists not too long, variables that live where they are used.
use Rattle.std.specs.Prelude.{ℕ, ◌<◌, ◌≤◌, cond, nat_eq, List, [], ◌∷◌, ◌++◌, length, sum_by, All, Contains}
use Rattle.vsd_ast.specs.WellFormed.{IsName}
use Rattle.vsd_ast.specs.declared.scripts.Host.{Host}
use Rattle.vsd_ast.specs.declared.scripts.Lane.{Lane}
use Rattle.vsd_ast.specs.declared.scripts.Op.{Op}
use Rattle.vsd_ast.specs.declared.scripts.Op.TheVariants.{Load, Unload, Call, Cast}
use Rattle.vsd_ast.specs.declared.scripts.Script.{Script}
use Rattle.vsd_ast.specs.declared.scripts.Site.{Site}
use Rattle.vsd_ast.specs.declared.scripts.Var.{Var}
use Rattle.vsd_ast.specs.declared.scripts.Var.TheVariants as var

-- the variables without this one, which stands there once at most
abbrev pub without : List ℕ → ℕ → List ℕ
without [] variable = []
without (other ∷ others) variable = cond (nat_eq other variable) others (other ∷ without others variable)

-- the variables of a lane that live after an operation, in order of loading
abbrev pub live_after : List ℕ → Op → List ℕ
live_after live (Load variable root) = live ++ variable ∷ []
live_after live (Unload variable) = without live variable
live_after live (Call site object) = live
live_after live (Cast source target) = live

-- among so many roots, sites, hosts, and names of variables
module _ (roots sites hosts names : ℕ) where
  -- a host that is there, or a variable that lives
  abbrev pub IsThere : List ℕ → Var → Type 0
  IsThere live (var.Host host) = host < hosts
  IsThere live (var.Own variable) = (variable < names) × Contains live variable

  -- an operation that may be made where these variables live: at most 32 live at once
  abbrev pub MayBeMade : List ℕ → Op → Type 0
  MayBeMade live (Load variable root) = (variable < names) × (root < roots) × (¬ Contains live variable) × (length live < 32)
  MayBeMade live (Unload variable) = (variable < names) × Contains live variable
  MayBeMade live (Call site object) = (site < sites) × IsThere live object
  MayBeMade live (Cast source target) = IsThere live source × IsThere live target

  -- operations that may be made one after another
  abbrev pub MayFollow : List ℕ → List Op → Type 0
  MayFollow live [] = Unit {0}
  MayFollow live (op ∷ ops) = MayBeMade live op × MayFollow (live_after live op) ops

pub record IsLane (roots sites hosts : ℕ) (lane : Lane) : Type 0 where
  pub names : All IsName lane.names
  pub ops : MayFollow roots sites hosts (length lane.names) [] lane.ops

pub record IsSite (roots : ℕ) (site : Site) : Type 0 where
  pub name : IsName site.name
  pub root : site.root < roots
  pub slot : site.slot < 256

pub record IsHost (roots : ℕ) (host : Host) : Type 0 where
  pub name : IsName host.name
  pub root : host.root < roots

-- A script within its limits, whose numbers name what is there.
pub record IsWellFormedScript (script : Script) : Type 0 where
  pub few_sites : length script.sites ≤ 256
  pub few_hosts : length script.hosts ≤ 256
  pub few_lanes : length script.lanes ≤ 64
  pub few_ops : sum_by (λ (lane : Lane). length lane.ops) script.lanes ≤ 200000
  pub sites : All (IsSite (length script.roots)) script.sites
  pub hosts : All (IsHost (length script.roots)) script.hosts
  pub lanes : All (IsLane (length script.roots) (length script.sites) (length script.hosts)) script.lanes
