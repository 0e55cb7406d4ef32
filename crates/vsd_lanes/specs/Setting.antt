-- What stands while a lane is read: the declarations, the sites, the hosts, and for how many operations there is room.
use Rattle.std.specs.Prelude.{ℕ, ◌+◌, nat_lt, Bool, false, if◌then◌else◌, List, [], ◌∷◌, map, Option, Some, None, slice_get}
use Rattle.std.specs.Str.{bytes_eq}
use Rattle.vsd_terms.specs.declared.term.Term.{Term}
use Rattle.vsd_ast.specs.declared.declarations.Decl.{Decl}
use Rattle.vsd_ast.specs.declared.declarations.Decls.{Decls}
use Rattle.vsd_ast.specs.declared.scripts.Site.{Site}
use Rattle.vsd_ast.specs.declared.scripts.Host.{Host}
use Rattle.vsd_lanes.specs.declared.ground.Ground.{Ground}
use Rattle.vsd_lanes.specs.Types.{is_concrete}

pub record Setting : Type 0 where
  pub decls : Decls
  pub sites : List Site
  pub hosts : List Host
  pub room : ℕ

abbrev pub setting : Decls → List Site → List Host → ℕ → Setting
setting decls sites hosts room = record { decls = decls; sites = sites; hosts = hosts; room = room }

abbrev pub setting_of : Ground → Setting
setting_of g = setting g.types.decls.now g.sites.now g.hosts.now g.room

-- the place of a name, where the places of the list begin with this one
unfoldable pub place_from : ℕ → List (List ℕ) → List ℕ → Option ℕ
place_from first [] name = None
place_from first (x ∷ xs) name = if bytes_eq x name then Some first else place_from (first + 1) xs name

-- the place of the site, or of the host, of this name
abbrev pub site_in : List Site → List ℕ → Option ℕ
site_in sites name = place_from 0 (map (λ (s : Site). s.name) sites) name

abbrev pub host_in : List Host → List ℕ → Option ℕ
host_in hosts name = place_from 0 (map (λ (h : Host). h.name) hosts) name

-- a place as a number: there are never more than 256
abbrev pub numbered : Option ℕ → Option ℕ
numbered None = None
numbered (Some place) = if nat_lt place 65536 then Some place else None

abbrev pub site_number : List Site → List ℕ → Option ℕ
site_number sites name = numbered (site_in sites name)

abbrev pub host_number : List Host → List ℕ → Option ℕ
host_number hosts name = numbered (host_in hosts name)

-- the root of this number is of a class that isn't abstract
abbrev pub concrete_term : List Decl → Option Term → Bool
concrete_term ds None = false
concrete_term ds (Some t) = is_concrete ds t

abbrev pub concrete_host : List Decl → List Term → Option Host → Bool
concrete_host ds roots None = false
concrete_host ds roots (Some h) = concrete_term ds (slice_get roots h.root)

-- the host of this number is of a class that isn't abstract
abbrev pub is_concrete_host : Setting → List Term → ℕ → Bool
is_concrete_host e roots host = concrete_host e.decls.list roots (slice_get e.hosts host)
