-- The names of a lane's variables.
use Rattle.std.specs.Prelude.{◌≡◌, ℕ, ◌≤◌, List, length, map, slice_get, Some, All, Contains}
use Rattle.vsd_terms.specs.declared.term.Term.{Term}
use Rattle.vsd_ast.specs.declared.scripts.Host.{Host}
use Rattle.vsd_grammar.specs.Input.{Input}
use Rattle.vsd_grammar.specs.Grammar.{Derives}
use Rattle.vsd_lanes.specs.declared.repeats.Body.{Body}
use Rattle.vsd_lanes.specs.Setting.{Setting}
use Rattle.vsd_lanes.specs.Productions.{lane}

-- no two names are alike
abbrev pub AreApart : List (List ℕ) → Type 0
AreApart names = (i j : ℕ) (name : List ℕ) → slice_get names i ≡ Some name → slice_get names j ≡ Some name → i ≡ j

abbrev pub host_names : List Host → List (List ℕ)
host_names hosts = map (λ (h : Host). h.name) hosts

-- no host has this name
abbrev pub IsNoHost : List Host → List ℕ → Type 0
IsNoHost hosts name = ¬ Contains (host_names hosts) name

-- The variables of a lane have names of their own.
abbrev pub NamesApart : Type 0
NamesApart = (e : Setting) (roots : List Term) (i : Input) (b : Body) (j : Input) → Derives Body (lane e roots) i b j → AreApart b.lane.variables

-- No variable has the name of one of the hosts before its lane, of which there are few enough to be numbered.
abbrev pub NamesNoHost : Type 0
NamesNoHost = (e : Setting) (roots : List Term) (i : Input) (b : Body) (j : Input) → Derives Body (lane e roots) i b j
    → length e.hosts ≤ 65536 → All (IsNoHost e.hosts) b.lane.variables
