-- What lanes that are read have in common: their operations name what is there and lives, and are not too many.
use Rattle.std.specs.Prelude.{◌≡◌, ◌≤◌, List, [], ◌++◌, length, All}
use Rattle.vsd_terms.specs.declared.term.Term.{Term}
use Rattle.vsd_ast.specs.WellFormed.{IsName}
use Rattle.vsd_ast.specs.Scripts.{MayFollow}
use Rattle.vsd_grammar.specs.Input.{Input}
use Rattle.vsd_grammar.specs.Grammar.{Derives}
use Rattle.vsd_lanes.specs.declared.repeats.Body.{Body}
use Rattle.vsd_lanes.specs.Setting.{Setting}
use Rattle.vsd_lanes.specs.Types.{IsRoot}
use Rattle.vsd_lanes.specs.Productions.{lane}

-- The operations name sites, hosts, roots and variables that are there, the variables live where they stand, and at most 32 do.
abbrev pub NamesWhatLives : Type 0
NamesWhatLives = (e : Setting) (roots : List Term) (i : Input) (b : Body) (j : Input) → Derives Body (lane e roots) i b j
    → MayFollow (length b.lane.roots) (length e.sites) (length e.hosts) (length b.lane.variables) [] b.lane.running.ops

-- There is room for the operations.
abbrev pub KeepsToRoom : Type 0
KeepsToRoom = (e : Setting) (roots : List Term) (i : Input) (b : Body) (j : Input) → Derives Body (lane e roots) i b j → length b.lane.running.ops ≤ e.room

-- Each name of a variable has 1 to 255 bytes.
abbrev pub HasNames : Type 0
HasNames = (e : Setting) (roots : List Term) (i : Input) (b : Body) (j : Input) → Derives Body (lane e roots) i b j → All IsName b.lane.variables

-- the second list is the first with others after it, each of which has this property
abbrev pub Adds : {A : Type 0} → (A → Type 0) → List A → List A → Type 0
Adds {A} P xs ys = (more : List A) × (ys ≡ xs ++ more) × All P more

-- The roots of the script stay, and further ones are closed and lawful.
abbrev pub AddsRoots : Type 0
AddsRoots = (e : Setting) (roots : List Term) (i : Input) (b : Body) (j : Input) → Derives Body (lane e roots) i b j → Adds (IsRoot e.decls.list) roots b.lane.roots
