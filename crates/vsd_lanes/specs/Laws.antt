-- What holds of lanes that are read.
use Rattle.std.specs.Prelude.{◌≡◌, ◌↔◌, ℕ, List, ◌∷◌, ◌++◌, map, Ok, Err}
use Rattle.vsd_terms.specs.declared.term.Term.{Term}
use Rattle.vsd_grammar.specs.Input.{Input}
use Rattle.vsd_grammar.specs.Grammar.{Derives}
use Rattle.vsd_lanes.specs.declared.tree.Written.{Written}
use Rattle.vsd_lanes.specs.declared.tree.Running.{Running}
use Rattle.vsd_lanes.specs.declared.tree.Refusal.{Refusal}
use Rattle.vsd_lanes.specs.declared.repeats.Body.{Body}
use Rattle.vsd_lanes.specs.Meaning.{once, makes, joined, written_of, op_of}
use Rattle.vsd_lanes.specs.Setting.{Setting}
use Rattle.vsd_lanes.specs.Productions.{lane, empty}

-- what stands in a lane, with repeats written out
abbrev pub written_out : Body → List Written
written_out b = joined (map written_of b.items)

-- The operations of a lane that is read are those that stand in it, with repeats written out: each could be made there.
abbrev pub MeansItsItems : Type 0
MeansItsItems = (e : Setting) (roots : List Term) (i : Input) (b : Body) (j : Input) → Derives Body (lane e roots) i b j
    → makes e.room (written_out b) (empty roots).lane.running ≡ Ok b.lane.running

abbrev pub HasOpsOfItems : Type 0
HasOpsOfItems = (e : Setting) (roots : List Term) (i : Input) (b : Body) (j : Input) → Derives Body (lane e roots) i b j
    → b.lane.running.ops ≡ map op_of (written_out b)

-- The first of these operations that can't be made: those before it are made, and it is refused after them.
pub record IsFirstRefused (room : ℕ) (ws : List Written) (s : Running) (r : Refusal) : Type 0 where
  pub before : List Written
  pub here : Written
  pub after : List Written
  pub whole : ws ≡ before ++ here ∷ after
  pub made : Running
  pub makes_before : makes room before s ≡ Ok made
  pub refused : once room here made ≡ Err r

-- What operations are refused for is what the first that can't be made is refused for.
abbrev pub RefusesTheFirst : Type 0
RefusesTheFirst = (room : ℕ) (ws : List Written) (s : Running) (r : Refusal) → (makes room ws s ≡ Err r) ↔ IsFirstRefused room ws s r
