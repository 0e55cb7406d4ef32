-- What the calls of a lane are made on.
use Rattle.std.specs.Prelude.{◌≡◌, ℕ, true, List, ◌∷◌, ◌++◌, slice_get, Some, All}
use Rattle.vsd_terms.specs.declared.term.Term.{Term}
use Rattle.vsd_ast.specs.declared.declarations.Decl.{Decl}
use Rattle.vsd_ast.specs.declared.scripts.Host.{Host}
use Rattle.vsd_ast.specs.declared.scripts.Op.{Op}
use Rattle.vsd_ast.specs.declared.scripts.Op.TheVariants.{Load, Call}
use Rattle.vsd_ast.specs.declared.scripts.Var.{Var}
use Rattle.vsd_ast.specs.declared.scripts.Var.TheVariants as var
use Rattle.vsd_grammar.specs.Input.{Input}
use Rattle.vsd_grammar.specs.Grammar.{Derives}
use Rattle.vsd_lanes.specs.declared.repeats.Body.{Body}
use Rattle.vsd_lanes.specs.Types.{is_concrete}
use Rattle.vsd_lanes.specs.Setting.{Setting}
use Rattle.vsd_lanes.specs.Productions.{lane}

-- the root of this number is there, and is of a class that isn't abstract
pub record IsConcreteRoot (ds : List Decl) (roots : List Term) (root : ℕ) : Type 0 where
  pub term : Term
  pub there : slice_get roots root ≡ Some term
  pub concrete : is_concrete ds term ≡ true

-- The variable's latest load among these operations is of this root: no load of the variable follows it.
pub record IsLoadedLast (variable root : ℕ) (ops : List Op) : Type 0 where
  pub before : List Op
  pub after : List Op
  pub whole : ops ≡ before ++ Load variable root ∷ after
  pub last : All (λ op. (other : ℕ) → ¬ (op ≡ Load variable other)) after

module _ (ds : List Decl) (roots : List Term) (hosts : List Host) where
  -- after these operations the type that the object has, a host's or that of the variable's latest load, is a class that isn't abstract
  abbrev pub IsConcreteObject : List Op → Var → Type 0
  IsConcreteObject ops (var.Host number) = (host : Host) × (slice_get hosts number ≡ Some host) × IsConcreteRoot ds roots host.root
  IsConcreteObject ops (var.Own variable) = (root : ℕ) × IsLoadedLast variable root ops × IsConcreteRoot ds roots root

  -- each call among these operations has such an object where it is made
  abbrev pub CallsConcrete : List Op → Type 0
  CallsConcrete ops = (before after : List Op) (site : ℕ) (object : Var) → ops ≡ before ++ Call site object ∷ after → IsConcreteObject before object

-- Each call of a lane is made on an object of a class that isn't abstract.
abbrev pub CallsObjects : Type 0
CallsObjects = (e : Setting) (roots : List Term) (i : Input) (b : Body) (j : Input) → Derives Body (lane e roots) i b j
    → CallsConcrete e.decls.list b.lane.roots e.hosts b.lane.running.ops
