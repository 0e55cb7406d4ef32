-- The interfaces of a class: those that it names, each followed depth first by those that it requires (ECMA-335, II.12.2).
use Rattle.std.specs.Prelude.{◌≡◌, ℕ, zero, suc, ◌≤◌, true, false, List, [], ◌∷◌}
use Rattle.std.specs.List.{flat_map}
use Rattle.indexmap.specs.IndexSet.{insert_all}
use Rattle.vsd_terms.specs.declared.term.Term.{Term}
use Rattle.vsd_terms.specs.Equality.{term_eq}
use Rattle.vsd_ast.specs.declared.declarations.Decl.{Decl}
use Rattle.vsd_types.specs.Types.{is_interface_type, named_of}

-- each type of a list where it first stands
abbrev pub firsts : List Term → List Term
firsts ts = insert_all term_eq [] ts

module _ (ds : List Decl) where
  -- an interface, followed depth first by those that it requires, down to a height
  unfoldable pub tree : ℕ → Term → List Term
  tree zero i = []
  tree (suc height) i = i ∷ flat_map (tree height) (named_of ds i)

  -- The interfaces that a type names, each followed by its tree, and each where it first stands. No interface requires
  -- itself, so from some height on nothing is cut off.
  pub record AreReached (t : Term) (interfaces : List Term) : Type 0 where
    pub height : ℕ
    pub whole : (k : ℕ) → height ≤ k → interfaces ≡ firsts (flat_map (tree k) (named_of ds t))

  -- the interfaces of a class; no other type has any
  pub record AreInterfaces (t : Term) (interfaces : List Term) : Type 0 where
    pub class : is_interface_type ds t ≡ false → AreReached t interfaces
    pub other : is_interface_type ds t ≡ true → interfaces ≡ []
