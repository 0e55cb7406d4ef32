-- Declarations as a graph: which declarations each one names.
use Rattle.std.specs.Prelude.{◌≡◌, ℕ, Bool, false, not, cond, List, map, filter, Option, Some, None, filter_map}
use Rattle.vsd_terms.specs.declared.term.Term.{Term}
use Rattle.vsd_ast.specs.Hierarchy.{base_terms}
use Rattle.vsd_ast.specs.Lookup.{Head, named, parameter, built_in, head_of, declared}
use Rattle.vsd_ast.specs.declared.declarations.Decl.{Decl}
use Rattle.vsd_ast.specs.declared.declarations.Located.{Located}
use Rattle.vsd_graph.specs.Graph.{ReachesItself}
use Rattle.vsd_lawful.specs.Index.{place_in}

abbrev pub interface_terms : List Located → List Term
interface_terms interfaces = map (λ (i : Located). i.term) interfaces

abbrev pub is_interface : Option Decl → Bool
is_interface None = false
is_interface (Some x) = x.is_interface

abbrev pub is_class : Option Decl → Bool
is_class None = false
is_class (Some x) = not x.is_interface

module _ (ds : List Decl) where
  -- the declaration that a head names, if it is there
  abbrev pub named_by : Head → Option Decl
  named_by (named name) = declared ds name
  named_by (parameter place) = None
  named_by (built_in b) = None

  -- What one follows upward from a declaration, which is always of its own kind: from an interface the interfaces that it
  -- requires, from a class its base where that is a class.
  abbrev pub required : List Located → List Term
  required interfaces = filter (λ t. is_interface (named_by (head_of t))) (interface_terms interfaces)

  abbrev pub base_class : Option Located → List Term
  base_class base = filter (λ t. is_class (named_by (head_of t))) (base_terms base)

  abbrev pub followed : Decl → List Term
  followed x = cond x.is_interface (required x.interfaces) (base_class x.base)

  abbrev pub place_named : Head → Option ℕ
  place_named (named name) = place_in ds name
  place_named (parameter place) = None
  place_named (built_in b) = None

  -- the places of the declarations that the terms are of
  abbrev pub places_of : List Term → List ℕ
  places_of ts = filter_map (λ t. place_named (head_of t)) ts

  -- for each declaration the places of those that the terms chosen of it name
  abbrev pub graph_of : (Decl → List Term) → List (List ℕ)
  graph_of terms = map (λ x. places_of (terms x)) ds

  -- a class that reaches itself by bases, each a class, or an interface by the interfaces that it requires, each an
  -- interface, at its line (II.22.37, II.22.23)
  abbrev pub ShowsCycle : ℕ → Decl → ℕ → Type 0
  ShowsCycle place x line = ReachesItself (graph_of followed) place × (line ≡ x.line)
