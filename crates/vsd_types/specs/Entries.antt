-- What is kept of each listed type, by the numbers of others.
use Rattle.std.specs.Prelude.{◌≡◌, ℕ, ◌<◌, ◌≤◌, List, length, Some, IfSome, slice_get}
use Rattle.std.specs.Option.{option_to_list}
use Rattle.vsd_terms.specs.declared.term.Term.{Term}
use Rattle.vsd_ast.specs.declared.declarations.Decl.{Decl}
use Rattle.vsd_ast.specs.Lookup.{head_of}
use Rattle.vsd_types.specs.declared.entry.Entry.{Entry}
use Rattle.vsd_types.specs.declared.kind.Kind.{Kind}
use Rattle.vsd_types.specs.Types.{IsClosedType, base_of, named_of, signs_of, children, is_interface_type, is_reference_type, place_of_head}
use Rattle.vsd_types.specs.Numbers.{AreNumbers, IsDistinct}

-- what a type is, apart from the types that it leads to
pub record IsKind (ds : List Decl) (t : Term) (k : Kind) : Type 0 where
  pub declaration : k.declaration ≡ place_of_head ds (head_of t)
  pub within : IfSome k.declaration (λ place. place < length ds)
  pub signs : k.signs ≡ signs_of ds t
  pub is_interface : k.is_interface ≡ is_interface_type ds t
  pub is_reference : k.is_reference ≡ is_reference_type ds t

-- the entry of a type
pub record IsEntry (ds : List Decl) (types : List Term) (t : Term) (e : Entry) : Type 0 where
  pub type : IsClosedType ds t
  pub kind : IsKind ds t e.kind
  pub children : AreNumbers types e.children (children ds t)
  pub bases : e.bases ≡ length (option_to_list (base_of ds t))
  pub interfaces : e.interfaces ≡ length (named_of ds t)

-- the entries of the first types of a list
abbrev pub AreEntries : List Decl → List Term → List Entry → Type 0
AreEntries ds types entries = (i : ℕ) (t : Term) (e : Entry) → slice_get types i ≡ Some t → slice_get entries i ≡ Some e → IsEntry ds types t e

-- the types of a closed list with their entries
pub record AreKept (ds : List Decl) (types : List Term) (entries : List Entry) : Type 0 where
  pub few : length types ≤ 1024
  pub count : length entries ≡ length types
  pub distinct : IsDistinct types
  pub right : AreEntries ds types entries
